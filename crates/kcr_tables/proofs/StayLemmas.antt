-- The stays of a ceremony, and of some people the one that began last.
use Rattle.kcr_tables.proofs.Common.{◌≡◌, inl, inr, ◌≤◌, ◌&&◌, not, Bool, true, false, cond, ℕ, List, [], ◌∷◌, ◌++◌, filter, map, Option, Some, None}
use Rattle.kcr_tables.proofs.Common.{refl, sym, ap, subst, ◌∙◌, arith, append_assoc, append-nil, IsPermutation, Less, rules, AllByRecursion, eq-eqb}
use Rattle.kcr_tables.proofs.Common.{not-true, filter-append, nat_tests, IsPermutation-sym, IsPermutation-trans, IsPermutation-append_left}
use Rattle.kcr_tables.proofs.Common.{sum_by-IsPermutation, IsAscending, Has, all_from, has_either, has_left, has_right, has_kept}
use Rattle.kcr_tables.proofs.Common.{IsPermutation-filter, all-append, all_weaker, filter_none, same_text, in-order, of_ceremony, stay_reaches, Stay}
use Rattle.kcr_tables.proofs.Common.{Selection, Nothing, Matching, All, last_of, last_stay, ShowsLast, ShowsStaysOf, IncludesStays, HasStayCount}
use Rattle.kcr_tables.proofs.Common.{by_key, IsGreatest, has_same, stay_row}
use Rattle.std.proofs.lemmas.Slice.Eq.{bytes_eq-Decides}
use Rattle.kcr_history.specs.declared.views.StayFilter.{StayFilter}
use Rattle.kcr_tables.proofs.{JointLemmas.key_of_stays, NamedLemmas.twice, MostLemmas.shown_has, MostLemmas.shown_over}
use Rattle.kcr_tables.proofs.HasLemmas.{has_in, in_has, filter_from, filter_is, one_key_of}

-- ---- the stay of a list that began last

last_has : (xs : List Stay) (z : Stay) → last_of xs ≡ Some z → Has xs z
last_has [] z h = absurd (cc)
last_has (x ∷ xs) z h = grind (arith, last_has xs z)

last_none : (xs : List Stay) (x : Stay) → last_of xs ≡ None → Has xs x → ⊥
last_none [] x h there = there
last_none (y ∷ xs) x h there = grind arith

last_most : (xs : List Stay) (z : Stay) → last_of xs ≡ Some z → (x : Stay) → Has xs x → x.since ≤ z.since
last_most [] z h x there = absurd there
last_most (y ∷ xs) z h x (inl same) = grind (arith, nat_tests, ap (λ (s : Stay). s.since) same)
last_most (y ∷ xs) z h x (inr there) =
    let none : last_of xs ≡ None → ⊥ = λ e. last_none xs x e there in
    let low : (w : Stay) → last_of xs ≡ Some w → x.since ≤ w.since = λ w e. last_most xs w e x there in grind (arith, nat_tests)

-- a list of stays that another has, with the other's last, has the same last, if no two of them began at once
last_within : (xs ys : List Stay) → ((x : Stay) → Has xs x → Has ys x) → ((z : Stay) → last_of ys ≡ Some z → Has xs z)
    → ((x y : Stay) → Has ys x → Has ys y → x.since ≡ y.since → x ≡ y) → last_of xs ≡ last_of ys
last_within xs ys into has one = by_last (last_of xs) (last_of ys) refl refl
  where
    by_last : (o p : Option Stay) → last_of xs ≡ o → last_of ys ≡ p → o ≡ p
    by_last None None d e = refl
    by_last None (Some s) d e = absurd (last_none xs s d (has s e))
    by_last (Some z) None d e = absurd (last_none ys z e (into z (last_has xs z d)))
    by_last (Some z) (Some s) d e =
        let there = into z (last_has xs z d) in
        let high = last_most xs z d s (has s e) in
        let low = last_most ys s e z there in ap Some (one z s there (last_has ys s e) (omega (arith, high, low)))

-- ---- of one person

-- the stay is this person's
abbrev pub is_of : List ℕ → Stay → Bool
is_of who stay = same_text stay.who who

-- no two stays of a person began at once
abbrev pub Apart : List Stay → Type 0
Apart table = (x y : Stay) → Has table x → Has table y → same_text x.who y.who ≡ true → x.since ≡ y.since → x ≡ y

-- of stays that rise by their keys, no two of one person began at once
pub apart_of : (table : List Stay) → IsAscending (λ a b. by_key 2 a b ≡ Less) (map stay_row table) → Apart table
apart_of table up x y h k who since =
    one_key_of 2 stay_row table up x y h k (sym (key_of_stays y x) ∙ (λ i. who i && eq-eqb x.since y.since since i))

same_who : (who a b : List ℕ) → same_text a who ≡ true → same_text b who ≡ true → same_text a b ≡ true
same_who who a b p q = (bytes_eq-Decides a b).1 ((bytes_eq-Decides a who).0 p ∙ sym ((bytes_eq-Decides b who).0 q))

-- the table's last stay of the person is among the rows
abbrev pub HasLast : List Stay → List Stay → List ℕ → Type 0
HasLast table rows who = (last : List Stay) × IsGreatest (λ x. x.since) (filter (is_of who) table) last × ((x : Stay) → Has last x → Has rows x)

one_of : (table : List Stay) → Apart table → (who : List ℕ) (x y : Stay) → Has (filter (is_of who) table) x → Has (filter (is_of who) table) y
    → x.since ≡ y.since → x ≡ y
one_of table apart who x y h k = search (rules, filter_from, same_who, filter_is)

-- the person's last stay among the rows is the last one in the table
same_last : (table rows : List Stay) → Apart table → ((x : Stay) → Has rows x → Has table x) → (who : List ℕ) → HasLast table rows who
    → last_stay rows who ≡ last_stay table who
same_last table rows apart within who (last, greatest, shown) =
    let all = filter (is_of who) table in
    last_within _ all (λ x h. has_kept (is_of who) table x (within x (filter_from (is_of who) rows x h)) (filter_is (is_of who) rows x h)) (λ z e.
    let there = last_has all z e in
    let over = shown_over (λ (x : Stay). x.since) all last greatest z there in
    let found = shown_has (λ (x : Stay). x.since) all last greatest over.0 over.1 in
    let low = last_most all z e over.0 found in
    let high = over.2 in
    let is = one_of table apart who over.0 z found there (omega (arith, low, high)) in
    has_kept (is_of who) rows z (subst (Has rows) is (shown over.0 over.1)) (filter_is (is_of who) table z there)) (one_of table apart who)

-- ---- the rows gathered so far

-- the rows are the table's that pass and others that do not, and have the last stay of each of the people
pub record Gathered (mine : Stay → Bool) (people : List (List ℕ)) (table rows : List Stay) : Type 0 where
  pub more : List Stay
  pub are : IsPermutation (filter mine table ++ more) rows
  pub elsewhere : filter mine more ≡ []
  pub there : (x : Stay) → Has more x → Has table x
  pub last : AllByRecursion (HasLast table rows) people

-- at first those that pass
pub room_gathered : (mine : Stay → Bool) (table rows : List Stay) → IsPermutation (filter mine table) rows → Gathered mine [] table rows
room_gathered mine table rows are = search (rules, append-nil)

none_both : {X : Type 0} (p : X → Bool) (xs : List X) → filter p (filter (λ x. not (p x)) xs) ≡ []
none_both p xs = filter_none p _ (all_from _ _ (λ x h. not-true _ (filter_is (λ y. not (p y)) xs x h)))

module _ (mine : Stay → Bool) (people : List (List ℕ)) (table rows last found : List Stay) (who : List ℕ) (had : Gathered mine people table rows)
    (greatest : IsGreatest (λ x. x.since) (filter (is_of who) table) last) (found_is : found ≡ filter (λ x. not (mine x)) last) where
  in_table : (x : Stay) → Has last x → Has table x
  in_table x h = filter_from (is_of who) table x (shown_has (λ (x : Stay). x.since) _ last greatest x h)

  here : (x : Stay) → Has last x → Has (rows ++ found) x
  here x h = by_test (mine x) refl
    where
      by_test : (b : Bool) → mine x ≡ b → Has (rows ++ found) x
      by_test true e = has_left rows found x
          (has_same _ rows x had.are (has_left (filter mine table) had.more x (has_kept mine table x (in_table x h) e)))
      by_test false e = has_right rows found x (subst (λ l. Has l x) (sym found_is) (has_kept (λ y. not (mine y)) last x h (ap not e)))

  -- with one person's last stay added, the rows have the last stay of one person more
  pub more_gathered : Gathered mine (people ++ who ∷ []) table (rows ++ found)
  more_gathered = record {
    more = had.more ++ found;
    are = rw (append_assoc (filter mine table) had.more found) at (IsPermutation-append_left found _ rows had.are);
    elsewhere = rw (filter-append mine had.more found, had.elsewhere, found_is, none_both mine last) refl;
    there = λ x h. elim (has_either had.more found x h)
        [ inl before ↦ had.there x before | inr new ↦ in_table x (filter_from (λ y. not (mine y)) last x (subst (λ l. Has l x) found_is new)) ];
    last = all-append (HasLast table (rows ++ found)) people (who ∷ []) (search (rules, all_weaker, has_left)) ((last, greatest, here), tt);
  }

all_last : (table rows : List Stay) → Apart table → ((x : Stay) → Has rows x → Has table x) → (people : List (List ℕ))
    → AllByRecursion (HasLast table rows) people → ShowsLast people table rows
all_last table rows apart within [] all = tt
all_last table rows apart within (who ∷ people) all = (same_last table rows apart within who all.0, all_last table rows apart within people all.1)

-- rows gathered for all people asked for show the stays asked for, if no two of one person began at once
pub gathered_shows : (asked : StayFilter) (table rows : List Stay) → Apart table
    → Gathered (stay_reaches asked.ceremony asked.at) asked.people table rows → ShowsStaysOf asked table rows
gathered_shows asked table rows apart had =
    let mine = stay_reaches asked.ceremony asked.at in
    let within : (x : Stay) → Has rows x → Has table x = λ x h.
    elim (has_either (filter mine table) had.more x (has_same rows _ x (IsPermutation-sym _ rows had.are) h))
    [ inl room ↦ filter_from mine table x room | inr more ↦ had.there x more ] in
    record {
      room = rw (filter-append mine (filter mine table) had.more, had.elsewhere, append-nil, twice mine table) at
          (IsPermutation-filter mine _ rows had.are);
      last = all_last table rows apart within asked.people had.last;
      within = λ x i. has_in x table (within x (in_has x rows i));
    }

-- ---- the same stays in another order

order_last : (xs ys : List Stay) → Apart ys → IsPermutation xs ys → (who : List ℕ) → last_stay xs who ≡ last_stay ys who
order_last xs ys apart same who =
    let p = IsPermutation-filter (is_of who) xs ys same in
    last_within _ _ (λ x. has_same _ _ x p) (λ z e. has_same _ _ z (IsPermutation-sym _ _ p) (last_has _ z e)) (one_of ys apart who)

order_lasts : (xs ys rows : List Stay) → Apart ys → IsPermutation xs ys → (people : List (List ℕ)) → ShowsLast people ys rows → ShowsLast people xs rows
order_lasts xs ys rows apart same [] h = tt
order_lasts xs ys rows apart same (who ∷ people) h = (h.0 ∙ sym (order_last xs ys apart same who), order_lasts xs ys rows apart same people h.1)

-- rows that show the stays asked for show them of the table in any order, if no two of one person began at once
pub stays_shown : (asked : Selection StayFilter) (xs ys rows : List Stay) → Apart ys → IsPermutation xs ys → IncludesStays asked ys rows → IncludesStays asked xs rows
stays_shown Nothing xs ys rows apart same h = tt
stays_shown (Matching asked) xs ys rows apart same h = record {
  room = IsPermutation-trans _ _ _ (IsPermutation-filter (stay_reaches asked.ceremony asked.at) xs ys same) h.room;
  last = order_lasts xs ys rows apart same asked.people h.last;
  within = λ x i. in-order x xs ys same (h.within x i);
}
stays_shown All xs ys rows apart same h = IsPermutation-trans _ _ _ same h

-- and as many of a ceremony
pub entries_shown : (asked : Option ℕ) (xs ys : List Stay) (count : ℕ) → IsPermutation xs ys → HasStayCount asked ys count → HasStayCount asked xs count
entries_shown None xs ys count same h = tt
entries_shown (Some ceremony) xs ys count same h = h ∙ sum_by-IsPermutation (λ s. cond (of_ceremony ceremony s) 1 0) xs ys same

-- The stays of a sheet made in turn: of a person's stays each ended before the next began, so the last one tells whose turn it is.
use Rattle.kcr_machine.proofs.Common.{◌≡◌, ℕ, ◌<◌, ◌≤◌, Bool, true, false, List, [], ◌∷◌, ◌++◌, map, filter, Option, Some, None, refl, sym, ◌∙◌}
use Rattle.kcr_machine.proofs.Common.{subst, arith, ◌⊎◌, inl, inr, rules, list_any, IsPermutation, true≢false, or_parts, leb-true, leb-false}
use Rattle.kcr_machine.proofs.Common.{and_right, same_Some, none-some, same_text, same-is, same-turned, SheetRow, Stay, Way, Leave, stays_by}
use Rattle.kcr_machine.proofs.Common.{has_no_end, reaches, is_inside, is_inside_of, is_out_of_turn_in, new_stay, with_end, new_row, IsSheet}
use Rattle.kcr_machine.proofs.Common.{same-turns, added, row-added, made-in-turn, last_of, last_stay, ShowsLast, IsIn, any-in, filter-in, in-any}
use Rattle.kcr_machine.proofs.Common.{in-append, in-behind, in-filter, in-front, in-map, in-order, map-in, none-in, same-answers}
use Rattle.kcr_room.specs.declared.Way.TheVariants.{Enter}

-- THE LAST STAY OF A LIST

-- there is none, or none began later
abbrev IsLastOf : List Stay → Option Stay → Type 0
IsLastOf stays None = (r : Stay) → IsIn r stays → ⊥
IsLastOf stays (Some s) = IsIn s stays × ((r : Stay) → IsIn r stays → r.since ≤ s.since)

last_of-is : (stays : List Stay) → IsLastOf stays (last_of stays)
last_of-is [] = λ r i. i
last_of-is (stay ∷ stays) = grind (arith, leb-true, leb-false, last_of-is stays)

-- a person who has a stay has a last one
last-stay : (stays : List Stay) (who : List ℕ) (r : Stay) → IsIn r stays → same_text r.who who ≡ true
    → (s : Stay) × (last_stay stays who ≡ Some s) × IsIn s stays × (same_text s.who who ≡ true) × (r.since ≤ s.since)
last-stay stays who r i e = by_last (last_stay stays who) refl (last_of-is (filter own stays))
  where
    own : Stay → Bool
    own stay = same_text stay.who who

    by_last : (o : Option Stay) → last_stay stays who ≡ o → IsLastOf (filter own stays) o
        → (s : Stay) × (last_stay stays who ≡ Some s) × IsIn s stays × (same_text s.who who ≡ true) × (r.since ≤ s.since)
    by_last None f h = absurd (h r (filter-in own r stays i e))
    by_last (Some s) f h = let k = in-filter own s stays h.0 in (s, f, k.0, k.1, h.1 r (filter-in own r stays i e))

-- the last stay of a person is one of the stays
pub last-in : (stays : List Stay) (who : List ℕ) (s : Stay) → last_stay stays who ≡ Some s → IsIn s stays
last-in stays who s e = grind (arith, in-filter, last_of-is)

-- of each of the people the view has the last stay
pub last-shown : (table rows : List Stay) (people : List (List ℕ)) → ShowsLast people table rows → (who : List ℕ) → IsIn who people
    → last_stay rows who ≡ last_stay table who
last-shown table rows [] h who i = absurd i
last-shown table rows (first ∷ people) h who (inl e) = rw e h.0
last-shown table rows (first ∷ people) h who (inr i) = last-shown table rows people h.1 who i

-- STAYS ONE AFTER THE OTHER

-- it ended at the moment or before
abbrev pub EndsBy : ℕ → Option ℕ → Type 0
EndsBy at until = (u : ℕ) × (until ≡ Some u) × (u ≤ at)

-- two stays of a person are one, or the earlier ended before the later began
pub record IsClear (stays : List Stay) : Type 0 where
  pub apart : (r s : Stay) → IsIn r stays → IsIn s stays → same_text r.who s.who ≡ true → r.since ≤ s.since
      → (r ≡ s) ⊎ ((r.since < s.since) × EndsBy s.since r.until)

-- clear stays are so in any order
pub clear-order : (xs ys : List Stay) → IsPermutation xs ys → IsClear xs → IsClear ys
clear-order xs ys p h = record { apart = λ r s i j. h.apart r s (in-order r xs ys p i) (in-order s xs ys p j) }

-- a stay of somebody whose turn it is to come: it ended before
pub before-enter : (stays : List Stay) (c at : ℕ) (who : List ℕ) → is_out_of_turn_in stays c Enter at who ≡ false → (r : Stay) → IsIn r stays
    → same_text r.who who ≡ true → (r.since < at) × EndsBy at r.until
before-enter stays c at who h r i e = grind (arith, or_parts, none-in, true≢false, leb-false)

in-last : {X : Type 0} (x y : X) (xs : List X) → IsIn x (xs ++ y ∷ []) → IsIn x xs ⊎ (x ≡ y)
in-last x y xs i = elim (in-append x xs (y ∷ []) i) [ inl j ↦ inl j | inr (inl e) ↦ inr e | inr (inr none) ↦ absurd none ]

clear-enter : (stays : List Stay) (c at : ℕ) (who : List ℕ) → is_out_of_turn_in stays c Enter at who ≡ false → IsClear stays
    → IsClear (stays ++ new_stay c at who ∷ [])
clear-enter stays c at who h clear = record { apart = λ r s i j. both r s (in-last r new stays i) (in-last s new stays j) }
  where
    new : Stay
    new = new_stay c at who

    earlier : (r s : Stay) → IsIn r stays → s ≡ new → same_text r.who s.who ≡ true → (r.since < s.since) × EndsBy s.since r.until
    earlier r s i k e = rw k (before-enter stays c at who h r i (rw k at e))

    both : (r s : Stay) → IsIn r stays ⊎ (r ≡ new) → IsIn s stays ⊎ (s ≡ new) → same_text r.who s.who ≡ true → r.since ≤ s.since
        → (r ≡ s) ⊎ ((r.since < s.since) × EndsBy s.since r.until)
    both r s h g e l = grind (arith, earlier, same-turned)

-- a stay that has an end keeps it
closed-ended : (people : List (List ℕ)) (at : ℕ) (stay : Stay) (u : ℕ) → stay.until ≡ Some u → (with_end people at stay).until ≡ Some u
closed-ended people at stay u e = grind (arith, and_right)

clear-leave : (stays : List Stay) (at : ℕ) (people : List (List ℕ)) → IsClear stays → IsClear (map (with_end people at) stays)
clear-leave stays at people clear = grind (arith, in-map, closed-ended)

-- SHEETS MADE IN TURN, ROW BY ROW

stays-in-turn : (P : List SheetRow → Type 0)
    → ((before : List SheetRow) (row : SheetRow) → is_out_of_turn_in (stays_by before) row.ceremony row.way row.at row.who ≡ false
    → stays_by (before ++ row ∷ []) ≡ added row.ceremony row.way row.at (row.who ∷ []) (stays_by before) → P before → P (before ++ row ∷ []))
    → P [] → (rows : List SheetRow) → IsSheet rows → P rows
stays-in-turn P next = made-in-turn P (λ before row s turn p.
    next before row (sym (same-turns before s row.ceremony row.way row.at row.who) ∙ turn) (row-added before row s turn) p)

-- the stays of a sheet made in turn
clear-row : (c : ℕ) (way : Way) (at : ℕ) (who : List ℕ) (stays : List Stay) → is_out_of_turn_in stays c way at who ≡ false → IsClear stays
    → IsClear (added c way at (who ∷ []) stays)
clear-row c way at who stays h clear = grind (arith, clear-enter, clear-leave)

-- in a sheet made in turn each stay of a person ended before the next began
pub clear-sheet : (rows : List SheetRow) → IsSheet rows → IsClear (stays_by rows)
clear-sheet =
    stays-in-turn (λ rows. IsClear (stays_by rows))
    (λ before row turn e clear. rw e (clear-row row.ceremony row.way row.at row.who (stays_by before) turn clear)) (record { apart = λ r t i. absurd i })

-- a stay of the row's ceremony begins or ends at its moment
abbrev Bounds : List Stay → SheetRow → Type 0
Bounds stays row = (s : Stay) × IsIn s stays × (s.ceremony ≡ row.ceremony) × ((s.since ≡ row.at) ⊎ (s.until ≡ Some row.at))

bounds-kept : (c : ℕ) (way : Way) (at : ℕ) (who : List ℕ) (stays : List Stay) (row : SheetRow) → Bounds stays row → Bounds (added c way at (who ∷ []) stays) row
bounds-kept c Enter at who stays row (s, i, e, b) = (s, in-front s stays (new_stay c at who ∷ []) i, e, b)
bounds-kept c Leave at who stays row (s, i, e, inl since) = (with_end (who ∷ []) at s, map-in (with_end (who ∷ []) at) s stays i, e, inl since)
bounds-kept c Leave at who stays row (s, i, e, inr until) =
    (with_end (who ∷ []) at s, map-in (with_end (who ∷ []) at) s stays i, e, inr (closed-ended (who ∷ []) at s row.at until))

bounds-new : (c : ℕ) (way : Way) (at : ℕ) (who : List ℕ) (stays : List Stay) → is_out_of_turn_in stays c way at who ≡ false
    → Bounds (added c way at (who ∷ []) stays) (new_row c way at who)
bounds-new c Enter at who stays h = (new_stay c at who, in-behind (new_stay c at who) stays (new_stay c at who ∷ []) (inl refl), refl, inl refl)
bounds-new c Leave at who stays h =
    let a = any-in (is_inside_of c who) stays (grind arith) in
    let q : (same_text a.0.who who ≡ true) × (has_no_end a.0.until ≡ true) × (a.0.ceremony ≡ c) = (grind arith, grind arith, grind arith) in
    (with_end (who ∷ []) at a.0, map-in (with_end (who ∷ []) at) a.0 stays a.1, q.2, inr (rw (q.0, q.1) refl))

-- each row of a sheet made in turn begins or ends a stay
pub row-bounds : (rows : List SheetRow) → IsSheet rows → (row : SheetRow) → IsIn row rows → Bounds (stays_by rows) row
row-bounds =
    stays-in-turn (λ rows. (row : SheetRow) → IsIn row rows → Bounds (stays_by rows) row)
    (λ before row turn e old r i. rw e (elim (in-last r row before i) [
      | inl j ↦ bounds-kept row.ceremony row.way row.at row.who (stays_by before) r (old r j)
      | inr same ↦ rw same (bounds-new row.ceremony row.way row.at row.who (stays_by before) turn)
    ])) (λ row i. absurd i)

-- and each stay began with a row of its ceremony
abbrev Begun : List SheetRow → Stay → Type 0
Begun rows s = (row : SheetRow) × IsIn row rows × (row.ceremony ≡ s.ceremony) × (row.at ≡ s.since)

-- each stay of a sheet made in turn began with a row of its ceremony
pub stay-begun : (rows : List SheetRow) → IsSheet rows → (s : Stay) → IsIn s (stays_by rows) → Begun rows s
stay-begun =
    stays-in-turn (λ rows. (s : Stay) → IsIn s (stays_by rows) → Begun rows s)
    (λ before row turn e old s i. by_way before row.ceremony row.way row.at row.who old s (subst (IsIn s) e i)) (λ s i. absurd i)
  where
    by_way : (before : List SheetRow) (c : ℕ) (way : Way) (at : ℕ) (who : List ℕ) → ((s : Stay) → IsIn s (stays_by before) → Begun before s)
        → (s : Stay) → IsIn s (added c way at (who ∷ []) (stays_by before)) → Begun (before ++ new_row c way at who ∷ []) s
    by_way before c Enter at who old s i = elim (in-last s (new_stay c at who) (stays_by before) i) [
      | inl j ↦ let r = old s j in (r.0, in-front r.0 before (new_row c Enter at who ∷ []) r.1, r.2, r.3)
      | inr same ↦ let row = new_row c Enter at who in rw same (row, in-behind row before (row ∷ []) (inl refl), refl, refl)
    ]
    by_way before c Leave at who old s i =
        let m = in-map (with_end (who ∷ []) at) s (stays_by before) i in
        let r = old m.0 m.1 in
        rw m.2 (r.0, in-front r.0 before (new_row c Leave at who ∷ []) r.1, r.2, r.3)

-- if it has an end, it ended later than it began
abbrev pub EndsLater : Stay → Type 0
EndsLater s = (u : ℕ) → s.until ≡ Some u → s.since < u

-- whoever leaves in turn came before the moment
closed-later : (stays : List Stay) (c at : ℕ) (who : List ℕ) → is_out_of_turn_in stays c Leave at who ≡ false → (s : Stay) → IsIn s stays → EndsLater s
    → EndsLater (with_end (who ∷ []) at s)
closed-later stays c at who turn s i later = grind (arith, none-in, or_parts, leb-false, same_Some)

-- each stay of a sheet made in turn ended later than it began
pub ends-later : (rows : List SheetRow) → IsSheet rows → (s : Stay) → IsIn s (stays_by rows) → EndsLater s
ends-later =
    stays-in-turn (λ rows. (s : Stay) → IsIn s (stays_by rows) → EndsLater s)
    (λ before row turn e old s i. by_way (stays_by before) row.ceremony row.way row.at row.who turn old s (subst (IsIn s) e i)) (λ s i. absurd i)
  where
    by_way : (stays : List Stay) (c : ℕ) (way : Way) (at : ℕ) (who : List ℕ) → is_out_of_turn_in stays c way at who ≡ false
        → ((s : Stay) → IsIn s stays → EndsLater s) → (s : Stay) → IsIn s (added c way at (who ∷ []) stays) → EndsLater s
    by_way stays c way at who turn old s i = grind (arith, in-last, none-some, in-map, closed-later)

-- WHOSE TURN IT IS, BY SOME OF THE STAYS

-- what a test finds among a person's stays it finds at the last one
abbrev pub IsOfLast : List ℕ → (Stay → Bool) → Type 0
IsOfLast who test =
    ((r : Stay) → test r ≡ true → same_text r.who who ≡ true)
    × ((r s : Stay) → same_text s.who who ≡ true → r.since < s.since → EndsBy s.since r.until → test r ≡ true → test s ≡ true)

any-last : (all some : List Stay) (who : List ℕ) → IsClear all → ((r : Stay) → IsIn r some → IsIn r all)
    → ((s : Stay) → last_stay all who ≡ Some s → IsIn s some)
    → (test : Stay → Bool) → IsOfLast who test → list_any test some ≡ list_any test all
any-last all some who clear sub has test of = search (rules, same-answers, any-in, in-any, same-is, last-stay)

of-reaches : (who : List ℕ) (at : ℕ) → IsOfLast who (reaches who at)
of-reaches who at = grind arith

-- a test that only stays in the room pass
of-inside : (who : List ℕ) (test : Stay → Bool) → ((r : Stay) → test r ≡ true → is_inside who r ≡ true) → IsOfLast who test
of-inside who test inside = grind arith

-- it is somebody's turn by some of the stays, the last one among them, if it is by all
pub turn-last : (all some : List Stay) (who : List ℕ) → IsClear all → ((r : Stay) → IsIn r some → IsIn r all)
    → ((s : Stay) → last_stay all who ≡ Some s → IsIn s some)
    → (c : ℕ) (way : Way) (at : ℕ) → is_out_of_turn_in some c way at who ≡ is_out_of_turn_in all c way at who
turn-last all some who clear sub has c way at =
    let same = any-last all some who clear sub has in
    grind (
      arith,
      same (reaches who at) (of-reaches who at),
      same (is_inside who) (of-inside who (is_inside who) (λ r h. h)),
      same (is_inside_of c who) (of-inside who (is_inside_of c who) (λ r h. grind arith)),
    )

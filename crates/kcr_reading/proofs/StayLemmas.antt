-- The stays of a ceremony by their beginning, then initials, and the name of a person.
use Rattle.kcr_reading.proofs.Common.{◌≡◌, ℕ, pos, arith, ◌&&◌, ◌||◌, ◌==◌, nat_lt, not, Bool, true, false, cond, List, [], ◌∷◌, ◌++◌, map, filter}
use Rattle.kcr_reading.proofs.Common.{slice_get, length, ◌-◌, ◌<◌, append_assoc, Option, Some, None, Ordering, Less, is_lt, refl, sym, codes, ap, ap₂}
use Rattle.kcr_reading.proofs.Common.{subst, ◌∙◌, AllByRecursion, list_all, is_eq, nat_cmp, then_cmp, ordering_then, IsTotalOrder, slice_cmp}
use Rattle.kcr_reading.proofs.Common.{IsPermutation, and_parts, nat_tests, nat_cmp_total, nat_list_cmp_total, on_total, then_total, IsPermutation-sym}
use Rattle.kcr_reading.proofs.Common.{IsPermutation-trans, Int, Text, Row, column, key_cmp, Term, col, op2, Binary, Trees, IsAscending, all_from_test}
use Rattle.kcr_reading.proofs.Common.{sorted_unique, Compare, Eq, Gt, value_cmp-Text, then-Equal, all_both, all_weaker, filter_none, ascending_weaker}
use Rattle.kcr_reading.proofs.Common.{ascending_from_map, ascending-filter, IsPermutation-filter, by_key, filter_as, stay_row, filter-and, Stay}
use Rattle.kcr_reading.proofs.Common.{stays_place, TreesHoldTables, shown_columns, Choice, column_names, shows, ShowsSome, AreFirst, bound_of, Begin}
use Rattle.kcr_reading.proofs.Common.{IsNextBatchOf, since_of, begins_with, begins_after, is_stay_past, listed_past}
use Rattle.sqlite.specs.Ops.{binary}
use Rattle.sqlite_value.specs.Keys.{ascending, rising}
use Rattle.sqlite_tied.specs.Compute.{everything}
use Rattle.kcr_room.proofs.Listed.{attendance-moves, attendance-listed}
use Rattle.kcr_room.specs.Stays.{is_listed_before, are_listed, attendance_in_by}
use Rattle.kcr_history.specs.Tables as machine
use Rattle.kcr_tables.specs.Schema as schema
use Rattle.kcr_reading.proofs.{ChoiceLemmas.by_test, FirstLemmas.begin_take}
use Rattle.kcr_reading.proofs.NumberLemmas.{number_cmp, behind_number, behind_text, equal_number, one_test, with_tests, rises_among}
use Rattle.kcr_reading.proofs.OrderLemmas.{later, moved, moved_to, apart_on, sorted, gives_several}

-- ---- the order

-- stays in order: by beginning, then by initials
abbrev pub listed : Stay → Stay → Ordering
listed = then_cmp (λ a b. nat_cmp a.since b.since) (λ a b. slice_cmp nat_cmp a.who b.who)

-- this order is total
pub listed_total : IsTotalOrder listed
listed_total = then_total (on_total (λ (x : Stay). x.since) nat_cmp_total) (on_total (λ (x : Stay). x.who) nat_list_cmp_total)

before_is : (a b : Stay) → is_listed_before a b ≡ is_lt (listed a b)
before_is a b = grind (arith, nat_tests)

past_later : (last : Option Stay) (x : Stay) → is_stay_past last x ≡ later listed listed_total (λ (s : Stay). s) last x
past_later None x = refl
past_later (Some l) x = before_is l x

-- the first stay is before the second in this order
abbrev pub Rises : Stay → Stay → Type 0
Rises a b = listed a b ≡ Less

abbrev Apart : Stay → Stay → Type 0
Apart a b = is_eq (listed a b) ≡ false

by_who : (a b : Stay) → by_key 2 (stay_row a) (stay_row b) ≡ ordering_then (slice_cmp nat_cmp a.who b.who) (nat_cmp a.since b.since)
by_who a b = ap₂ (λ o p. ordering_then o p) (value_cmp-Text a.who b.who) (then-Equal _ ∙ number_cmp a.since b.since)

key_apart : (a b : Stay) → by_key 2 (stay_row a) (stay_row b) ≡ Less → Apart a b
key_apart a b h = let e : ordering_then (slice_cmp nat_cmp a.who b.who) (nat_cmp a.since b.since) ≡ Less = sym (by_who a b) ∙ h in grind arith

-- stays in the order of the listing, each two of them apart, rise
strict : (xs : List Stay) → are_listed xs ≡ true → IsAscending Apart xs → IsAscending Rises xs
strict [] h up = tt
strict (x ∷ xs) h up =
    let parts = and_parts (list_all (λ other. not (is_listed_before other x)) xs) (are_listed xs) h in
    (all_both _ (Apart x) (Rises x) rises xs (all_from_test _ xs parts.0) up.0, strict xs parts.1 up.1)
  where
    rises : (y : Stay) → not (is_listed_before y x) ≡ true → Apart x y → Rises x y
    rises y h apart = grind (arith, before_is y x, listed_total.antisymm y x)

abbrev is_of : ℕ → Stay → Bool
is_of ceremony stay = stay.ceremony == ceremony

abbrev those : ℕ → machine.Tables → List Stay
those ceremony m = attendance_in_by m.stays ceremony

-- those of the ceremony in the table, in another order
same_stays : (ceremony : ℕ) {xs ts : List Stay} → IsPermutation xs ts → IsPermutation (filter (is_of ceremony) ts) (attendance_in_by xs ceremony)
same_stays ceremony {xs} same =
    IsPermutation-trans _ _ _ (IsPermutation-sym _ _ (IsPermutation-filter (is_of ceremony) _ _ same)) (attendance-moves xs ceremony)

rise : (ceremony : ℕ) {xs ts : List Stay} → IsPermutation xs ts → IsAscending (λ a b. by_key 2 a b ≡ Less) (map stay_row ts)
    → IsAscending Rises (attendance_in_by xs ceremony)
rise ceremony {xs} {ts} same rising =
    strict (attendance_in_by xs ceremony) (attendance-listed xs ceremony)
    (apart_on listed listed_total (λ (s : Stay). s) _ _ (same_stays ceremony same) (ascending-filter Apart (is_of ceremony) ts
    (ascending_weaker (λ (a b : Stay). by_key 2 (stay_row a) (stay_row b) ≡ Less) Apart key_apart ts
    (ascending_from_map (λ a b. by_key 2 a b ≡ Less) stay_row ts rising))))

-- the stays of the table in any order give one attendance
pub one_attendance : (ceremony : ℕ) {xs ys ts : List Stay} → IsPermutation xs ts → IsPermutation ys ts
    → IsAscending (λ a b. by_key 2 a b ≡ Less) (map stay_row ts)
    → attendance_in_by ys ceremony ≡ attendance_in_by xs ceremony
one_attendance ceremony {xs} {ys} p q rising =
    sorted_unique listed listed_total (attendance_in_by xs ceremony) (attendance_in_by ys ceremony) (rise ceremony p rising)
    (IsPermutation-trans _ _ _ (IsPermutation-sym _ _ (same_stays ceremony p)) (same_stays ceremony q))
    (sorted listed listed_total (λ (s : Stay). s) _ (rise ceremony q rising))

module _ (ceremony : ℕ) (m : machine.Tables) {db : Trees} (k : TreesHoldTables m db) where
  rise_here : IsAscending Rises (those ceremony m)
  rise_here = rise ceremony k.stands.rows.stays k.kept.stays.rising

  -- what passes in the table are those that pass in the list
  passed : (passes : Row → Bool) (test : Stay → Bool) → ((x : Stay) → passes (stay_row x) ≡ (is_of ceremony x && test x))
      → IsPermutation (filter (λ x. passes (stay_row x)) k.t.rows.stays) (filter test (those ceremony m))
  passed passes test chosen =
      subst (λ l. IsPermutation l (filter test (those ceremony m)))
      (filter-and (is_of ceremony) test k.t.rows.stays ∙ sym (filter_as _ _ chosen k.t.rows.stays))
      (IsPermutation-filter test _ _ (same_stays ceremony k.stands.rows.stays))

-- ---- the next that begin with the last

-- the text that shows up to 16 stays with one beginning, behind initials
abbrev pub together_text : List ℕ
together_text = codes "SELECT who, since, ceremony, until FROM stays WHERE ceremony = ?1 AND since = ?2 AND who > ?3 ORDER BY who, since LIMIT 16"

abbrev together_test : List Term
together_test = op2 (Compare Eq Binary) (col 1 3) (col 0 0) ∷ op2 (Compare Eq Binary) (col 1 2) (col 0 1) ∷ op2 (Compare Gt Binary) (col 1 1) (col 0 2) ∷ []

abbrev together_params : ℕ → Stay → Row
together_params ceremony last = Int (pos ceremony) ∷ Int (pos last.since) ∷ Text last.who ∷ []

-- the ceremony's stays that begin with the last and are behind its initials, by initials
abbrev pub together : ℕ → Stay → Choice
together ceremony last = by_test 2 together_test (together_params ceremony last)

-- the text shows the first 16 of them
pub shows_together : (ceremony : ℕ) (last : Stay) → ShowsSome 16 together_text stays_place (together_params ceremony last) (together ceremony last)
unfolding everything
shows_together ceremony last = shows schema.stays together_test (refl, refl, refl) refl

passes_together : (ceremony : ℕ) (last x : Stay) → (together ceremony last).passes (stay_row x) ≡ (is_of ceremony x && begins_with last x)
unfolding binary
passes_together ceremony last x =
    with_tests _ _ _ _ (equal_number x.ceremony ceremony) (with_tests _ _ _ _ (equal_number x.since last.since) (one_test _ ∙ behind_text last.who x.who))

-- the first of these rows are a prefix of the stays that begin with the last
pub first_together : (ceremony : ℕ) (last : Stay) (count : ℕ) → 0 < count → (m : machine.Tables) {db : Trees} (k : TreesHoldTables m db) (rows : List Stay)
    → AreFirst count stay_row (together ceremony last) k.t.rows.stays rows → Begin (filter (begins_with last) (those ceremony m)) rows
first_together ceremony last count low m k rows first =
    begin_take count low _ rows (first (filter (begins_with last) (those ceremony m))
    (passed ceremony m k (together ceremony last).passes (begins_with last) (passes_together ceremony last))
    (rises_among (begins_with last) (λ (a b : Stay). by_key 2 (stay_row a) (stay_row b) ≡ Less) (those ceremony m)
    (ascending_weaker Rises _ keyed (those ceremony m) (rise_here ceremony m k))))
  where
    keyed : (a b : Stay) → Rises a b → begins_with last a ≡ true → begins_with last b ≡ true → by_key 2 (stay_row a) (stay_row b) ≡ Less
    keyed a b h p q =
        let same : a.since ≡ b.since = grind (arith, nat_tests) in
        by_who a b ∙ grind (arith, nat_tests)

-- ---- the first that begin later

-- the text that shows up to 16 stays that begin after a moment
abbrev pub later_text : List ℕ
later_text = codes "SELECT who, since, ceremony, until FROM stays WHERE ceremony = ?1 AND since > ?2 ORDER BY since, who LIMIT 16"

abbrev later_test : List Term
later_test = op2 (Compare Eq Binary) (col 1 3) (col 0 0) ∷ op2 (Compare Gt Binary) (col 1 2) (col 0 1) ∷ []

abbrev rank : Row → Row
rank row = column row 1 ∷ column row 0 ∷ []

abbrev later_params : ℕ → Option Stay → Row
later_params ceremony last = Int (pos ceremony) ∷ Int (bound_of (since_of last)) ∷ []

-- the ceremony's stays that begin later than the last, by beginning, then initials
abbrev pub begins_later : ℕ → Option Stay → Choice
begins_later ceremony last =
    record (by_test 2 later_test (later_params ceremony last)) { rank = rank; compare = λ a b. key_cmp 0 (rising 2 []) (rank a) (rank b) }

-- the text shows the first 16 of them
pub shows_later : (ceremony : ℕ) (last : Option Stay) → ShowsSome 16 later_text stays_place (later_params ceremony last) (begins_later ceremony last)
unfolding everything
shows_later ceremony last = record {
  test = later_test;
  project = shown_columns stays_place;
  order = (col 1 2, ascending Binary) ∷ (col 1 1, ascending Binary) ∷ [];
  names = column_names schema.stays;
  means = (refl, refl, refl);
  is = refl;
}

passes_later : (ceremony : ℕ) (last : Option Stay) (x : Stay) → (begins_later ceremony last).passes (stay_row x) ≡ (is_of ceremony x && begins_after last x)
unfolding binary
passes_later ceremony last x = with_tests _ _ _ _ (equal_number x.ceremony ceremony) (one_test _ ∙ behind_number (since_of last) x.since)

by_since : (ceremony : ℕ) (last : Option Stay) (a b : Stay) → (begins_later ceremony last).compare (stay_row a) (stay_row b) ≡ listed a b
by_since ceremony last a b = ap₂ (λ o p. ordering_then o p) (number_cmp a.since b.since) (then-Equal _ ∙ value_cmp-Text a.who b.who)

-- the first of these rows are a prefix of the stays that begin later
pub first_later : (ceremony : ℕ) (last : Option Stay) (count : ℕ) → 0 < count → (m : machine.Tables) {db : Trees} (k : TreesHoldTables m db) (rows : List Stay)
    → AreFirst count stay_row (begins_later ceremony last) k.t.rows.stays rows → Begin (filter (begins_after last) (those ceremony m)) rows
first_later ceremony last count low m k rows first =
    begin_take count low _ rows (first (filter (begins_after last) (those ceremony m))
    (passed ceremony m k (begins_later ceremony last).passes (begins_after last) (passes_later ceremony last))
    (ascending_weaker Rises _ (λ a b h. by_since ceremony last a b ∙ h) _
    (ascending-filter Rises (begins_after last) (those ceremony m) (rise_here ceremony m k))))

-- ---- both

none_with : (last x : Stay) (xs : List Stay) → nat_lt last.since x.since ≡ true → AllByRecursion (Rises x) xs → filter (begins_with last) xs ≡ []
none_with last x xs p all =
    filter_none (begins_with last) xs (all_weaker (Rises x) _ (λ y h. grind (arith, nat_tests)) xs all)

one_more : (l s : ℕ) (r : Bool) (x : Stay) (all with after : List Stay) → all ≡ with ++ after → (nat_lt l s ≡ true → with ≡ [])
    → cond (nat_lt l s || ((l == s) && r)) (x ∷ all) all ≡ cond ((s == l) && r) (x ∷ with) with ++ cond (nat_lt l s) (x ∷ after) after
one_more l s r x all with after is none = grind (arith, nat_tests)

-- those past the last are those that begin with it, and then those that begin later
split : (last : Stay) (xs : List Stay) → IsAscending Rises xs → filter (is_stay_past (Some last)) xs ≡ filter (begins_with last) xs
    ++ filter (begins_after (Some last)) xs
split last [] up = refl
split last (x ∷ xs) up = one_more last.since x.since _ x _ _ _ (split last xs up.1) (λ p. none_with last x xs p up.0)

-- a prefix of the first kind is one of both, and if there are none of the first kind one of the second is
pub first_with : (ceremony : ℕ) (last : Stay) (m : machine.Tables) {db : Trees} (k : TreesHoldTables m db) (rows : List Stay) → (rows ≡ [] → ⊥)
    → Begin (filter (begins_with last) (those ceremony m)) rows → Begin (listed_past (Some last) ceremony m) rows
first_with ceremony last m k rows full begin = record {
  rest = begin.rest ++ filter (begins_after (Some last)) (those ceremony m);
  first = split last (those ceremony m) (rise_here ceremony m k) ∙ ap (λ l. l ++ filter (begins_after (Some last)) (those ceremony m)) begin.first
      ∙ append_assoc rows begin.rest _;
  some = λ none. absurd (full none);
}

-- if no stay begins with the last, a prefix of those that begin later is one of those past it
pub first_after : (ceremony : ℕ) (last : Stay) (m : machine.Tables) {db : Trees} (k : TreesHoldTables m db) (none : List Stay)
    → none ≡ [] → Begin (filter (begins_with last) (those ceremony m)) none
    → (rows : List Stay) → Begin (filter (begins_after (Some last)) (those ceremony m)) rows → Begin (listed_past (Some last) ceremony m) rows
first_after ceremony last m k none empty together rows begin =
    subst (λ l. Begin l rows) (sym (split last (those ceremony m) (rise_here ceremony m k)
    ∙ ap (λ l. l ++ filter (begins_after (Some last)) (those ceremony m)) (together.some empty))) begin

-- a prefix of the stays past the last is the next batch, and behind it come the others
pub next_listed : (ceremony : ℕ) (last : Option Stay) (m : machine.Tables) {db : Trees} (k : TreesHoldTables m db) (rows : List Stay) (found : Option Stay)
    → found ≡ slice_get rows (length rows - 1) → Begin (listed_past last ceremony m) rows
    → IsNextBatchOf (listed_past last ceremony m) rows (listed_past (moved listed listed_total (λ (s : Stay). s) last found) ceremony m)
next_listed ceremony last m k rows found ends begin =
    subst (λ l. IsNextBatchOf (listed_past last ceremony m) rows (listed_past l ceremony m))
    (moved_to listed listed_total (λ (s : Stay). s) last rows found ends)
    (gives_several listed listed_total (λ (s : Stay). s) is_stay_past past_later last (those ceremony m) (rise_here ceremony m k) rows begin)

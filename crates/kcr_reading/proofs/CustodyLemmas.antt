-- The bags, the loose items and the safes, read one at a time in order, and the items of one bag.
use Rattle.kcr_reading.proofs.Common.{◌≡◌, ℕ, ◌+◌, ◌*◌, ◌&&◌, pos, Bool, true, List, [], ◌∷◌, map, filter, drop, codes, slice_get, Option, Some, None}
use Rattle.kcr_reading.proofs.Common.{Less, Equal, arith, refl, sym, ap, subst, ◌∙◌, IsPermutation, is_eq, nat_cmp, ordering_then, slice_cmp}
use Rattle.kcr_reading.proofs.Common.{nat_cmp_total, nat_list_cmp_total, tied_itself, Null, Int, Text, Row, Term, lit, col, op2, is_true, from_truth}
use Rattle.kcr_reading.proofs.Common.{Binary, Trees, IsAscending, Compare, Is, Gt, ascending_weaker, ascending_from_map, value_cmp-Text}
use Rattle.kcr_reading.proofs.Common.{value_cmp_total, by_key, filter-and, bag_row, item_row, safe_row, Item, SafeRow, in_order, bags_place}
use Rattle.kcr_reading.proofs.Common.{items_place, TreesHoldTables, Choice, shows, ShowsFirst, IsFirstRow, is_loose, IsNextOf, is_past, is_behind}
use Rattle.kcr_reading.proofs.Common.{loose_past, items_by_code, serials_past, safe_place, safes_in_order, safes_past}
use Rattle.sqlite.specs.{Order.value_cmp, Ops.binary}
use Rattle.sqlite_tied.specs.Compute.{everything}
use Rattle.kcr_base.specs.{declared.place.Facility.Facility, Facility.facility_text, Same.facility_number, Same.is_before}
use Rattle.kcr_rows.specs.States.{safe_digit}
use Rattle.kcr_custody.specs.Custody.{lies_in}
use Rattle.kcr_custody.specs.declared.{Bag.Bag, SafeNumber.SafeNumber, Rest.Rest, Rest.TheVariants.Loose, Rest.TheVariants.Within}
use Rattle.kcr_history.specs.Tables as machine
use Rattle.kcr_tables.specs.Schema as schema
use Rattle.kcr_reading.proofs.ChoiceLemmas.{by_test, chosen_come, next_come}
use Rattle.kcr_reading.proofs.NumberLemmas.{behind_text, one_test, text_key, text_later, number_cmp, number_later}
use Rattle.kcr_reading.proofs.OrderLemmas.{moved, ordered, numbers_ordered, gives_first}

-- ---- rows under a text

abbrev behind_test : Option (List ℕ) → List Term
behind_test None = []
behind_test (Some last) = op2 (Compare Gt Binary) (col 1 1) (col 0 0) ∷ []

abbrev behind_params : Option (List ℕ) → Row
behind_params None = []
behind_params (Some last) = Text last ∷ []

is_tested : (last : Option (List ℕ)) (text : List ℕ) (more : Row)
    → (by_test 1 (behind_test last) (behind_params last)).passes (Text text ∷ more) ≡ is_behind last text
unfolding binary
is_tested None text more = refl
is_tested (Some last) text more = one_test _ ∙ behind_text last text

module _ {X : Type 0} (row_of : X → Row) (key : X → List ℕ) (row_is : (x : X) → row_of x ≡ Text (key x) ∷ drop 1 (row_of x)) where
  keyed : (a b : X) → by_key 1 (row_of a) (row_of b) ≡ slice_cmp nat_cmp (key a) (key b)
  keyed a b = (λ i. by_key 1 (row_is a i) (row_is b i)) ∙ text_key (key a) (key b) (drop 1 (row_of a)) (drop 1 (row_of b))

  abbrev past : Option (List ℕ) → X → Bool
  past last x = is_behind last (key x)

  abbrev those : List X → List X
  those xs = in_order (λ a b. is_before (key a) (key b)) xs

  module _ {ms ts : List X} (same : IsPermutation ms ts) (up : IsAscending (λ a b. by_key 1 a b ≡ Less) (map row_of ts)) where
    -- the machine's rows in the order of their keys are those of the table
    pub are : those ms ≡ ts
    are =
        ordered (slice_cmp nat_cmp) nat_list_cmp_total key ms ts same
        (ascending_weaker _ _ (λ a b h. sym (keyed a b) ∙ h) ts (ascending_from_map (λ a b. by_key 1 a b ≡ Less) row_of ts up))

    -- of those that pass a test too
    module _ (test : X → Bool) (last : Option (List ℕ)) where
      abbrev come : Option (List ℕ) → List X
      come l = filter (λ x. test x && past l x) (those ms)

      come_is : (l : Option (List ℕ)) → come l ≡ filter (past l) (filter test ts)
      come_is l = sym (filter-and test (past l) (those ms)) ∙ ap (λ xs. filter (past l) (filter test xs)) are

      -- the first row that the text chooses is the first of those to come
      pub first_behind : (terms : List Term) (params : Row) → ((x : X) → (by_test 1 terms params).passes (row_of x) ≡ (test x && past last x))
          → (found : Option X) → IsFirstRow row_of (by_test 1 terms params) ts found → found ≡ slice_get (come last) 0
      first_behind terms params chosen found =
          chosen_come row_of (slice_cmp nat_cmp) nat_list_cmp_total key past (text_later key) 1 test (λ a b _ _. keyed a b) ts up come come_is last
          terms params chosen (λ l. found ≡ slice_get l 0)

      -- the first of those to come is the next row, and the others come after it
      pub next_behind : (found : Option X) → found ≡ slice_get (come last) 0
          → IsNextOf (come last) found (come (moved (slice_cmp nat_cmp) nat_list_cmp_total key last found))
      next_behind = next_come row_of (slice_cmp nat_cmp) nat_list_cmp_total key past (text_later key) 1 test (λ a b _ _. keyed a b) ts up come come_is last

-- ---- bags

-- the text that shows the first bag behind a serial
abbrev pub bags_text : Option (List ℕ) → List ℕ
bags_text None = codes "SELECT serial, spot FROM bags ORDER BY serial LIMIT 1"
bags_text (Some last) = codes "SELECT serial, spot FROM bags WHERE serial > ?1 ORDER BY serial LIMIT 1"

-- the bags behind the last serial, by serial
abbrev pub bags_choice : Option (List ℕ) → Choice
bags_choice last = by_test 1 (behind_test last) (behind_params last)

-- the text shows the first of these bags
pub bags_shown : (last : Option (List ℕ)) → ShowsFirst (bags_text last) bags_place (behind_params last) (bags_choice last)
unfolding everything
bags_shown None = shows schema.bags (behind_test None) (refl, refl, refl) refl
bags_shown (Some last) = shows schema.bags (behind_test (Some last)) (refl, refl, refl) refl

-- the first row that is shown is the first bag past the last serial
pub first_bag : (last : Option (List ℕ)) (m : machine.Tables) {db : Trees} (k : TreesHoldTables m db) (found : Option Bag)
    → IsFirstRow bag_row (bags_choice last) k.t.rows.bags found → found ≡ slice_get (serials_past last m) 0
first_bag last m k =
    first_behind bag_row (λ x. x.serial) (λ x. refl) k.stands.rows.bags k.kept.bags.rising (λ _. true) last
    (behind_test last) (behind_params last) (λ x. is_tested last x.serial _)

-- the first bag past the last serial is the next, and behind it come the others
pub next_bag : (last : Option (List ℕ)) (m : machine.Tables) {db : Trees} (k : TreesHoldTables m db) (found : Option Bag)
    → found ≡ slice_get (serials_past last m) 0
    → IsNextOf (serials_past last m) found (serials_past (moved (slice_cmp nat_cmp) nat_list_cmp_total (λ (x : Bag). x.serial) last found) m)
next_bag last m k = next_behind bag_row (λ x. x.serial) (λ x. refl) k.stands.rows.bags k.kept.bags.rising (λ _. true) last

-- the items that lie in a bag, by code
pub within : (serial : List ℕ) (m : machine.Tables) {db : Trees} (k : TreesHoldTables m db)
    → filter (lies_in serial) k.t.rows.items ≡ filter (lies_in serial) (items_by_code m)
within serial m k = ap (filter (lies_in serial)) (sym (are item_row (λ (x : Item). x.code) (λ x. refl) k.stands.rows.items k.kept.items.rising))

-- ---- loose items

-- the text that shows the first loose item behind a code
abbrev pub loose_text : Option (List ℕ) → List ℕ
loose_text None = codes "SELECT code, facility, serial FROM items WHERE serial IS NULL ORDER BY code LIMIT 1"
loose_text (Some last) = codes "SELECT code, facility, serial FROM items WHERE serial IS NULL AND code > ?1 ORDER BY code LIMIT 1"

abbrev loose_test : Option (List ℕ) → List Term
loose_test last = op2 (Is Binary) (col 1 3) (lit Null) ∷ behind_test last

-- the loose items behind the last code, by code
abbrev pub loose_choice : Option (List ℕ) → Choice
loose_choice last = by_test 1 (loose_test last) (behind_params last)

-- the text shows the first of these items
pub loose_shown : (last : Option (List ℕ)) → ShowsFirst (loose_text last) items_place (behind_params last) (loose_choice last)
unfolding everything
loose_shown None = shows schema.items (loose_test None) (refl, refl, refl) refl
loose_shown (Some last) = shows schema.items (loose_test (Some last)) (refl, refl, refl) refl

is_chosen : (last : Option (List ℕ)) (x : Item) → (loose_choice last).passes (item_row x) ≡ (is_loose x && is_behind last x.code)
unfolding binary value_cmp
is_chosen last x = by_rest x.rest
  where
    by_rest : (rest : Rest) → (loose_choice last).passes (item_row (record { code = x.code; rest = rest }))
        ≡ (is_loose (record { code = x.code; rest = rest }) && is_behind last x.code)
    by_rest (Loose facility) =
        let tested : Bool = (bags_choice last).passes (item_row (record { code = x.code; rest = Loose facility })) in
        ap (λ o. is_true (from_truth (Some (is_eq o))) && tested) (tied_itself value_cmp_total Null) ∙ is_tested last x.code _
    by_rest (Within serial) = refl

-- the first row that is shown is the first loose item past the last code
pub first_loose : (last : Option (List ℕ)) (m : machine.Tables) {db : Trees} (k : TreesHoldTables m db) (found : Option Item)
    → IsFirstRow item_row (loose_choice last) k.t.rows.items found → found ≡ slice_get (loose_past last m) 0
first_loose last m k =
    first_behind item_row (λ x. x.code) (λ x. refl) k.stands.rows.items k.kept.items.rising is_loose last (loose_test last)
    (behind_params last) (is_chosen last)

-- the first loose item past the last code is the next, and behind it come the others
pub next_loose : (last : Option (List ℕ)) (m : machine.Tables) {db : Trees} (k : TreesHoldTables m db) (found : Option Item)
    → found ≡ slice_get (loose_past last m) 0
    → IsNextOf (loose_past last m) found (loose_past (moved (slice_cmp nat_cmp) nat_list_cmp_total (λ (x : Item). x.code) last found) m)
next_loose last m k = next_behind item_row (λ x. x.code) (λ x. refl) k.stands.rows.items k.kept.items.rising is_loose last

-- ---- safes

-- the key of a safe's row rises as its place does
places_rise : (f g : Facility) (s r : SafeNumber)
    → ordering_then (value_cmp (Text (facility_text f)) (Text (facility_text g)))
    (ordering_then (value_cmp (Int (pos (safe_digit s))) (Int (pos (safe_digit r)))) Equal)
    ≡ nat_cmp (facility_number f * 2 + safe_digit s) (facility_number g * 2 + safe_digit r)
places_rise f g s r = rw (value_cmp-Text (facility_text f) (facility_text g), number_cmp (safe_digit s) (safe_digit r)) (grind arith)

rise : {m : machine.Tables} {db : Trees} (k : TreesHoldTables m db) → IsAscending (λ a b. nat_cmp (safe_place a) (safe_place b) ≡ Less) k.t.rows.safes
rise k =
    ascending_weaker (λ (a b : SafeRow). by_key 2 (safe_row a) (safe_row b) ≡ Less) _
    (λ a b h. sym (places_rise a.facility b.facility a.safe b.safe) ∙ h) k.t.rows.safes
    (ascending_from_map (λ a b. by_key 2 a b ≡ Less) safe_row k.t.rows.safes k.kept.safes.rising)

-- the table has the safes in their order
pub safes_stand : (m : machine.Tables) {db : Trees} (k : TreesHoldTables m db) → safes_in_order m ≡ k.t.rows.safes
safes_stand m k = numbers_ordered safe_place m.safes k.t.rows.safes k.stands.rows.safes (rise k)

-- the first of the table's rows past the last is the next, and the others come behind it
pub next_safe : (last : Option ℕ) (m : machine.Tables) {db : Trees} (k : TreesHoldTables m db) (found : Option SafeRow)
    → found ≡ slice_get (filter (λ row. is_past last (safe_place row)) k.t.rows.safes) 0
    → IsNextOf (safes_past last m) found (safes_past (moved nat_cmp nat_cmp_total safe_place last found) m)
next_safe last m k found first =
    let mine = safes_stand m k in
    gives_first nat_cmp nat_cmp_total safe_place (λ l x. is_past l (safe_place x)) (number_later safe_place) last (safes_in_order m)
    (subst (IsAscending _) (sym mine) (rise k)) found (first ∙ ap (λ l. slice_get (filter (λ row. is_past last (safe_place row)) l) 0) (sym mine))

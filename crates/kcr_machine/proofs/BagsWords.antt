-- What the rows of a view say of bags, items, safes and boxes is what the history says.
use Rattle.kcr_machine.proofs.Common.{◌≡◌, ℕ, Bool, true, ◌||◌, List, [], ◌∷◌, Option, Some, None, option_map, is_some, refl, sym, ap, ◌∙◌, arith}
use Rattle.kcr_machine.proofs.Common.{unwrap_or, list_any, cons_option, AllByRecursion, IsPermutation, list_any-IsPermutation, false≢true, or_parts}
use Rattle.kcr_machine.proofs.Common.{none_holds, unmet, option_or, same_text, same_facility, Facility, East, Bag, BoxRow, Item, Rest, Loose}
use Rattle.kcr_machine.proofs.Common.{SafeNumber, SafeRow, Spent, spot_by, rest_by, is_open_by, is_open_row, is_box, place_of_box_by, Act, AddBox}
use Rattle.kcr_machine.proofs.Common.{Ceremony, Seal, History, values_of_acts, last_value_of_acts, last_value_with_history, facility_of, spot}
use Rattle.kcr_machine.proofs.Common.{sealed_in, added_at, rest_in, rest, is_open, added_box_place, place_of_box, bags, bag_row, sealed_serial, items}
use Rattle.kcr_machine.proofs.Common.{item_row, added_item, safes, boxes, box_row, is_of_serial, is_item_of, conditions, fault, IsRegister, took}
use Rattle.kcr_machine.proofs.Common.{sealed_somewhere, box-there, items_known, filter-order, same-is, IsIn, in-any, each-weaker}
use Rattle.kcr_history.specs.declared.views.ItemFilter.TheVariants as Items
use Rattle.kcr_base.specs.declared.place.Place.TheVariants.{Rksh}
use Rattle.kcr_machine.proofs.{Keyed.Shown, Keyed.said-shown, Keyed.said-view, Scenes.said-then, Scenes.some-where}

-- where the bag is, by the rows of its serial
pub spot-shown : (A : History) → IsRegister A → (s : List ℕ) (rows : List Bag) → Shown (is_of_serial s) (bags A) rows → spot_by rows s ≡ spot A s
spot-shown A h s rows p =
    said-view (λ row. same_text row.serial s) (is_of_serial s) (bag_row A) (bag_row A s) (λ row. row.spot) (spot A s) Spent (λ row e. e)
    (λ k e. ap (bag_row A) (same-is k s e)) (values_of_acts sealed_serial A) rows p
    (sealed_somewhere A h s) refl

-- ITEMS

abbrev is_added : History → List ℕ → Bool
is_added A k = list_any (λ i. same_text i k) (values_of_acts added_item A)

abbrev added : History → List ℕ → Option Facility
added A k = last_value_with_history (λ before. added_at (facility_of before) k) A

-- an item was added somewhere exactly where it was added
added_after : (A : History) (act : Act) (k : List ℕ) → is_added A k ≡ is_some (added A k)
    → list_any (λ i. same_text i k) (cons_option (added_item act) (values_of_acts added_item A)) ≡ is_some (option_or (added_at (facility_of A) k act) (added A k))
added_after A act k ih = grind arith

added_somewhere : (A : History) (k : List ℕ) → is_added A k ≡ is_some (added A k)
added_somewhere [] k = refl
added_somewhere (entry ∷ A) k = added_after A entry.command.act k (added_somewhere A k)

some_rest : (S : Option (List ℕ)) (D : Option Facility) (inside : List ℕ → Rest)
    → is_some (option_or (option_map inside S) (option_map Loose D)) ≡ (is_some S || is_some D)
some_rest S D inside = grind arith

abbrev last_bag : History → List ℕ → Option (List ℕ)
last_bag A k = last_value_of_acts (sealed_in k) A

-- an item that was sealed was added
sealed_added : (A : History) → IsRegister A → (k : List ℕ) → is_some (last_bag A k) ≡ true → is_some (added A k) ≡ true
sealed_added [] h k s = absurd (false≢true s)
sealed_added (entry ∷ A) h k s =
    said-then (sealed_in k entry.command.act) (last_bag A k) (added_at (facility_of A) k entry.command.act) (added A k)
    (by_act entry.command.act (took A entry h.0).no_fault (sealed_added A h.1 k)) (sealed_added A h.1 k) s
  where
    by_act : (act : Act) → fault A act ≡ None → (is_some (last_bag A k) ≡ true → is_some (added A k) ≡ true) → is_some (sealed_in k act) ≡ true
        → is_some (added A k) ≡ true
    by_act (Ceremony c at (Seal serial codes)) f ih e =
        let r = items_known A k codes (none_holds (conditions A (Ceremony c at (Seal serial codes))) f).1.0 (some-where (list_any (same_text k) codes) serial e) in
        grind (arith, some_rest (last_bag A k) (added A k) (rest_in A))
    by_act act f ih e = absurd (false≢true e)

-- an item is somewhere exactly where it was added
pub added_rest : (A : History) → IsRegister A → (k : List ℕ) → list_any (λ i. same_text i k) (values_of_acts added_item A) ≡ is_some (rest A k)
added_rest A h k = grind (arith, added_somewhere A k, sealed_added A h k, some_rest (last_bag A k) (added A k) (rest_in A))

-- where an item is, by rows among which its own is
rest-shown : (A : History) → IsRegister A → (of : Item → Bool) (k : List ℕ) → ((row : Item) → same_text row.code k ≡ true → of row ≡ true) → (rows : List Item)
    → Shown of (items A) rows → rest_by rows k ≡ rest A k
rest-shown A h of k own rows p =
    said-view (λ row. same_text row.code k) of (item_row A) (item_row A k) (λ row. row.rest) (rest A k) (Loose East) own
    (λ j e. ap (item_row A) (same-is j k e)) (values_of_acts added_item A) rows p
    (added_rest A h k) refl

-- the same of items that are asked for by their codes
pub rest-coded : (A : History) → IsRegister A → (codes : List (List ℕ)) (rows : List Item) → Shown (is_item_of (Items.Codes codes)) (items A) rows
    → (k : List ℕ) → IsIn k codes → rest_by rows k ≡ rest A k
rest-coded A h codes rows p k i = rest-shown A h (is_item_of (Items.Codes codes)) k (λ row e. in-any (same_text row.code) k codes i e) rows p

-- SAFES

open-safes : (A : History) (facility : Facility) (safe : SafeNumber) → is_open_by (safes A) facility safe ≡ is_open A facility safe
open-safes A facility safe = grind arith

-- whether a safe is open, by the four rows in any order
pub open-shown : (A : History) (rows : List SafeRow) → IsPermutation (safes A) rows → (facility : Facility) (safe : SafeNumber)
    → is_open_by rows facility safe ≡ is_open A facility safe
open-shown A rows p facility safe = sym (list_any-IsPermutation (is_open_row facility safe) (safes A) rows p) ∙ open-safes A facility safe

facility-same : (f g : Facility) → same_facility f g ≡ true → f ≡ g
facility-same f g e = grind arith

abbrev Placed : History → Facility → ℕ → BoxRow → Type 0
Placed A f n row = is_box f n row ≡ true → place_of_box A f n ≡ Some row.place

placed_after : (A : History) (act : Act) (f : Facility) (n : ℕ) → fault A act ≡ None → AllByRecursion (Placed A f n) (boxes A)
    → AllByRecursion (λ row. is_box f n row ≡ true → option_or (added_box_place f n act) (place_of_box A f n) ≡ Some row.place) (cons_option (box_row act) (boxes A))
placed_after A (AddBox facility number place) f n fine ih = grind (arith, each-weaker, or_parts, unmet, none_holds, facility-same)
placed_after A act f n fine ih = ih

placed : (A : History) → IsRegister A → (f : Facility) (n : ℕ) → AllByRecursion (Placed A f n) (boxes A)
placed [] h f n = tt
placed (entry ∷ A) h f n = placed_after A entry.command.act f n (took A entry h.0).no_fault (placed A h.1 f n)

-- the place of a box, by all boxes in any order
pub place-shown : (A : History) → IsRegister A → (rows : List BoxRow) → IsPermutation (boxes A) rows → (f : Facility) (n : ℕ)
    → place_of_box_by rows f n ≡ place_of_box A f n
place-shown A h rows p f n =
    let own : BoxRow = record { facility = f; number = n; place = unwrap_or (place_of_box A f n) (Rksh 0) } in
    said-shown (is_box f n) (λ row. true) own (λ row. row.place) (place_of_box A f n) (Rksh 0) (λ row e. refl) (boxes A) rows
    (filter-order (λ row. true) (boxes A) rows p)
    (each-weaker (Placed A f n) (λ row. is_box f n row ≡ true → row ≡ own)
    (λ row g e. let same = g e in grind (arith, facility-same row.facility f)) (boxes A) (placed A h f n)) (box-there A f n) refl

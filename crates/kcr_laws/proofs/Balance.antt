-- In every register items are neither lost nor doubled.
use Rattle.kcr_laws.proofs.Common.{◌≡◌, ℕ, true, ◌||◌, List, [], ◌∷◌, Option, Some, None, refl, ◌∙◌, arith, list_any, cons_option, and_from}
use Rattle.kcr_laws.proofs.Common.{false≢true, or_right, same-itself, same-turned, any-same, there, still, option_or, same_text, Facility, Place}
use Rattle.kcr_laws.proofs.Common.{Spot, unknown_item_refusal, Act, Ceremony, AddItem, Seal, Take, Put, Cut, Entry, History, values_of_acts}
use Rattle.kcr_laws.proofs.Common.{last_value_of_acts, last_value_with_history, facility_of, spot_after, spot, sealed_in, added_at, rest_in, rest}
use Rattle.kcr_laws.proofs.Common.{sealed_serial, added_item, fault, IsRegister, is_added, is_kept, has_its_box, is_in_place, were_in_place}
use Rattle.kcr_laws.proofs.{Common.IsBalanced, Accepted.each_register, Stored.sealed_somewhere, Stored.items_known}
use Rattle.std.specs.Prelude.{is_some}
use Rattle.kcr_custody.specs.Balance.{all_differ}

-- BAGS

-- a bag is somewhere if and only if it was sealed
sealed_is : (A : History) → IsRegister A → (serial : List ℕ) → list_any (same_text serial) (values_of_acts sealed_serial A) ≡ is_some (spot A serial)
sealed_is A r serial = any-same (same_text serial) (λ k. same_text k serial) (values_of_acts sealed_serial A) (same-turned serial) ∙ sealed_somewhere A r serial

sealed_after : (A : History) (act : Act) → IsRegister A → fault A act ≡ None → all_differ (values_of_acts sealed_serial A) ≡ true
    → all_differ (cons_option (sealed_serial act) (values_of_acts sealed_serial A)) ≡ true
sealed_after A (Ceremony c at (Seal s items)) r f ih = grind (arith, sealed_is A r s, ih)
sealed_after A act r f ih = ih

sealed_once : (A : History) → IsRegister A → all_differ (values_of_acts sealed_serial A) ≡ true
sealed_once [] r = refl
sealed_once (entry ∷ A) r = sealed_after A entry.command.act r.1 r.0.no_fault (sealed_once A r.1)

-- ITEMS

-- the last bag in which the item was sealed, and the facility where it was added
abbrev sealed : History → List ℕ → Option (List ℕ)
sealed A item = last_value_of_acts (sealed_in item) A

abbrev added : History → List ℕ → Option Facility
added A item = last_value_with_history (λ before. added_at (facility_of before) item) A

has_rest : (A : History) (item : List ℕ) → is_some (rest A item) ≡ (is_some (sealed A item) || is_some (added A item))
has_rest A item = grind arith

added_is_after : (A : History) (act : Act) (item : List ℕ) → is_added A item ≡ is_some (added A item)
    → list_any (same_text item) (cons_option (added_item act) (values_of_acts added_item A))
    ≡ is_some (option_or (added_at (facility_of A) item act) (added A item))
added_is_after A (Ceremony c at (AddItem i)) item ih = grind (arith, same-turned item i, ih)
added_is_after A act item ih = ih

added_is : (A : History) (item : List ℕ) → is_added A item ≡ is_some (added A item)
added_is [] item = refl
added_is (entry ∷ A) item = added_is_after A entry.command.act item (added_is A item)

-- an item that has a rest was added, if those that were sealed were
rest_added : (A : History) (item : List ℕ) → (is_some (sealed A item) ≡ true → is_added A item ≡ true) → is_some (rest A item) ≡ true → is_added A item ≡ true
rest_added A item g h = grind (arith, g, has_rest A item, added_is A item)

-- an item that was sealed was added
sealed_added_after : (A : History) (act : Act) (item : List ℕ) → fault A act ≡ None → (is_some (sealed A item) ≡ true → is_added A item ≡ true)
    → is_some (option_or (sealed_in item act) (sealed A item)) ≡ true
    → list_any (same_text item) (cons_option (added_item act) (values_of_acts added_item A)) ≡ true
sealed_added_after A (Ceremony c at (AddItem i)) item f ih h = or_right (same_text item i) (is_added A item) (ih h)
sealed_added_after A (Ceremony c at (Seal serial items)) item f ih h =
    let known : unknown_item_refusal (rest A) items ≡ None = grind arith in
    grind (arith, ih, rest_added A item ih, items_known A item items known)
sealed_added_after A act item f ih h = ih h

sealed_added : (A : History) → IsRegister A → (item : List ℕ) → is_some (sealed A item) ≡ true → is_added A item ≡ true
sealed_added [] r item h = absurd (false≢true h)
sealed_added (entry ∷ A) r item h = sealed_added_after A entry.command.act item r.0.no_fault (sealed_added A r.1 item) h

added_after : (A : History) (act : Act) → fault A act ≡ None → all_differ (values_of_acts added_item A) ≡ true
    → all_differ (cons_option (added_item act) (values_of_acts added_item A)) ≡ true
added_after A (Ceremony c at (AddItem i)) f ih = grind (arith, has_rest A i, added_is A i, ih)
added_after A act f ih = ih

added_once : (A : History) → IsRegister A → all_differ (values_of_acts added_item A) ≡ true
added_once [] r = refl
added_once (entry ∷ A) r = added_after A entry.command.act r.0.no_fault (added_once A r.1)

-- the bag in which an item was last sealed was sealed
sealed_there_after : (A : History) (act : Act) (item serial : List ℕ)
    → (sealed A item ≡ Some serial → list_any (same_text serial) (values_of_acts sealed_serial A) ≡ true)
    → option_or (sealed_in item act) (sealed A item) ≡ Some serial
    → list_any (same_text serial) (cons_option (sealed_serial act) (values_of_acts sealed_serial A)) ≡ true
sealed_there_after A (Ceremony c at (Seal s items)) item serial ih h = grind (arith, same-itself serial, ih)
sealed_there_after A act item serial ih h = ih h

sealed_there : (A : History) (item serial : List ℕ) → sealed A item ≡ Some serial → list_any (same_text serial) (values_of_acts sealed_serial A) ≡ true
sealed_there [] item serial h = absurd (let z : None ≡ Some serial = h in cc)
sealed_there (entry ∷ A) item serial h = sealed_there_after A entry.command.act item serial (sealed_there A item serial) h

-- an item that was sealed is kept
kept_in : (A : History) (serial : List ℕ) → is_some (spot A serial) ≡ true → is_kept A (Some (rest_in A serial)) ≡ true
kept_in A serial h = grind arith

kept : (A : History) → IsRegister A → (item : List ℕ) → is_added A item ≡ true → is_kept A (rest A item) ≡ true
kept A r item h = grind (arith, kept_in A, sealed_is A r, sealed_there A item, added_is A item)

-- PLACES OF BAGS

in_place_after : (A : History) (act : Act) → fault A act ≡ None → is_in_place A act ≡ true
in_place_after A (Ceremony c at (Seal serial items)) f = grind arith
in_place_after A (Ceremony c at (Cut serial)) f = grind arith
in_place_after A act f = refl

in_place : (A : History) → IsRegister A → were_in_place A ≡ true
in_place = each_register (λ A. were_in_place A ≡ true) refl (λ A key act answer r a ih. and_from (is_in_place A act) _ (in_place_after A act a.no_fault) ih)

box_still : (A : History) (entry : Entry) (o : Option Spot) → has_its_box A o ≡ true → has_its_box (entry ∷ A) o ≡ true
box_still A entry o h = grind (arith, still {X = Place})

box_moved : (A : History) (act : Act) (serial : List ℕ) → fault A act ≡ None → has_its_box A (spot_after (facility_of A) serial act) ≡ true
box_moved A (Ceremony c at (Seal s items)) serial f = grind arith
box_moved A (Ceremony c at (Take s)) serial f = grind arith
box_moved A (Ceremony c at (Cut s)) serial f = grind arith
box_moved A (Ceremony c at (Put s to)) serial f = grind (arith, there {X = Place})
box_moved A act serial f = refl

box_of_either : (A : History) (o p : Option Spot) → has_its_box A o ≡ true → has_its_box A p ≡ true → has_its_box A (option_or o p) ≡ true
box_of_either A o p h k = grind arith

boxes_there : (A : History) → IsRegister A → (serial : List ℕ) → has_its_box A (spot A serial) ≡ true
boxes_there [] h serial = refl
boxes_there (entry ∷ A) h serial =
    box_still A entry (spot (entry ∷ A) serial)
    (box_of_either A (spot_after (facility_of A) serial entry.command.act) (spot A serial)
    (box_moved A entry.command.act serial h.0.no_fault) (boxes_there A h.1 serial))

-- in every register items are neither lost nor doubled
pub balanced : (A : History) → IsRegister A → IsBalanced A
balanced A h =
    record {
      added_once = added_once A h;
      added_kept = λ item. (kept A h item, λ k. rest_added A item (sealed_added A h item) (grind (arith, k)));
      sealed_once = sealed_once A h;
      in_place = in_place A h;
      boxed = boxes_there A h;
    }

-- The rows that an act of custody puts, on a box, an item, a safe or a bag, lead from the tables before it to those after it.
use Rattle.kcr_machine.proofs.Common.{◌≡◌, ℕ, Bool, true, false, cond, not, ◌&&◌, List, [], ◌∷◌, map, filter, Option, Some, None, option_map, is_some}
use Rattle.kcr_machine.proofs.Common.{is_none, refl, sym, ap, ◌∙◌, ◌++◌, subst, arith, unwrap_or, list_any, IsPermutation-sym, or_parts, none_holds}
use Rattle.kcr_machine.proofs.Common.{unmet, same-itself, same-is, same-turned, there, still, map-same, when, option_or, put, put_all, same_text}
use Rattle.kcr_machine.proofs.Common.{same_facility, Facility, East, West, Taken, Elsewhere, Item, Rest, Loose, Within, Spot, Table, Spent}
use Rattle.kcr_machine.proofs.Common.{Destination, is_on_table, safe_of, is_within, lies_in, sealed_item, loose_items, sealed_items}
use Rattle.kcr_machine.proofs.Common.{spot_of_destination, same_safe, unknown_bag_refusal, Act, AddBox, Ceremony, Seal, Take, Put, Cut, AddItem}
use Rattle.kcr_machine.proofs.Common.{SetSafe, ReplyData, History, values_of_acts, last_value_of_acts, last_value_with_history, has_command}
use Rattle.kcr_machine.proofs.Common.{facility_of, spot_after, spot, is_spent, sealed_in, cut_at, added_at, rest_in, rest, place_of_box, boxes_place}
use Rattle.kcr_machine.proofs.Common.{bags, bag_row, sealed_serial, items, item_row, added_item, Tables, tables, safes, boxes, conditions, fault}
use Rattle.kcr_machine.proofs.Common.{IsRegister, with_command, sealed_somewhere, box-there, items_known, Bag, Change, PutBag, PutItem, PutMark}
use Rattle.kcr_machine.proofs.Common.{PutKey, changed, all_changed, same_safe_row, new_key_row, SafeNumber, One, Two, SafeRow, Place, BoxRow, map-map}
use Rattle.kcr_machine.proofs.Common.{IsIn, filter-in, in-any, in-filter, in-map, in-order, map-in, map-same-in, same-answers, listed-in, in-listed}
use Rattle.kcr_custody.specs.Balance.{same_bag, same_item, same_box}
use Rattle.kcr_machine.proofs.{BagsWords.added_rest, Scenes.told}
use Rattle.kcr_machine.proofs.Keyed.{Shown, put-at, put-first, put-new, put-rows}
use Rattle.kcr_machine.proofs.Leads.{LeadsOn, all_changed-rows, command_of, new_key}

-- the history with an act accepted after it
abbrev then_act : History → List ℕ → Act → ReplyData → History
then_act A key act answer = with_command A (command_of key act) answer

-- A BOX

-- the changes of a new box lead to the tables of the history with it
pub add_box-leads : (A : History) (facility : Facility) (number : ℕ) (place : Place) → LeadsOn A (AddBox facility number place)
add_box-leads A facility number place key view answer v k f =
    let new : BoxRow = record { facility = facility; number = number; place = place } in
    let free = (or_parts (is_some (place_of_box A facility number)) (has_command (boxes_place place) A)
    (unmet _ Taken (none_holds (conditions A (AddBox facility number place)) f).0)).0 in
    rw (put-new same_box new (boxes A) (box-there A facility number ∙ free), new_key A (command_of key (AddBox facility number place)) answer k)

-- A SAFE

-- what is said of a safe by one more command
abbrev next_state : Facility → SafeNumber → Bool → Facility → SafeNumber → Option Bool → Bool
next_state here safe state facility other before =
    unwrap_or (option_or (cond (same_facility here facility && same_safe safe other) (Some state) None) before) false

abbrev row_of : Facility → SafeNumber → Bool → SafeRow
row_of facility safe is_open = record { facility = facility; safe = safe; is_open = is_open }

-- the rows of the four safes, by what is said of each
abbrev four_rows : (Facility → SafeNumber → Bool) → List SafeRow
four_rows said = row_of East One (said East One) ∷ row_of East Two (said East Two) ∷ row_of West One (said West One) ∷ row_of West Two (said West Two) ∷ []

put-safe : (here : Facility) (safe : SafeNumber) (state : Bool) (last : Facility → SafeNumber → Option Bool)
    → put same_safe_row (row_of here safe state) (four_rows (λ f s. unwrap_or (last f s) false)) ≡ four_rows (λ f s. next_state here safe state f s (last f s))
put-safe here safe state last = grind arith

safes-put : (A : History) (key : List ℕ) (answer : ReplyData) (c : ℕ) (safe : SafeNumber) (state : Bool) (by : List ℕ) (at : ℕ)
    → put same_safe_row (row_of (facility_of A c) safe state) (safes A) ≡ safes (with_command A (command_of key (Ceremony c at (SetSafe safe state by))) answer)
safes-put A key answer c safe state by at = grind (arith, put-safe)

-- the changes of a safe's opening or shutting lead to the tables of the history with it
pub turn-leads : (A : History) → IsRegister A → (c : ℕ) (safe : SafeNumber) (state : Bool) (by : List ℕ) (at : ℕ) → LeadsOn A (Ceremony c at (SetSafe safe state by))
turn-leads A h c safe state by at key view answer v k f =
    let s = told A key c at (SetSafe safe state by) answer view v.ceremonies k f refl refl in
    rw (s.0, safes-put A key answer c safe state by at, s.1, s.2)

-- AN ITEM

abbrev last_bag : History → List ℕ → Option (List ℕ)
last_bag A k = last_value_of_acts (sealed_in k) A

abbrev added : History → List ℕ → Option Rest
added A k = option_map Loose (last_value_with_history (λ before. added_at (facility_of before) k) A)

-- an item that is nowhere was never sealed
no_bag_yet : (A : History) (k : List ℕ) → is_some (rest A k) ≡ false → last_bag A k ≡ None
no_bag_yet A k h = grind arith

-- its row is put in front, and the others stay
items-added : (A : History) → IsRegister A → (key : List ℕ) (answer : ReplyData) (c : ℕ) (item : List ℕ) (at : ℕ) → is_some (rest A item) ≡ false
    → put same_item (record { code = item; rest = Loose (facility_of A c) }) (items A) ≡ items (with_command A (command_of key (Ceremony c at (AddItem item))) answer)
items-added A h key answer c item at free =
    let B = with_command A (command_of key (Ceremony c at (AddItem item))) answer in
    let none = no_bag_yet A item free in
    put-first same_item (item_row A) (item_row B) (record { code = item; rest = Loose (facility_of A c) }) (λ k e. rw (same-turned item k ∙ e))
    (values_of_acts added_item A) (added_rest A h item ∙ free)
    ∙ ap (λ row. row ∷ map (item_row B) (values_of_acts added_item A)) (grind (arith, same-itself item))

-- the changes of a new item lead to the tables of the history with it
pub add_item-leads : (A : History) → IsRegister A → (c : ℕ) (item : List ℕ) (at : ℕ) → LeadsOn A (Ceremony c at (AddItem item))
add_item-leads A h c item at key view answer v k f =
    let s = told A key c at (AddItem item) answer view v.ceremonies k f refl refl in
    let free = unmet (is_some (rest A item)) Taken (none_holds (conditions A (Ceremony c at (AddItem item))) f).1.0 in
    rw (s.0, items-added A h key answer c item at free, s.1, s.2)

-- THE ROW OF A BAG

-- moved to a place, or as it was
abbrev moved_row : History → List ℕ → Spot → List ℕ → Bag
moved_row A t to k = record { serial = k; spot = unwrap_or (option_or (cond (same_text t k) (Some to) None) (spot A k)) Spent }

bags_moved : (A : History) → IsRegister A → (t : List ℕ) (to : Spot) → unknown_bag_refusal (spot A t) t ≡ None
    → put same_bag (record { serial = t; spot = to }) (bags A) ≡ map (moved_row A t to) (values_of_acts sealed_serial A)
bags_moved A h t to n =
    put-at same_bag (bag_row A) (moved_row A t to) (record { serial = t; spot = to }) (λ k e. grind (arith, same-is k t, same-itself t))
    (λ k e. grind (arith, same-turned t k)) (values_of_acts sealed_serial A) (sealed_somewhere A h t ∙ grind (arith, there, unmet))

-- the row of a new bag is put in front
bags_sealed : (A : History) → IsRegister A → (t : List ℕ) (to : Spot) → is_some (spot A t) ≡ false
    → put same_bag (record { serial = t; spot = to }) (bags A) ≡ record { serial = t; spot = to } ∷ map (moved_row A t to) (values_of_acts sealed_serial A)
bags_sealed A h t to new =
    put-first same_bag (bag_row A) (moved_row A t to) (record { serial = t; spot = to }) (λ k e. rw (same-turned t k ∙ e) refl) (values_of_acts sealed_serial A)
    (sealed_somewhere A h t ∙ new)

-- ITEMS OF A BAG THAT IS TAKEN OR PUT

abbrev loosed : History → List ℕ → Rest
loosed A s = Loose (unwrap_or (last_value_with_history (λ before. cut_at (facility_of before) s) A) East)

-- where the items of bag s are, once bag t has moved
abbrev in_moved : History → List ℕ → Spot → List ℕ → Rest
in_moved A t to s = cond (is_spent (option_or (cond (same_text t s) (Some to) None) (spot A s))) (loosed A s) (Within s)

-- a bag that is not spent, moved to where it is not either, leaves its items in it
still_in : (A : History) (t : List ℕ) (to : Spot) → is_spent (spot A t) ≡ false → is_spent (Some to) ≡ false → (s : List ℕ) → rest_in A s ≡ in_moved A t to s
still_in A t to u v s = grind (arith, same-is t s)

items_stay : (A : History) (t : List ℕ) (to : Spot) → is_spent (spot A t) ≡ false → is_spent (Some to) ≡ false → (ks : List (List ℕ))
    → map (item_row A) ks ≡ map (λ k. record { code = k; rest = unwrap_or (option_or (option_map (in_moved A t to) (last_bag A k)) (added A k)) (Loose East) }) ks
items_stay A t to u v ks = grind (arith, map-same, still_in)

-- a bag in a safe is not spent, nor is one on a table
stored : (facility : Facility) (o : Option Spot) → when (is_none (safe_of facility o)) Elsewhere ≡ None → is_spent o ≡ false
stored facility o m = grind arith

on_table : (facility : Facility) (o : Option Spot) → when (not (is_on_table facility o)) Elsewhere ≡ None → is_spent o ≡ false
on_table facility o m = grind arith

stored_there : (facility : Facility) (to : Destination) → is_spent (Some (spot_of_destination facility to)) ≡ false
stored_there facility to = grind arith

-- ITEMS THAT ARE SEALED

sealed_spot_after : (A : History) (act : Act) (k s : List ℕ) → (last_value_of_acts (sealed_in k) A ≡ Some s → is_some (spot A s) ≡ true)
    → option_or (sealed_in k act) (last_value_of_acts (sealed_in k) A) ≡ Some s → is_some (option_or (spot_after (facility_of A) s act) (spot A s)) ≡ true
sealed_spot_after A act k s ih e = grind (arith, same-itself, still)

-- a bag that an item was sealed in is somewhere
sealed_spot : (A : History) (k s : List ℕ) → last_value_of_acts (sealed_in k) A ≡ Some s → is_some (spot A s) ≡ true
sealed_spot [] k s e = grind arith
sealed_spot (entry ∷ A) k s e = grind (arith, sealed_spot_after, sealed_spot A k s)

-- an item's row, in the new bag or as it was
sealed_row : (A : History) (key : List ℕ) (c : ℕ) (serial : List ℕ) (codes : List (List ℕ)) (at : ℕ) (answer : ReplyData) → is_some (spot A serial) ≡ false
    → (k : List ℕ)
    → cond (list_any (same_text k) codes) (sealed_item serial k) (item_row A k) ≡ item_row (then_act A key (Ceremony c at (Seal serial codes)) answer) k
sealed_row A key c serial codes at answer n k = grind (arith, same-itself serial, same-is serial, sealed_spot A k)

items-seal : (A : History) → IsRegister A → (key : List ℕ) (c : ℕ) (serial : List ℕ) (codes : List (List ℕ)) (at : ℕ) (answer : ReplyData)
    → fault A (Ceremony c at (Seal serial codes)) ≡ None
    → put_all same_item (sealed_items serial codes) (items A) ≡ items (then_act A key (Ceremony c at (Seal serial codes)) answer)
items-seal A h key c serial codes at answer n =
    let met = none_holds (conditions A (Ceremony c at (Seal serial codes))) n in
    put-rows same_item (λ c k. same_text k c) (sealed_item serial) (λ c k. refl) (values_of_acts added_item A) codes
    (λ code i. added_rest A h code ∙ items_known A code codes met.1.0 (in-listed code codes i))
    (λ c k i j e. ap (sealed_item serial) (sym (same-is k c e))) (item_row A) (λ c k. refl)
    ∙ map-same _ (item_row (then_act A key (Ceremony c at (Seal serial codes)) answer)) (values_of_acts added_item A)
    (sealed_row A key c serial codes at answer (unmet (is_some (spot A serial)) Taken (assumption met)))

-- ITEMS OF A BAG THAT IS CUT

abbrev itemed : List ℕ → Rest → Item
itemed code rest = record { code = code; rest = rest }

-- an item's row, loose where its bag was cut or as it was
cut_row : (A : History) (key : List ℕ) (c : ℕ) (t : List ℕ) (at : ℕ) (answer : ReplyData) → is_spent (spot A t) ≡ false → (k : List ℕ)
    → cond (is_within t (unwrap_or (rest A k) (Loose East))) (itemed k (Loose (facility_of A c))) (item_row A k)
    ≡ item_row (then_act A key (Ceremony c at (Cut t)) answer) k
cut_row A key c t at answer n k = grind (arith, same-itself t, same-is t, same-turned t)

abbrev itemed_loose : Facility → List ℕ → Item
itemed_loose facility code = record { code = code; rest = Loose facility }

-- the codes of the items of a bag, found in any order, are those of the register's items that lie in it
module _ (A : History) (t : List ℕ) (rows : List Item) (p : Shown (lies_in t) (items A) rows) where
  abbrev codes_in : List (List ℕ)
  codes_in = map (λ row. row.code) (filter (lies_in t) rows)

  code-in : (k : List ℕ) → IsIn k codes_in → IsIn k (values_of_acts added_item A) × (lies_in t (item_row A k) ≡ true)
  code-in k i =
      let m = in-map (λ row. row.code) k (filter (lies_in t) rows) i in
      let n = in-filter (lies_in t) m.0 (items A) (in-order m.0 (filter (lies_in t) (items A)) (filter (lies_in t) rows) p m.1) in
      let q = in-map (item_row A) m.0 (values_of_acts added_item A) n.0 in
      let e : k ≡ q.0 = m.2 ∙ ap (λ row. row.code) q.2 in
      (subst (λ k. IsIn k (values_of_acts added_item A)) (sym e) q.1, ap (λ k. lies_in t (item_row A k)) e ∙ ap (lies_in t) (sym q.2) ∙ n.1)

  lies-told : (k : List ℕ) → IsIn k (values_of_acts added_item A) → list_any (same_text k) codes_in ≡ lies_in t (item_row A k)
  lies-told k i =
      same-answers (list_any (same_text k) codes_in) (lies_in t (item_row A k)) (λ h. (code-in k (listed-in k codes_in h)).1)
      (λ e. in-listed k codes_in (map-in (λ row. row.code) (item_row A k) (filter (lies_in t) rows)
      (in-order (item_row A k) (filter (lies_in t) rows) (filter (lies_in t) (items A))
      (IsPermutation-sym (filter (lies_in t) (items A)) (filter (lies_in t) rows) p)
      (filter-in (lies_in t) (item_row A k) (items A) (map-in (item_row A) k (values_of_acts added_item A) i) e))))

-- so they lead to the table after the cut
items-cut : (A : History) (key : List ℕ) (c : ℕ) (t : List ℕ) (at : ℕ) (answer : ReplyData) → fault A (Ceremony c at (Cut t)) ≡ None
    → (rows : List Item) → Shown (lies_in t) (items A) rows
    → put_all same_item (loose_items rows t (facility_of A c)) (items A) ≡ items (then_act A key (Ceremony c at (Cut t)) answer)
items-cut A key c t at answer n rows p =
    let here = facility_of A c in
    let all = values_of_acts added_item A in
    let codes = codes_in A t rows p in
    ap (λ changes. put_all same_item changes (items A)) (sym (map-map (itemed_loose here) (λ (row : Item). row.code) (filter (lies_in t) rows)))
    ∙ put-rows same_item (λ c k. same_text k c) (itemed_loose here) (λ c k. refl) all codes
    (λ code i. in-any (λ k. same_text k code) code all (code-in A t rows p code i).0 (same-itself code))
    (λ c k i j e. ap (itemed_loose here) (sym (same-is k c e))) (item_row A) (λ c k. refl)
    ∙ map-same-in (λ k. cond (list_any (same_text k) codes) (itemed_loose here k) (item_row A k)) (item_row (then_act A key (Ceremony c at (Cut t)) answer)) all
    (λ k i. ap (λ b. cond b (itemed_loose here k) (item_row A k)) (lies-told A t rows p k i)
    ∙ cut_row A key c t at answer (on_table here (spot A t) (assumption (none_holds (conditions A (Ceremony c at (Cut t))) n))) k)

-- THE CHANGES

-- the changes of a bag's taking lead to the tables of the history with it
pub take-leads : (A : History) → IsRegister A → (c : ℕ) (t : List ℕ) (at : ℕ) → LeadsOn A (Ceremony c at (Take t))
take-leads A h c t at key view answer v k f =
    let here = facility_of A c in
    let n = none_holds (conditions A (Ceremony c at (Take t))) f in
    let s = told A key c at (Take t) answer view v.ceremonies k f refl refl in
    let stay = items_stay A t (Table here) (stored here (spot A t) (assumption n)) refl (values_of_acts added_item A) in
    rw (s.0, bags_moved A h t (Table here) n.1.0, s.1, s.2, stay)

-- the changes of a bag's putting away lead to the tables of the history with it
pub put-leads : (A : History) → IsRegister A → (c : ℕ) (t : List ℕ) (to : Destination) (at : ℕ) → LeadsOn A (Ceremony c at (Put t to))
put-leads A h c t to at key view answer v k f =
    let spot_now = spot_of_destination (facility_of A c) to in
    let n = none_holds (conditions A (Ceremony c at (Put t to))) f in
    let s = told A key c at (Put t to) answer view v.ceremonies k f refl refl in
    let here = on_table (facility_of A c) (spot A t) (assumption n) in
    let stay = items_stay A t spot_now here (stored_there (facility_of A c) to) (values_of_acts added_item A) in
    rw (s.0, bags_moved A h t spot_now n.1.0, s.1, s.2, stay)

-- the rows of items put one after the other
items-changed : (rows : List Item) (rest : List Change) (t : Tables)
    → all_changed (map PutItem rows ++ rest) t ≡ all_changed rest (record t { items = put_all same_item rows t.items })
items-changed rows rest t = all_changed-rows PutItem same_item (λ rows t. record t { items = rows }) (λ row rows t. refl) rows t.items rest t

-- the tables with the bag's row and the mark's
abbrev with_bag : Bag → ℕ → ℕ → Tables → Tables
with_bag bag c at t = changed (PutMark (record { ceremony = c; at = at })) (changed (PutBag bag) t)

-- the changes of a seal lead to the tables of the history with it
pub seal-leads : (A : History) → IsRegister A → (c : ℕ) (t : List ℕ) (codes : List (List ℕ)) (at : ℕ) → LeadsOn A (Ceremony c at (Seal t codes))
seal-leads A h c t codes at key view answer v k f =
    let here = facility_of A c in
    let n = none_holds (conditions A (Ceremony c at (Seal t codes))) f in
    let tell = PutKey (new_key_row (command_of key (Ceremony c at (Seal t codes))) answer) ∷ [] in
    let s = told A key c at (Seal t codes) answer view v.ceremonies k f refl refl in
    let sealed = bags_sealed A h t (Table here) (unmet (is_some (spot A t)) Taken (assumption n)) in
    ap (λ f. all_changed (map PutItem (sealed_items t codes) ++ tell) (with_bag (record { serial = t; spot = Table f }) c at (tables A))) s.0
    ∙ items-changed (sealed_items t codes) tell (with_bag (record { serial = t; spot = Table here }) c at (tables A))
    ∙ rw (sealed, s.1, items-seal A h key c t codes at answer f, s.2) (rw (same-itself t) refl)

-- the changes of a cut lead to the tables of the history with it
pub cut-leads : (A : History) → IsRegister A → (c : ℕ) (t : List ℕ) (at : ℕ) → LeadsOn A (Ceremony c at (Cut t))
cut-leads A h c t at key view answer v k f =
    let act = Ceremony c at (Cut t) in
    let tell = PutKey (new_key_row (command_of key act) answer) ∷ [] in
    let bag : Bag = record { serial = t; spot = Spent } in
    let s = told A key c at (Cut t) answer view v.ceremonies k f refl refl in
    let moved = bags_moved A h t Spent (none_holds (conditions A act) f).1.0 in
    ap (λ facility. all_changed (map PutItem (loose_items view.items.items t facility) ++ tell) (with_bag bag c at (tables A))) s.0
    ∙ items-changed (loose_items view.items.items t (facility_of A c)) tell (with_bag bag c at (tables A))
    ∙ rw (moved, s.1, items-cut A key c t at answer f view.items.items v.items, s.2)

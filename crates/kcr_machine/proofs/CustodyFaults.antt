-- The refusals of an act of custody, on a box, an item, a safe or a bag, by the rows of a view, are those by the history.
use Rattle.kcr_machine.proofs.Common.{stay_reaches, training_reaches, IsViewOf, ◌≡◌, inl, ℕ, Bool, List, [], ◌∷◌, Option, refl, ap, ◌∙◌, ◌||◌}
use Rattle.kcr_machine.proofs.Common.{reverse, arith, list_any, list_all, cons_option, IsPermutation, same_place, Facility, Place, BoxRow, Item}
use Rattle.kcr_machine.proofs.Common.{SafeNumber, Destination, safe_of_destination, rest_by, is_open_by, place_of_box_by, is_box, is_loose_at}
use Rattle.kcr_machine.proofs.Common.{unknown_item_refusal, no_ca_refusal, keepers_conditions, AddBox, Ceremony, Seal, Take, Put, Cut, AddItem}
use Rattle.kcr_machine.proofs.Common.{SetSafe, View, History, has_command, facility_of, rest, place_of_box, boxes_place, is_open, boxes, box_row}
use Rattle.kcr_machine.proofs.Common.{tables, trainings, withdrawals, is_holder_present, asks_bag, IsRegister, has_trained_present_by}
use Rattle.kcr_machine.proofs.Common.{is_holder_present_by, first_of, list_any-IsPermutation, Act, box-there, day_of, sheet, has_trained_present}
use Rattle.kcr_machine.proofs.Common.{stays_by, IsIn, all-same-in, find-same-in}
use Rattle.kcr_base.specs.declared.place.Role.TheVariants.{Ca}
use Rattle.kcr_machine.proofs.BagsWords.{open-shown, place-shown, rest-coded, spot-shown}
use Rattle.kcr_machine.proofs.InRoom.{attended-shown, holder_in-shown, in-shown, trained-own}
use Rattle.kcr_machine.proofs.{Keyed.Shown, People.person-shown, Leads.EarlyShown, Leads.LateShown, Scenes.facility-shown, Scenes.scene-shown}

-- WORDS

-- functions that agree everywhere are one
pub functions-same : {X Y : Type 0} (f g : X → Y) → ((x : X) → f x ≡ g x) → f ≡ g
functions-same f g h = λ i x. h x i

-- the places of boxes by the rows are those by the history
places-shown : (A : History) → IsRegister A → (rows : List BoxRow) → IsPermutation (boxes A) rows → (f : Facility)
    → place_of_box_by rows f ≡ place_of_box A f
places-shown A h rows p f = functions-same (place_of_box_by rows f) (place_of_box A f) (place-shown A h rows p f)

-- items of which each is where the history says
module _ (A : History) (rows : List Item) (codes : List (List ℕ)) (same : (k : List ℕ) → IsIn k codes → rest_by rows k ≡ rest A k) where
  -- the refusal for the first unknown item is the same by the rows as by the history
  pub no_item-shown : unknown_item_refusal (rest_by rows) codes ≡ unknown_item_refusal (rest A) codes
  no_item-shown = grind (arith, find-same-in)

  -- all items are loose at the facility by the rows if and only if by the history
  pub loose-shown : (facility : Facility) → list_all (λ k. is_loose_at facility (rest_by rows k)) codes ≡ list_all (λ k. is_loose_at facility (rest A k)) codes
  loose-shown facility = grind (arith, all-same-in)

-- THE KINDS

-- a box of the place is added by the last command, or was there
place_after : (place : Place) (act : Act) (rows : List BoxRow)
    → list_any (λ old. same_place old.place place) (cons_option (box_row act) rows)
    ≡ (boxes_place place act || list_any (λ old. same_place old.place place) rows)
place_after place act rows = grind arith

place-there : (A : History) (place : Place) → list_any (λ old. same_place old.place place) (boxes A) ≡ has_command (boxes_place place) A
place-there [] place = refl
place-there (entry ∷ A) place = place_after place entry.command.act (boxes A) ∙ ap (λ b. boxes_place place entry.command.act || b) (place-there A place)

-- a new box has the same late refusal by the rows of a view as by the history
pub add_box-late : (A : History) (facility : Facility) (number : ℕ) (place : Place) → LateShown A (AddBox facility number place)
add_box-late A facility number place view v =
    rw (
      ← list_any-IsPermutation (is_box facility number) (boxes A) view.boxes.items v.boxes,
      ← list_any-IsPermutation (λ old. same_place old.place place) (boxes A) view.boxes.items v.boxes,
      box-there A facility number,
      place-there A place,
    )

-- WHOEVER IS IN THE ROOM

-- a new item has the same early refusal by the rows read first as by the history
pub add_item-early : (A : History) → IsRegister A → (c : ℕ) (item : List ℕ) (at : ℕ) → EarlyShown A (Ceremony c at (AddItem item))
add_item-early A h c item at view v =
    let s = scene-shown A h c view v.ceremonies v.marks in
    rw (s.0, s.1, s.2, rest-coded A h (item ∷ []) view.items.items v.items item (inl refl))

-- a safe's opening or shutting has the same early refusal by the rows read first as by the history
pub turn-early : (A : History) → IsRegister A → (c : ℕ) (safe : SafeNumber) (state : Bool) (by : List ℕ) (at : ℕ) → EarlyShown A (Ceremony c at (SetSafe safe state by))
turn-early A h c safe state by at view v =
    let s = scene-shown A h c view v.ceremonies v.marks in
    rw (s.0, s.3, s.1, s.2, person-shown A by view.people.items v.people, open-shown A view.safes.items v.safes (facility_of A c) safe)

-- a cut has the same early refusal by the rows read first as by the history
pub cut-early : (A : History) → IsRegister A → (c : ℕ) (t : List ℕ) (at : ℕ) → EarlyShown A (Ceremony c at (Cut t))
cut-early A h c t at view v =
    let s = scene-shown A h c view v.ceremonies v.marks in
    rw (s.0, s.3, s.1, s.2, spot-shown A h t view.bags.items v.bags)

-- a seal has the same early refusal by the rows read first as by the history
pub seal-early : (A : History) → IsRegister A → (c : ℕ) (t : List ℕ) (codes : List (List ℕ)) (at : ℕ) → EarlyShown A (Ceremony c at (Seal t codes))
seal-early A h c t codes at view v =
    let s = scene-shown A h c view v.ceremonies v.marks in
    let same = rest-coded A h codes view.items.items v.items in
    let loose = loose-shown A view.items.items codes same (facility_of A c) in
    rw (s.0, s.3, s.1, s.2, spot-shown A h t view.bags.items v.bags, no_item-shown A view.items.items codes same, loose)

-- a bag's taking has the same early refusal by the rows read first as by the history
pub take-early : (A : History) → IsRegister A → (c : ℕ) (t : List ℕ) (at : ℕ) → EarlyShown A (Ceremony c at (Take t))
take-early A h c t at view v =
    let s = scene-shown A h c view v.ceremonies v.marks in
    let here = facility_of A c in
    let opens = functions-same (is_open_by view.safes.items here) (is_open A here) (open-shown A view.safes.items v.safes here) in
    rw (s.0, s.3, s.1, s.2, spot-shown A h t view.bags.items v.bags, opens)

-- a bag's putting away has the same early refusal by the rows read first as by the history
pub put-early : (A : History) → IsRegister A → (c : ℕ) (t : List ℕ) (to : Destination) (at : ℕ) → EarlyShown A (Ceremony c at (Put t to))
put-early A h c t to at view v =
    let s = scene-shown A h c view v.ceremonies v.marks in
    let opens = open-shown A view.safes.items v.safes (facility_of A c) (safe_of_destination to) in
    rw (s.0, s.3, s.1, s.2, spot-shown A h t view.bags.items v.bags, opens, places-shown A h view.boxes.items v.boxes (facility_of A c))

-- BY WHO IS IN IT

-- an act that needs a CA in the room
pub ca-late : (A : History) → IsRegister A → (c at : ℕ) (view : View) → Shown (stay_reaches c at) (reverse (stays_by (sheet A))) view.stays.items
    → Shown (training_reaches (day_of at)) (trainings A) view.trainings.items → IsPermutation (withdrawals A) view.withdrawals.items
    → first_of (no_ca_refusal (has_trained_present_by view Ca c at) ∷ []) ≡ first_of (no_ca_refusal (has_trained_present A Ca c at) ∷ [])
ca-late A h c at view room ts ws = ap (λ has_ca. first_of (no_ca_refusal has_ca ∷ [])) (attended-shown A h view c at room ts ws Ca)

-- a safe's opening or shutting has the same late refusal by the rows of a view as by the history
pub turn-late : (A : History) → IsRegister A → (c : ℕ) (safe : SafeNumber) (state : Bool) (by : List ℕ) (at : ℕ) → LateShown A (Ceremony c at (SetSafe safe state by))
turn-late A h c safe state by at view v = grind (arith, in-shown, trained-own)

-- an act that needs the holder of a place, if one is meant, beside a CA
keepers-late : (A : History) → IsRegister A → (c : ℕ) (t : List ℕ) (at : ℕ) (view : View) → IsViewOf (asks_bag c t at) (tables A) view
    → (o p : Option Place) → o ≡ p
    → first_of (keepers_conditions (has_trained_present_by view Ca c at) (λ place. is_holder_present_by view place c at) o)
    ≡ first_of (keepers_conditions (has_trained_present A Ca c at) (λ place. is_holder_present A place c at) p)
keepers-late A h c t at view v o p same = grind (arith, attended-shown, functions-same, holder_in-shown)

-- a bag's taking has the same late refusal by the rows of a view as by the history
pub take-late : (A : History) → IsRegister A → (c : ℕ) (t : List ℕ) (at : ℕ) → LateShown A (Ceremony c at (Take t))
take-late A h c t at view v =
    keepers-late A h c t at view v _ _
    (let place = places-shown A h view.boxes.items v.boxes (facility_of A c) in
    rw (facility-shown A c view.ceremonies.items v.ceremonies, spot-shown A h t view.bags.items v.bags, place))

-- a bag's putting away has the same late refusal by the rows of a view as by the history
pub put-late : (A : History) → IsRegister A → (c : ℕ) (t : List ℕ) (to : Destination) (at : ℕ) → LateShown A (Ceremony c at (Put t to))
put-late A h c t to at view v =
    keepers-late A h c t at view v _ _
    (rw (facility-shown A c view.ceremonies.items v.ceremonies, places-shown A h view.boxes.items v.boxes (facility_of A c)))

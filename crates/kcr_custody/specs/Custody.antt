-- Safes, boxes, bags and items, by rows.
use Rattle.std.specs.Prelude.{ℕ, Bool, true, false, not, ◌&&◌, ◌||◌, nat_eq, List, [], ◌∷◌, map, filter, find}
use Rattle.std.specs.Prelude.{Option, Some, None, option_map, option_and_then, is_some, is_none, if◌then◌else◌}
use Rattle.std.specs.List.{list_any, list_all}
use Rattle.kcr_base.specs.{Same.same_text, Same.same_facility, Same.same_place, declared.refusal.Refusal.Refusal}
use Rattle.kcr_base.specs.Refuse.{when, first_of, unknown_person_refusal, unknown_ceremony_refusal, before_mark_refusal}
use Rattle.kcr_base.specs.declared.place.{Facility.Facility, Role.TheVariants.Ca, Place.Place, Place.TheVariants.Co, Place.TheVariants.Rksh}
use Rattle.kcr_base.specs.declared.refusal.Refusal.TheVariants as Refusals
use Rattle.kcr_base.specs.declared.refusal.Refusal.TheVariants.{Unknown, Taken, Range, State, Full, Elsewhere, Absent}
use Rattle.kcr_base.specs.declared.refusal.Thing.TheVariants as Things
use Rattle.kcr_base.specs.declared.refusal.Absentee.TheVariants as Absentees
use Rattle.kcr_custody.specs.declared.{CeremonyStatus.CeremonyStatus, SafeRow.SafeRow, BoxRow.BoxRow}
use Rattle.kcr_custody.specs.declared.{SafeOperator.SafeOperator, Bag.Bag, Item.Item, Rest.Rest, Rest.TheVariants.Loose, Rest.TheVariants.Within}
use Rattle.kcr_custody.specs.declared.SafeNumber.{SafeNumber, TheVariants.One, TheVariants.Two}
use Rattle.kcr_custody.specs.declared.Spot.{Spot, TheVariants.Table, TheVariants.Equipment, TheVariants.InBox}
use Rattle.kcr_custody.specs.declared.Destination.{Destination, TheVariants.SafeOne, TheVariants.DepositBox}

-- WHAT THE ROWS SAY

abbrev pub safe_number : SafeNumber → ℕ
safe_number One = 1
safe_number Two = 2

abbrev pub same_safe : SafeNumber → SafeNumber → Bool
same_safe a b = nat_eq (safe_number a) (safe_number b)

-- the row of an open safe
abbrev pub is_open_row : Facility → SafeNumber → SafeRow → Bool
is_open_row facility safe row = same_facility row.facility facility && same_safe row.safe safe && row.is_open

abbrev pub is_open_by : List SafeRow → Facility → SafeNumber → Bool
is_open_by safes facility safe = list_any (is_open_row facility safe) safes

-- the row of the box
abbrev pub is_box : Facility → ℕ → BoxRow → Bool
is_box facility number row = same_facility row.facility facility && nat_eq row.number number

-- the place that the box belongs to
abbrev pub place_of_box_by : List BoxRow → Facility → ℕ → Option Place
place_of_box_by boxes facility number = option_map (λ row. row.place) (find (is_box facility number) boxes)

-- where the bag is, `None` if no such bag was sealed
abbrev pub spot_by : List Bag → List ℕ → Option Spot
spot_by bags serial = option_map (λ row. row.spot) (find (λ row. same_text row.serial serial) bags)

-- where the item is, `None` if it was never added
abbrev pub rest_by : List Item → List ℕ → Option Rest
rest_by items code = option_map (λ row. row.rest) (find (λ row. same_text row.code code) items)

abbrev pub is_on_table : Facility → Option Spot → Bool
is_on_table facility (Some (Table f)) = same_facility f facility
is_on_table facility other = false

abbrev pub is_loose_at : Facility → Option Rest → Bool
is_loose_at facility (Some (Loose f)) = same_facility f facility
is_loose_at facility other = false

-- the safe of the facility in which the bag is
abbrev pub safe_of : Facility → Option Spot → Option SafeNumber
safe_of facility (Some (Equipment f)) = if same_facility f facility then Some One else None
safe_of facility (Some (InBox f number)) = if same_facility f facility then Some Two else None
safe_of facility other = None

abbrev pub safe_of_destination : Destination → SafeNumber
safe_of_destination SafeOne = One
safe_of_destination (DepositBox number) = Two

-- the box in which the bag is
abbrev pub box_of : Option Spot → Option ℕ
box_of (Some (InBox facility number)) = Some number
box_of other = None

abbrev pub box_of_destination : Destination → Option ℕ
box_of_destination SafeOne = None
box_of_destination (DepositBox number) = Some number

-- the spot in a facility
abbrev pub spot_of_destination : Facility → Destination → Spot
spot_of_destination facility SafeOne = Equipment facility
spot_of_destination facility (DepositBox number) = InBox facility number

-- the place of a box of the facility, if there is one
abbrev pub place_of : List BoxRow → Facility → Option ℕ → Option Place
place_of boxes facility box = option_and_then (place_of_box_by boxes facility) box

abbrev pub is_co_place_of : Facility → Place → Bool
is_co_place_of facility (Co f n) = same_facility f facility
is_co_place_of facility (Rksh n) = false

-- the item is in the bag
abbrev pub is_within : List ℕ → Rest → Bool
is_within serial (Within s) = same_text s serial
is_within serial (Loose f) = false

abbrev pub lies_in : List ℕ → Item → Bool
lies_in serial row = is_within serial row.rest

abbrev pub loose_item : Facility → Item → Item
loose_item facility row = record { code = row.code; rest = Loose facility }

abbrev pub sealed_item : List ℕ → List ℕ → Item
sealed_item serial code = record { code = code; rest = Within serial }

-- the items of the bag, loose at the facility
abbrev pub loose_items : List Item → List ℕ → Facility → List Item
loose_items items serial facility = map (loose_item facility) (filter (lies_in serial) items)

-- the items in the bag
abbrev pub sealed_items : List ℕ → List (List ℕ) → List Item
sealed_items serial codes = map (sealed_item serial) codes

-- WHAT SEVERAL ACTS TEST

-- the ceremony is not open, the moment is before its mark, or the register is full
abbrev pub not_ready_refusal : CeremonyStatus → Option Refusal
not_ready_refusal status =
    first_of
    (when (not status.is_open) State
    ∷ before_mark_refusal status.at status.mark
    ∷ when status.is_full Full
    ∷ [])

-- nobody in the room is trained as CA
abbrev pub no_ca_refusal : Bool → Option Refusal
no_ca_refusal has_ca = when (not has_ca) (Absent (Absentees.Role Ca))

abbrev pub unknown_bag_refusal : Option Spot → List ℕ → Option Refusal
unknown_bag_refusal spot serial = when (is_none spot) (Unknown (Things.Bag serial))

-- the first of the items that was never added
abbrev pub unknown_item_refusal : (List ℕ → Option Rest) → List (List ℕ) → Option Refusal
unknown_item_refusal rest codes = option_map (λ code. Unknown (Things.Item code)) (find (λ code. is_none (rest code)) codes)

-- the box, where the bag is to be put in one
abbrev pub unknown_box_refusal : (ℕ → Option Place) → Option ℕ → Option Refusal
unknown_box_refusal place None = None
unknown_box_refusal place (Some number) = when (is_none (place number)) (Unknown (Things.Box number))

-- the safe is shut
abbrev pub shut_refusal : (SafeNumber → Bool) → Option SafeNumber → Option Refusal
shut_refusal is_open None = None
shut_refusal is_open (Some safe) = when (not (is_open safe)) Refusals.Safe

-- the box's place has no holder on the day, or one who is not in the room
abbrev pub no_holder_refusal : (Place → Bool) → Option Place → Option Refusal
no_holder_refusal has_holder None = None
no_holder_refusal has_holder (Some place) = when (not (has_holder place)) (Absent (Absentees.Place place))

-- THE CONDITIONS OF EACH ACT in the order of the refusals, over what is asked: its ceremony; the place of a box and whether
-- a safe is open at its facility; where a bag or an item is. First those that hold or not whoever is in the room (early),
-- then those on who is in it: whether a CA is, and whether a place has its holder there

abbrev pub add_box_conditions : Bool → Bool → Bool → BoxRow → List (Option Refusal)
add_box_conditions has_box has_place is_full row =
    when (has_box || has_place) Taken
    ∷ when (not (is_co_place_of row.facility row.place)) Range
    ∷ when is_full Full
    ∷ []

abbrev pub add_item_early : CeremonyStatus → Option Rest → List (Option Refusal)
add_item_early status rest =
    unknown_ceremony_refusal status.is_known status.ceremony
    ∷ when (is_some rest) Taken
    ∷ not_ready_refusal status
    ∷ []

abbrev pub same_truth : Bool → Bool → Bool
same_truth true b = b
same_truth false b = not b

abbrev pub safe_early : CeremonyStatus → (SafeNumber → Bool) → SafeNumber → Bool → Bool → List ℕ → List (Option Refusal)
safe_early status is_open safe state is_known who =
    unknown_ceremony_refusal status.is_known status.ceremony
    ∷ unknown_person_refusal is_known who
    ∷ not_ready_refusal status
    ∷ when (same_truth (is_open safe) state) Refusals.Safe
    ∷ []

-- in the room, and trained as SSC1 for safe 1 or as SSC2 for safe 2
abbrev pub may_operate : SafeNumber → SafeOperator → Bool
may_operate One by = by.is_present && by.has_ssc1
may_operate Two by = by.is_present && by.has_ssc2

abbrev pub no_operator_refusal : SafeNumber → SafeOperator → Option Refusal
no_operator_refusal safe by = when (not (may_operate safe by)) (Absent (Absentees.Person by.who))

abbrev pub seal_early : CeremonyStatus → Option Spot → (List ℕ → Option Rest) → List (List ℕ) → List (Option Refusal)
seal_early status spot rest codes =
    unknown_ceremony_refusal status.is_known status.ceremony
    ∷ unknown_item_refusal rest codes
    ∷ when (is_some spot) Taken
    ∷ not_ready_refusal status
    ∷ when (not (list_all (λ code. is_loose_at status.facility (rest code)) codes)) Elsewhere
    ∷ []

abbrev pub take_early : CeremonyStatus → (SafeNumber → Bool) → Option Spot → List ℕ → List (Option Refusal)
take_early status is_open spot serial =
    unknown_ceremony_refusal status.is_known status.ceremony
    ∷ unknown_bag_refusal spot serial
    ∷ not_ready_refusal status
    ∷ shut_refusal is_open (safe_of status.facility spot)
    ∷ when (is_none (safe_of status.facility spot)) Elsewhere
    ∷ []

abbrev pub put_early : CeremonyStatus → (SafeNumber → Bool) → (ℕ → Option Place) → Option Spot → List ℕ → Destination
    → List (Option Refusal)
put_early status is_open place spot serial to =
    unknown_ceremony_refusal status.is_known status.ceremony
    ∷ unknown_bag_refusal spot serial
    ∷ unknown_box_refusal place (box_of_destination to)
    ∷ not_ready_refusal status
    ∷ shut_refusal is_open (Some (safe_of_destination to))
    ∷ when (not (is_on_table status.facility spot)) Elsewhere
    ∷ []

abbrev pub cut_early : CeremonyStatus → Option Spot → List ℕ → List (Option Refusal)
cut_early status spot serial =
    unknown_ceremony_refusal status.is_known status.ceremony
    ∷ unknown_bag_refusal spot serial
    ∷ not_ready_refusal status
    ∷ when (not (is_on_table status.facility spot)) Elsewhere
    ∷ []

-- who has to be in the room for a bag to leave a safe or go into one: a CA, and the holder of the place of its box
abbrev pub keepers_conditions : Bool → (Place → Bool) → Option Place → List (Option Refusal)
keepers_conditions has_ca has_holder place = no_ca_refusal has_ca ∷ no_holder_refusal has_holder place ∷ []

-- THE FIRST REFUSAL, by rows

abbrev pub add_box_refusal : List BoxRow → Bool → BoxRow → Option Refusal
add_box_refusal boxes is_full row =
    first_of
    (add_box_conditions (list_any (is_box row.facility row.number) boxes)
    (list_any (λ old. same_place old.place row.place) boxes) is_full row)

-- whoever is in the room

abbrev pub add_item_refusal : CeremonyStatus → List Item → List ℕ → Option Refusal
add_item_refusal status items code = first_of (add_item_early status (rest_by items code))

abbrev pub safe_refusal : CeremonyStatus → List SafeRow → SafeNumber → Bool → Bool → List ℕ → Option Refusal
safe_refusal status safes safe state is_known who = first_of (safe_early status (is_open_by safes status.facility) safe state is_known who)

abbrev pub seal_refusal : CeremonyStatus → List Bag → List Item → List ℕ → List (List ℕ) → Option Refusal
seal_refusal status bags items serial codes = first_of (seal_early status (spot_by bags serial) (rest_by items) codes)

abbrev pub take_refusal : CeremonyStatus → List SafeRow → List Bag → List ℕ → Option Refusal
take_refusal status safes bags serial = first_of (take_early status (is_open_by safes status.facility) (spot_by bags serial) serial)

abbrev pub put_refusal : CeremonyStatus → List SafeRow → List BoxRow → List Bag → List ℕ → Destination → Option Refusal
put_refusal status safes boxes bags serial to =
    first_of
    (put_early status (is_open_by safes status.facility) (place_of_box_by boxes status.facility) (spot_by bags serial) serial to)

abbrev pub cut_refusal : CeremonyStatus → List Bag → List ℕ → Option Refusal
cut_refusal status bags serial = first_of (cut_early status (spot_by bags serial) serial)

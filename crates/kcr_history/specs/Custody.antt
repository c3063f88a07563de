-- What the history says of safes, boxes, bags and items: of each what the last command that bears on it says.
use Rattle.std.specs.Prelude.{ℕ, ◌==◌, Bool, true, false, ◌&&◌, List, Option, Some, None, option_map, unwrap_or, if◌then◌else◌}
use Rattle.std.specs.List.{list_any}
use Rattle.kcr_base.specs.{Rows.option_or, Same.same_text, Same.same_place, Same.same_facility}
use Rattle.kcr_base.specs.declared.place.{Facility.Facility, Facility.TheVariants.East, Place.Place}
use Rattle.kcr_custody.specs.declared.{SafeNumber.SafeNumber, Spot.Spot, Spot.TheVariants.Table, Spot.TheVariants.Spent}
use Rattle.kcr_custody.specs.declared.Rest.{Rest, TheVariants.Loose, TheVariants.Within}
use Rattle.kcr_custody.specs.Custody.{same_safe, spot_of_destination}
use Rattle.kcr_history.specs.declared.commands.Act.{Act, TheVariants.AddBox, TheVariants.Ceremony}
use Rattle.kcr_history.specs.declared.commands.Deed.TheVariants.{AddItem, SetSafe, Seal, Take, Put, Cut}
use Rattle.kcr_history.specs.{History.History, History.last_value_of_acts, History.last_value_with_history, Ceremonies.facility_of}

-- BAGS

-- where a command leaves the bag; `here` gives the facility of a ceremony
abbrev pub spot_after : (ℕ → Facility) → List ℕ → Act → Option Spot
spot_after here serial (Ceremony c at (Seal s items)) = if same_text s serial then Some (Table (here c)) else None
spot_after here serial (Ceremony c at (Take s)) = if same_text s serial then Some (Table (here c)) else None
spot_after here serial (Ceremony c at (Put s to)) = if same_text s serial then Some (spot_of_destination (here c) to) else None
spot_after here serial (Ceremony c at (Cut s)) = if same_text s serial then Some Spent else None
spot_after here serial act = None

-- where the bag is, `None` if no such bag was sealed
abbrev pub spot : History → List ℕ → Option Spot
spot A serial = last_value_with_history (λ before. spot_after (facility_of before) serial) A

abbrev pub is_spent : Option Spot → Bool
is_spent (Some Spent) = true
is_spent other = false

-- ITEMS

-- the bag in which a seal puts the item
abbrev pub sealed_in : List ℕ → Act → Option (List ℕ)
sealed_in item (Ceremony c at (Seal serial items)) = if list_any (same_text item) items then Some serial else None
sealed_in item act = None

-- the facility where the bag was cut
abbrev pub cut_at : (ℕ → Facility) → List ℕ → Act → Option Facility
cut_at here serial (Ceremony c at (Cut s)) = if same_text s serial then Some (here c) else None
cut_at here serial act = None

-- the facility where the item was added
abbrev pub added_at : (ℕ → Facility) → List ℕ → Act → Option Facility
added_at here item (Ceremony c at (AddItem i)) = if same_text i item then Some (here c) else None
added_at here item act = None

-- where an item is that was last sealed in this bag: within it, or loose where it was cut
abbrev pub rest_in : History → List ℕ → Rest
rest_in A serial =
    if is_spent (spot A serial)
    then Loose (unwrap_or (last_value_with_history (λ before. cut_at (facility_of before) serial) A) East)
    else Within serial

-- where the item is: as its last seal says, or else loose where it was added; `None` if it was never added
abbrev pub rest : History → List ℕ → Option Rest
rest A item =
    option_or (option_map (rest_in A) (last_value_of_acts (sealed_in item) A))
    (option_map Loose (last_value_with_history (λ before. added_at (facility_of before) item) A))

-- SAFES

-- what a command says of the safe
abbrev pub safe_state_after : (ℕ → Facility) → Facility → SafeNumber → Act → Option Bool
safe_state_after here facility safe (Ceremony c at (SetSafe s state by)) =
    if same_facility (here c) facility && same_safe s safe then Some state else None
safe_state_after here facility safe act = None

-- the safe is open: its last command says so; at first it is shut
abbrev pub is_open : History → Facility → SafeNumber → Bool
is_open A facility safe = unwrap_or (last_value_with_history (λ before. safe_state_after (facility_of before) facility safe) A) false

-- BOXES

-- the place of a box that a command adds
abbrev pub added_box_place : Facility → ℕ → Act → Option Place
added_box_place facility number (AddBox f n place) = if same_facility f facility && n == number then Some place else None
added_box_place facility number act = None

-- the place that the box belongs to, `None` if there is no such box
abbrev pub place_of_box : History → Facility → ℕ → Option Place
place_of_box A facility number = last_value_of_acts (added_box_place facility number) A

-- the command adds a box for the place
abbrev pub boxes_place : Place → Act → Bool
boxes_place place (AddBox f n p) = same_place p place
boxes_place place act = false

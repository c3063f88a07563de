-- Bags sealed, taken, put away and cut, by the rows of a view.
use Rattle.std.specs.Prelude.{ℕ, Bool, false, List, [], ◌∷◌, map, Option, Some, None}
use Rattle.kcr_base.specs.declared.place.Place.{Place}
use Rattle.kcr_custody.specs.declared.{Spot.TheVariants.Table, Spot.TheVariants.Spent, Destination.Destination}
use Rattle.kcr_custody.specs.Custody.{spot_of_destination, loose_items, sealed_items}
use Rattle.kcr_history.specs.declared.views.Change.{Change, TheVariants.PutBag, TheVariants.PutItem, TheVariants.PutMark}
use Rattle.kcr_history.specs.declared.views.View.{View}
use Rattle.kcr_rules.specs.CeremonyStatus.{is_holder_present_by, facility_by}

-- the place has a holder, who is in the room, if a place is meant
abbrev pub is_box_holder_present_by : View → ℕ → ℕ → Option Place → Bool
is_box_holder_present_by view ceremony at None = false
is_box_holder_present_by view ceremony at (Some place) = is_holder_present_by view place ceremony at

-- THE ROWS THAT ARE PUT: the bag, the ceremony's mark, and each item that is moved

abbrev pub seal_changes_by : View → ℕ → List ℕ → List (List ℕ) → ℕ → List Change
seal_changes_by view ceremony serial codes at =
    PutBag (record { serial = serial; spot = Table (facility_by view ceremony) })
    ∷ PutMark (record { ceremony = ceremony; at = at }) ∷ map PutItem (sealed_items serial codes)

abbrev pub take_changes_by : View → ℕ → List ℕ → ℕ → List Change
take_changes_by view ceremony serial at =
    PutBag (record { serial = serial; spot = Table (facility_by view ceremony) })
    ∷ PutMark (record { ceremony = ceremony; at = at }) ∷ []

abbrev pub put_changes_by : View → ℕ → List ℕ → Destination → ℕ → List Change
put_changes_by view ceremony serial to at =
    PutBag (record { serial = serial; spot = spot_of_destination (facility_by view ceremony) to })
    ∷ PutMark (record { ceremony = ceremony; at = at }) ∷ []

abbrev pub cut_changes_by : View → ℕ → List ℕ → ℕ → List Change
cut_changes_by view ceremony serial at =
    PutBag (record { serial = serial; spot = Spent }) ∷ PutMark (record { ceremony = ceremony; at = at })
    ∷ map PutItem (loose_items view.items.items serial (facility_by view ceremony))

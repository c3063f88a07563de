-- The rows of a sheet with their places, and their stays with given ends.
use Rattle.std.specs.Prelude.{ℕ, suc, List, [], ◌∷◌, Option, if◌then◌else◌}
use Rattle.kcr_room.specs.{declared.SheetRow.SheetRow, declared.Stay.Stay, declared.stays.SheetEvent.SheetEvent, Room.is_enter, Stays.stay_from}

-- the steps of rows of which the first has this place
abbrev pub sheet_events_from : ℕ → List SheetRow → List SheetEvent
sheet_events_from place [] = []
sheet_events_from place (row ∷ rows) = record { at = row.at; place = place; who = row.who } ∷ sheet_events_from (suc place) rows

abbrev pub sheet_events_by : List SheetRow → List SheetEvent
sheet_events_by rows = sheet_events_from 0 rows

-- the stays of the rows with these ends
abbrev pub stays_with : List SheetRow → List (Option ℕ) → List Stay
stays_with [] ends = []
stays_with (row ∷ rows) [] = []
stays_with (row ∷ rows) (until ∷ ends) =
    if is_enter row.way then stay_from row until ∷ stays_with rows ends else stays_with rows ends

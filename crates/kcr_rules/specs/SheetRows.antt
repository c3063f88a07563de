-- What is decided of the sheet, by the rows of a view.
use Rattle.std.specs.Prelude.{ℕ, Bool, not, List, ◌++◌, map, find, Option, Some, None}
use Rattle.kcr_base.specs.declared.refusal.Refusal.{Refusal, TheVariants.State}
use Rattle.kcr_people.specs.{declared.Person.Person, People.is_person_by}
use Rattle.kcr_room.specs.{declared.Stay.Stay, declared.Way.Way, Requests.stays_refusal, Requests.changed_stays, Requests.new_row}
use Rattle.kcr_history.specs.declared.views.{Change.Change, Change.TheVariants.PutSheet, Change.TheVariants.PutStay, View.View}
pub use Rattle.kcr_history.specs.Conditions.{first_twice}

-- the first of the people who is not in the register
abbrev pub first_unknown : List Person → List (List ℕ) → Option (List ℕ)
first_unknown rows people = find (λ who. not (is_person_by rows who)) people

-- what the stays tell of a request, of a ceremony that has N `in` rows, with this mark: an open one has a mark
abbrev pub room_refusal : List Stay → ℕ → Bool → Option ℕ → ℕ → Way → List (List ℕ) → ℕ → Option Refusal
room_refusal stays entered full None ceremony way people at = Some State
room_refusal stays entered full (Some mark) ceremony way people at = stays_refusal stays entered ceremony mark full way people at

-- the rows that it puts: one of the sheet for each of the people, and the stays that it changes
abbrev pub sheet_changes_by : View → ℕ → Way → List (List ℕ) → ℕ → List Change
sheet_changes_by view ceremony way people at =
    map PutSheet (map (new_row ceremony way at) people)
    ++ map PutStay (changed_stays view.stays.items ceremony way people at)

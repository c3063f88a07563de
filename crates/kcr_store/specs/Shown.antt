-- What some rows could show, whatever the disk returns. What those of the tables show, exactly, is in `ShownBy`.
use Rattle.std.specs.Prelude.{◌≡◌, false, List, All, AllPairs, IsPermutation, IsTrue, map, filter, Some, ℕ, ⊤}
use Rattle.std.specs.List.{list_any}
use Rattle.kcr_audit.specs.Views.{tables_of}
use Rattle.kcr_people.specs.{declared.Training.Training, declared.Withdrawal.Withdrawal, People.holder_by}
use Rattle.kcr_custody.specs.Custody.{spot_by, lies_in}
use Rattle.kcr_room.specs.Stays.{present_in_by}
use Rattle.kcr_history.specs.Questions.{is_role_before, roles_of, person_of, holders_from}
use Rattle.kcr_history.specs.{Tables.Tables, Views.is_of_number}
use Rattle.kcr_history.specs.declared.questions.{Question.Question, Shown.Shown, CustodiansShown.CustodiansShown}
use Rattle.kcr_history.specs.declared.questions.Question.TheVariants as asked
use Rattle.kcr_history.specs.declared.questions.Shown.TheVariants as shown
use Rattle.kcr_history.specs.declared.questions.{RoleShown.RoleShown, BagShown.BagShown, PersonShown.PersonShown, RoomShown.RoomShown}

-- these are the person's trainings as the rows say, and none stands behind one that it stands before
pub record AreRolesOf (taught : List Training) (withdrawn : List Withdrawal) (who : List ℕ)
    (shown : List RoleShown) : Type 0 where
  pub roles : IsPermutation (roles_of taught withdrawn who) shown
  pub order : AllPairs (λ a b. is_role_before b a ≡ false) shown

-- the people of the rows in their order, each with their trainings
pub record ArePeopleOf (m : Tables) (shown : List PersonShown) : Type 0 where
  pub people : map person_of shown ≡ m.people
  pub each : All (λ person. AreRolesOf m.trainings m.withdrawals person.who person.roles.items) shown

-- who holds which place on the day that is asked for, by the rows
pub record AreCustodiansOf (m : Tables) (asked : ℕ) (shown : CustodiansShown) : Type 0 where
  pub day : shown.day ≡ asked
  pub holders : shown.holders.items ≡ holders_from (λ place. holder_by m.appointments place asked)

-- the bag that is asked for has a row that says where it lies, and these are the items within it, in the rows' order
pub record IsBagOf (m : Tables) (asked : List ℕ) (shown : BagShown) : Type 0 where
  pub serial : shown.serial ≡ asked
  pub spot : spot_by m.bags asked ≡ Some shown.spot
  pub items : shown.items.items ≡ map (λ item. item.code) (filter (lies_in asked) m.items)

-- the ceremony has a row, and these people are in its room at the moment that is asked for, by the rows
pub record IsRoomOf (m : Tables) (ceremony moment : ℕ) (shown : RoomShown) : Type 0 where
  pub planned : IsTrue (list_any (is_of_number ceremony) m.ceremonies)
  pub at : shown.at ≡ moment
  pub people : shown.people.items ≡ present_in_by m.stays ceremony moment

-- What the rows show to a question. Steps, a sheet and custody may be any rows: they are read one at a time, so they
-- need not be in order on a disk that does not return what was written.
abbrev pub IsShownOf : Tables → Question → Shown → Type 0
IsShownOf m asked.People (shown.People rows) = ArePeopleOf m rows.items
IsShownOf m (asked.Custodians day) (shown.Custodians custodians) = AreCustodiansOf m day custodians
IsShownOf m (asked.Bag serial) (shown.Bag bag) = IsBagOf m serial bag
IsShownOf m (asked.Room ceremony at) (shown.Room room) = IsRoomOf m ceremony at room
IsShownOf m (asked.Steps ceremony) (shown.Steps steps) = ⊤
IsShownOf m (asked.Sheet ceremony) (shown.Sheet stays) = ⊤
IsShownOf m asked.Custody (shown.Custody custody) = ⊤
IsShownOf m asked.All (shown.All view) = tables_of view ≡ m
IsShownOf m question shown = ⊥

-- some rows show this to the question
abbrev pub IsShownByRows : Question → Shown → Type 0
IsShownByRows question shown = (m : Tables) × IsShownOf m question shown

-- What a question is shown by a register with a history.
use Rattle.std.specs.Prelude.{◌≡◌, ℕ, ◌==◌, Bool, true, false, ◌&&◌, ◌||◌, nat_lt, List, ◌++◌, map, filter, find, All}
use Rattle.std.specs.Prelude.{AllPairs, IsPermutation, IsTrue, Option, Some, None, option_map}
use Rattle.std.specs.List.{filter_map}
use Rattle.kcr_base.specs.{Same.is_before, Same.role_number, declared.refusal.Refusal.Refusal, declared.refusal.Refusal.TheVariants.Unknown}
use Rattle.kcr_base.specs.declared.place.{Facility.TheVariants.East, Facility.TheVariants.West, Place.Place}
use Rattle.kcr_base.specs.declared.place.Place.TheVariants as Places
use Rattle.kcr_base.specs.declared.refusal.Thing.TheVariants as Things
use Rattle.kcr_people.specs.{People.is_of, declared.Person.Person, declared.Training.Training, declared.Withdrawal.Withdrawal}
use Rattle.kcr_custody.specs.Custody.{lies_in}
use Rattle.kcr_custody.specs.declared.{Bag.Bag, Item.Item, Rest.Rest, Rest.TheVariants.Loose, Rest.TheVariants.Within}
use Rattle.kcr_room.specs.{Stays.stays_by, Stays.attendance_in_by, declared.Stay.Stay}
use Rattle.kcr_history.specs.{History.History, Custody.spot, Room.sheet, Room.present}
use Rattle.kcr_history.specs.{Training.holder, Seating.one_to_seven, Ceremonies.is_ceremony, Views.is_training_of}
use Rattle.kcr_history.specs.Prints.{steps_in_order, exceptions_in_order, seated_at, name_of, bags_in_order, items_in_order}
use Rattle.kcr_history.specs.Tables.{people, trainings, withdrawals, safes, items, ceremony_row, seatings}
use Rattle.kcr_history.specs.declared.questions.{Question.Question, Shown.Shown, CustodyShown.CustodyShown}
use Rattle.kcr_history.specs.declared.questions.Question.TheVariants as asked
use Rattle.kcr_history.specs.declared.questions.Shown.TheVariants as shown
use Rattle.kcr_history.specs.declared.questions.{RoleShown.RoleShown, BagShown.BagShown, CustodiansShown.CustodiansShown}
use Rattle.kcr_history.specs.declared.questions.{PersonShown.PersonShown, HolderShown.HolderShown, RoomShown.RoomShown, StepsShown.StepsShown}
use Rattle.kcr_history.specs.declared.report_rows.{BagWithItems.BagWithItems, SeatedStep.SeatedStep, StayWithName.StayWithName}
use Rattle.kcr_history.specs.declared.row_types.{SeatingRow.SeatingRow, StepRow.StepRow}

-- PEOPLE

-- the day from which the training is withdrawn
abbrev pub withdrawn_day : List Withdrawal → Training → Option ℕ
withdrawn_day rows row = option_map (λ withdrawal. withdrawal.day) (find (is_of row) rows)

-- a training as it is shown, by the rows of the withdrawals
abbrev pub role_shown : List Withdrawal → Training → RoleShown
role_shown rows row =
    record { since = row.since; role = row.role; until = row.until; withdrawn = withdrawn_day rows row }

-- the first stands before the second: by first day, then role, then last day
abbrev pub is_role_before : RoleShown → RoleShown → Bool
is_role_before a b =
    nat_lt a.since b.since
    || (a.since == b.since
    && (nat_lt (role_number a.role) (role_number b.role)
    || (role_number a.role == role_number b.role && nat_lt a.until b.until)))

-- the trainings of the person as they are shown, by the rows of the trainings and of the withdrawals
abbrev pub roles_of : List Training → List Withdrawal → List ℕ → List RoleShown
roles_of taught withdrawn who = map (role_shown withdrawn) (filter (is_training_of who) taught)

-- the person of whom this is shown
abbrev pub person_of : PersonShown → Person
person_of shown = record { who = shown.who; name = shown.name }

-- of the person each training of the history is shown once, with the day from which it is withdrawn, by first day, then
-- role, then last day
pub record IsPersonShown (A : History) (shown : PersonShown) : Type 0 where
  pub roles : IsPermutation (roles_of (trainings A) (withdrawals A) shown.who) shown.roles.items
  pub order : AllPairs (λ a b. IsTrue (is_role_before a b)) shown.roles.items

-- of two people the one who stands first has the lower initials, in byte order
abbrev pub IsByInitials : List Person → Type 0
IsByInitials rows = AllPairs (λ a b. IsTrue (is_before a.who b.who)) rows

-- everybody of the history is shown once, by initials, each with their trainings
pub record ArePeopleShown (A : History) (rows : List PersonShown) : Type 0 where
  pub people : IsPermutation (people A) (map person_of rows)
  pub order : IsByInitials (map person_of rows)
  pub each : All (IsPersonShown A) rows

-- CUSTODIANS

-- the places in their order
abbrev pub all_places : List Place
all_places = map (Places.Co East) one_to_seven ++ map (Places.Co West) one_to_seven ++ map Places.Rksh one_to_seven

-- a place with whoever holds it, if somebody does
abbrev pub holder_shown : Option (List ℕ) → Place → Option HolderShown
holder_shown holds place = option_map (λ who. record { place = place; who = who }) holds

-- the places that are held, in their order, with their holders
abbrev pub holders_from : (Place → Option (List ℕ)) → List HolderShown
holders_from holds = filter_map (λ place. holder_shown (holds place) place) all_places

-- those that are held on the day
abbrev pub holders_on : History → ℕ → List HolderShown
holders_on A day = holders_from (λ place. holder A place day)

-- who holds which place on the day
pub record AreCustodiansShown (A : History) (asked : ℕ) (shown : CustodiansShown) : Type 0 where
  pub day : shown.day ≡ asked
  pub holders : shown.holders.items ≡ holders_on A asked

-- A BAG

-- the codes of the items within the bag
abbrev pub codes_within : History → List ℕ → List (List ℕ)
codes_within A serial = map (λ item. item.code) (filter (lies_in serial) (items A))

-- the bag lies there, and each item within is shown once, in byte order
pub record IsBagShown (A : History) (asked : List ℕ) (shown : BagShown) : Type 0 where
  pub serial : shown.serial ≡ asked
  pub spot : spot A asked ≡ Some shown.spot
  pub items : IsPermutation (codes_within A asked) shown.items.items
  pub order : AllPairs (λ a b. IsTrue (is_before a b)) shown.items.items

-- A ROOM

-- of a planned ceremony, who is in the room at the moment, in byte order
pub record IsRoomShown (A : History) (ceremony moment : ℕ) (shown : RoomShown) : Type 0 where
  pub planned : IsTrue (is_ceremony A ceremony)
  pub at : shown.at ≡ moment
  pub people : shown.people.items ≡ present A ceremony moment

-- STEPS

-- a step with the people of its seating, seat by seat
abbrev pub with_seated : List SeatingRow → StepRow → SeatedStep
with_seated rows row = record { step = row; seated = seated_at rows row.ceremony row.step }

-- of a planned ceremony its row, its steps in order, each with its people, and its exceptions in order
pub record AreStepsShown (A : History) (ceremony : ℕ) (shown : StepsShown) : Type 0 where
  pub planned : IsTrue (is_ceremony A ceremony)
  pub row : shown.ceremony ≡ ceremony_row A ceremony
  pub steps : shown.steps.items ≡ map (with_seated (seatings A)) (steps_in_order A ceremony)
  pub exceptions : shown.exceptions.items ≡ exceptions_in_order A ceremony

-- A SHEET

-- a stay with the person's name
abbrev pub with_name : List Person → Stay → StayWithName
with_name rows stay = record { stay = stay; name = name_of rows stay.who }

-- of a planned ceremony its stays by their beginning, then initials, each with the person's name
pub record IsSheetShown (A : History) (ceremony : ℕ) (shown : List StayWithName) : Type 0 where
  pub planned : IsTrue (is_ceremony A ceremony)
  pub stays : shown ≡ map (with_name (people A)) (attendance_in_by (stays_by (sheet A)) ceremony)

-- CUSTODY

-- a bag with the codes of its items
abbrev pub with_items : List Item → Bag → BagWithItems
with_items rows bag = record { bag = bag; codes = map (λ item. item.code) (filter (lies_in bag.serial) rows) }

-- the item is in no bag
abbrev pub is_loose : Item → Bool
is_loose item = by_rest item.rest
  where
    by_rest : Rest → Bool
    by_rest (Loose facility) = true
    by_rest (Within serial) = false

-- the four safes, the bags by serial, each with its items by code, and the loose items by code
pub record IsCustodyShown (A : History) (shown : CustodyShown) : Type 0 where
  pub safes : shown.safes.items ≡ safes A
  pub bags : shown.bags.items ≡ map (with_items (items_in_order A)) (bags_in_order A)
  pub loose : shown.loose.items ≡ filter is_loose (items_in_order A)

-- QUESTIONS

-- what a register with this history shows. What `All` shows depends on the order of rows in a file, so `kcr_store`
-- defines it.
abbrev pub IsShown : History → Question → Shown → Type 0
IsShown A asked.People (shown.People rows) = ArePeopleShown A rows.items
IsShown A (asked.Custodians day) (shown.Custodians custodians) = AreCustodiansShown A day custodians
IsShown A (asked.Bag serial) (shown.Bag bag) = IsBagShown A serial bag
IsShown A (asked.Room ceremony at) (shown.Room room) = IsRoomShown A ceremony at room
IsShown A (asked.Steps ceremony) (shown.Steps steps) = AreStepsShown A ceremony steps
IsShown A (asked.Sheet ceremony) (shown.Sheet stays) = IsSheetShown A ceremony stays.items
IsShown A asked.Custody (shown.Custody custody) = IsCustodyShown A custody
IsShown A question shown = ⊥

-- the refusal names the bag or the ceremony that is asked for
abbrev pub NamesAsked : Question → Refusal → Type 0
NamesAsked (asked.Bag serial) refusal = refusal ≡ Unknown (Things.Bag serial)
NamesAsked (asked.Room ceremony at) refusal = refusal ≡ Unknown (Things.Ceremony ceremony)
NamesAsked (asked.Steps ceremony) refusal = refusal ≡ Unknown (Things.Ceremony ceremony)
NamesAsked (asked.Sheet ceremony) refusal = refusal ≡ Unknown (Things.Ceremony ceremony)
NamesAsked question refusal = ⊥

-- and it is not there: no such bag was sealed, no such ceremony planned
abbrev pub IsMissing : History → Question → Refusal → Type 0
IsMissing A (asked.Bag serial) refusal = (spot A serial ≡ None) × NamesAsked (asked.Bag serial) refusal
IsMissing A (asked.Room ceremony at) refusal =
    (is_ceremony A ceremony ≡ false) × NamesAsked (asked.Room ceremony at) refusal
IsMissing A (asked.Steps ceremony) refusal =
    (is_ceremony A ceremony ≡ false) × NamesAsked (asked.Steps ceremony) refusal
IsMissing A (asked.Sheet ceremony) refusal =
    (is_ceremony A ceremony ≡ false) × NamesAsked (asked.Sheet ceremony) refusal
IsMissing A question refusal = ⊥

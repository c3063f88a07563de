-- What the rows of the tables show to a question, exactly: whoever wrote them, and in whatever order they are. Over the
-- tables of a history it is what the history shows.
use Rattle.std.specs.Prelude.{◌≡◌, ◌⊎◌, ℕ, List, map, filter, Some, None, All, AllPairs, IsPermutation, IsSome, IsTrue, Result, MatchResult}
use Rattle.kcr_base.specs.{Same.is_before, declared.refusal.Refusal.Refusal, declared.refusal.Refusal.TheVariants.Unknown}
use Rattle.kcr_base.specs.declared.refusal.Thing.TheVariants as Things
use Rattle.kcr_people.specs.{declared.Appointment.Appointment, People.holder_by, People.lasts_beyond}
use Rattle.kcr_custody.specs.Custody.{spot_by, lies_in}
use Rattle.kcr_room.specs.Stays.{present_in_by}
use Rattle.kcr_history.specs.Questions.{IsByInitials, holders_from, is_role_before, person_of, roles_of}
use Rattle.kcr_history.specs.{Tables.Tables, declared.questions.PersonShown.PersonShown, declared.questions.StepsShown.StepsShown}
use Rattle.kcr_history.specs.declared.questions.{Question.Question, Shown.Shown, CustodyShown.CustodyShown}
use Rattle.kcr_history.specs.declared.questions.Question.TheVariants as asked
use Rattle.kcr_history.specs.declared.questions.Shown.TheVariants as shown
use Rattle.kcr_history.specs.declared.questions.{CustodiansShown.CustodiansShown, BagShown.BagShown, RoomShown.RoomShown}
use Rattle.kcr_history.specs.declared.{report_rows.StayWithName.StayWithName, row_types.CeremonyRow.CeremonyRow}
use Rattle.kcr_rules.specs.CeremonyStatus.{ceremony_by}
use Rattle.kcr_reading.specs.Remaining.{exceptions_of, loose_items, named_stays, packed_bags, safes_in_order, seated_steps}
use Rattle.kcr_tables.specs.Refusals.{IsFault}
use Rattle.kcr_store.specs.FullView.{IsListed}

-- each training of the person is shown once, with the day from which it is withdrawn, by first day, then role, then last
-- day
pub record IsPersonShownBy (m : Tables) (shown : PersonShown) : Type 0 where
  pub roles : IsPermutation (roles_of m.trainings m.withdrawals shown.who) shown.roles.items
  pub order : AllPairs (λ a b. IsTrue (is_role_before a b)) shown.roles.items

-- everybody who has a row is shown once, by initials, each with their trainings
pub record ArePeopleShownBy (m : Tables) (rows : List PersonShown) : Type 0 where
  pub people : IsPermutation m.people (map person_of rows)
  pub order : IsByInitials (map person_of rows)
  pub each : All (IsPersonShownBy m) rows

-- who holds which place on the day, by the appointments that last beyond it. If several are to one place, it is not told
-- which of them comes first
pub record AreCustodiansShownBy (m : Tables) (asked : ℕ) (shown : CustodiansShown) : Type 0 where
  pub day : shown.day ≡ asked
  pub rows : List Appointment
  pub lasting : IsPermutation (filter (lasts_beyond asked) m.appointments) rows
  pub holders : shown.holders.items ≡ holders_from (λ place. holder_by rows place asked)

-- the bag lies there by its row, and each item within is shown once, in byte order
pub record IsBagShownBy (m : Tables) (asked : List ℕ) (shown : BagShown) : Type 0 where
  pub serial : shown.serial ≡ asked
  pub spot : spot_by m.bags asked ≡ Some shown.spot
  pub items : IsPermutation (map (λ item. item.code) (filter (lies_in asked) m.items)) shown.items.items
  pub order : AllPairs (λ a b. IsTrue (is_before a b)) shown.items.items

-- the row of the ceremony
abbrev pub IsRowBy : Tables → ℕ → CeremonyRow → Type 0
IsRowBy m ceremony row = ceremony_by m.ceremonies ceremony ≡ Some row

-- the ceremony has no row, and the refusal says so
abbrev pub IsNotPlannedBy : Tables → ℕ → Refusal → Type 0
IsNotPlannedBy m ceremony refusal =
    (ceremony_by m.ceremonies ceremony ≡ None) × (refusal ≡ Unknown (Things.Ceremony ceremony))

-- why there is no row: out of memory or an I/O error, or the ceremony has none
abbrev pub HasNoRowBy : Tables → ℕ → Refusal → Type 0
HasNoRowBy m ceremony refusal = IsFault refusal ⊎ IsNotPlannedBy m ceremony refusal

-- of a ceremony that has a row, who is in the room at the moment, in byte order
pub record IsRoomShownBy (m : Tables) (ceremony moment : ℕ) (shown : RoomShown) : Type 0 where
  pub planned : IsSome (ceremony_by m.ceremonies ceremony)
  pub at : shown.at ≡ moment
  pub people : shown.people.items ≡ present_in_by m.stays ceremony moment

-- the row of the ceremony, its steps in order, each with its people, and its exceptions in order
pub record AreStepsShownBy (m : Tables) (ceremony : ℕ) (shown : StepsShown) : Type 0 where
  pub row : IsRowBy m ceremony shown.ceremony
  pub steps : shown.steps.items ≡ seated_steps ceremony m
  pub exceptions : shown.exceptions.items ≡ exceptions_of ceremony m

-- of a ceremony that has a row its stays by their beginning, then initials, each with the person's name
pub record IsSheetShownBy (m : Tables) (ceremony : ℕ) (shown : List StayWithName) : Type 0 where
  pub planned : IsSome (ceremony_by m.ceremonies ceremony)
  pub stays : shown ≡ named_stays ceremony m

-- the safes in order, the bags by serial, each with its items by code, and the loose items by code
pub record IsCustodyShownBy (m : Tables) (shown : CustodyShown) : Type 0 where
  pub safes : shown.safes.items ≡ safes_in_order m
  pub bags : shown.bags.items ≡ packed_bags m
  pub loose : shown.loose.items ≡ loose_items m

-- what the rows show to the question
abbrev pub IsShownBy : Tables → Question → Shown → Type 0
IsShownBy m asked.People (shown.People rows) = ArePeopleShownBy m rows.items
IsShownBy m (asked.Custodians day) (shown.Custodians custodians) = AreCustodiansShownBy m day custodians
IsShownBy m (asked.Bag serial) (shown.Bag bag) = IsBagShownBy m serial bag
IsShownBy m (asked.Room ceremony at) (shown.Room room) = IsRoomShownBy m ceremony at room
IsShownBy m (asked.Steps ceremony) (shown.Steps steps) = AreStepsShownBy m ceremony steps
IsShownBy m (asked.Sheet ceremony) (shown.Sheet stays) = IsSheetShownBy m ceremony stays.items
IsShownBy m asked.Custody (shown.Custody custody) = IsCustodyShownBy m custody
IsShownBy m asked.All (shown.All view) = IsListed m view
IsShownBy m question shown = ⊥

-- the bag or the ceremony that is asked for has no row, and the refusal names it
abbrev pub IsMissingBy : Tables → Question → Refusal → Type 0
IsMissingBy m (asked.Bag serial) refusal = (spot_by m.bags serial ≡ None) × (refusal ≡ Unknown (Things.Bag serial))
IsMissingBy m (asked.Room ceremony at) refusal = IsNotPlannedBy m ceremony refusal
IsMissingBy m (asked.Steps ceremony) refusal = IsNotPlannedBy m ceremony refusal
IsMissingBy m (asked.Sheet ceremony) refusal = IsNotPlannedBy m ceremony refusal
IsMissingBy m question refusal = ⊥

-- why a question is refused: out of memory or an I/O error, or what it asks for has no row
abbrev pub IsQuestionRefusalBy : Tables → Question → Refusal → Type 0
IsQuestionRefusalBy m question refusal = IsFault refusal ⊎ IsMissingBy m question refusal

-- the result of a question by the rows
abbrev pub IsQuestionResultBy : Tables → Question → Result Shown Refusal → Type 0
IsQuestionResultBy m question result = MatchResult result (IsShownBy m question) (IsQuestionRefusalBy m question)

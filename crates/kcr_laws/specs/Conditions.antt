-- When commands are accepted and refused, in the words of the subject.
use Rattle.std.specs.Prelude.{◌≡◌, ◌≢◌, ℕ, suc, ◌<◌, ◌≤◌, List, map, Option, Some, None, is_some, unwrap_or, if◌then◌else◌, IsTrue}
use Rattle.kcr_base.specs.Same.{same_place}
use Rattle.kcr_base.specs.declared.{limits.TheConstants.MAX_PRESENT, refusal.Refusal.TheVariants.Short, place.Place.Place, place.Role.Role}
use Rattle.kcr_room.specs.{declared.SheetRow.SheetRow, Room.headcount_by}
use Rattle.kcr_history.specs.declared.commands.{Act.Act, Command.Command, Deed.TheVariants.Sign, ReplyData.ReplyData}
use Rattle.kcr_history.specs.declared.commands.Act.TheVariants.{Appoint, Replace, Release, Ceremony}
use Rattle.kcr_history.specs.{History.History, History.last_value_of_acts, Training.trained, Training.holder, Training.is_holder}
use Rattle.kcr_history.specs.{Ceremonies.steps_of, Tables.seats_at, Seating.is_seating, Seating.IsLeast}
use Rattle.kcr_history.specs.Machine.{Accepts, Refuses, with_command, machine}

-- SIGNATURES

-- the command under a key that signs the step of the ceremony at the moment
abbrev pub signature : List ℕ → ℕ → ℕ → ℕ → Command
signature key ceremony step at = record { key = key; act = Ceremony ceremony at (Sign step) }

-- the machine accepts the command, with some reply, as the history's next one
abbrev pub IsAccepted : History → Command → Type 0
IsAccepted A x = (reply : ReplyData) × machine A x (Accepts reply) (with_command A x reply)

-- some people, all distinct and in the room at the moment, are each eligible for the seat of the step in their position
abbrev pub CanFill : History → ℕ → ℕ → ℕ → Type 0
CanFill A ceremony step at =
    (people : List (List ℕ)) × IsTrue (is_seating A ceremony at (seats_at (steps_of A ceremony) step) people)

-- the machine refuses the signature, and names a least set of the step's seats that fewer people fit, counted from 1
abbrev pub IsShortOf : History → List ℕ → ℕ → ℕ → ℕ → Type 0
IsShortOf A key ceremony step at =
    (positions : List ℕ) × IsLeast A ceremony at (seats_at (steps_of A ceremony) step) positions
    × machine A (signature key ceremony step at) (Refuses (Short (map suc positions))) A

-- ROOMS

-- at some moment more than `MAX_PRESENT` people are in the room of the ceremony by the rows
abbrev pub IsEverCrowded : List SheetRow → ℕ → Type 0
IsEverCrowded rows ceremony = (t : ℕ) × (MAX_PRESENT < headcount_by rows ceremony t)

-- at the moment exactly one person is in the room of the ceremony by the rows, and at no earlier one
abbrev pub IsFirstAlone : List SheetRow → ℕ → ℕ → Type 0
IsFirstAlone rows ceremony t = (headcount_by rows ceremony t ≡ 1) × ((u : ℕ) → u < t → headcount_by rows ceremony u ≢ 1)

-- at no moment is exactly one person in the room of the ceremony by the rows
abbrev pub IsNeverAlone : List SheetRow → ℕ → Type 0
IsNeverAlone rows ceremony = (t : ℕ) → headcount_by rows ceremony t ≢ 1

-- PLACES

-- on the day or a later one somebody holds the place
abbrev pub IsHeldOnOrAfter : History → Place → ℕ → Type 0
IsHeldOnOrAfter A place day = (d : ℕ) × (day ≤ d) × IsTrue (is_some (holder A place d))

-- on the day or a later one the person holds some place
abbrev pub HoldsPlaceOnOrAfter : History → List ℕ → ℕ → Type 0
HoldsPlaceOnOrAfter A who day = (d : ℕ) × (day ≤ d) × ((place : Place) × IsTrue (is_holder A place d who))

-- on the day or a later one the person is trained for the role
abbrev pub IsTrainedOnOrAfter : History → List ℕ → Role → ℕ → Type 0
IsTrainedOnOrAfter A who role day = (d : ℕ) × (day ≤ d) × IsTrue (trained A who role d)

-- what a command of the place says of it: from which day on it puts somebody there, or, a release, no day
abbrev pub says_since : Place → Act → Option (Option ℕ)
says_since place (Appoint at who day) = if same_place at place then Some (Some day) else None
says_since place (Replace at who day) = if same_place at place then Some (Some day) else None
says_since place (Release at day) = if same_place at place then Some None else None
says_since place act = None

-- the day from which on the last command of the place puts somebody there: none if that is a release, or if there
-- is none
abbrev pub held_since : History → Place → Option ℕ
held_since A place = unwrap_or (last_value_of_acts (says_since place) A) None

-- the last command of the place puts somebody there, from the day or a later one on
abbrev pub BeginsFrom : History → Place → ℕ → Type 0
BeginsFrom A place day = (since : ℕ) × (held_since A place ≡ Some since) × (day ≤ since)

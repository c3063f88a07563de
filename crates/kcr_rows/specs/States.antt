-- States as numbers, an item's place in two columns, and texts that do not stand for every value.
use Rattle.std.specs.Prelude.{◌≡◌, ℕ, ◌<◌, ◌^◌, ⊤, List}
use Rattle.sqlite.specs.declared.types.Value.{Value, TheVariants.Null, TheVariants.Text}
use Rattle.kcr_base.specs.Facility.{facility_text}
use Rattle.kcr_custody.specs.declared.SafeNumber.{SafeNumber, TheVariants.One, TheVariants.Two}
use Rattle.kcr_custody.specs.declared.{Spot.Spot, Bag.Bag, Rest.Rest, Rest.TheVariants.Loose, Rest.TheVariants.Within}
use Rattle.kcr_custody.specs.declared.Spot.TheVariants.{Table, Equipment, InBox, Spent}
use Rattle.kcr_room.specs.declared.Way.{Way, TheVariants.Enter, TheVariants.Leave}
use Rattle.kcr_script.specs.{declared.seat.Seat.Seat, Seats.StandsFor, Seats.written}
use Rattle.kcr_history.specs.declared.row_types.CeremonyState.{CeremonyState, TheVariants.Planned, TheVariants.Open, TheVariants.Closed}
use Rattle.kcr_history.specs.declared.row_types.StepState.{StepState, TheVariants.Undone, TheVariants.Signed, TheVariants.Passed}
use Rattle.kcr_history.specs.declared.row_types.StepRow.{StepRow}

-- STATES AS NUMBERS

abbrev pub safe_digit : SafeNumber → ℕ
safe_digit One = 1
safe_digit Two = 2

abbrev pub way_number : Way → ℕ
way_number Leave = 0
way_number Enter = 1

abbrev pub ceremony_number : CeremonyState → ℕ
ceremony_number Planned = 0
ceremony_number Open = 1
ceremony_number Closed = 2

abbrev pub step_number : StepState → ℕ
step_number Undone = 0
step_number Signed = 1
step_number Passed = 2

-- WHERE AN ITEM IS, IN TWO COLUMNS OF WHICH ONE IS NULL

abbrev pub loose_value : Rest → Value
loose_value (Loose facility) = Text (facility_text facility)
loose_value (Within serial) = Null

abbrev pub within_value : Rest → Value
within_value (Loose facility) = Null
within_value (Within serial) = Text serial

-- TEXTS FROM WHICH A VALUE COMES BACK

-- a box's number is one of 32 bits
abbrev pub IsNumbered : Spot → Type 0
IsNumbered (InBox facility number) = number < 2 ^ 32
IsNumbered (Table facility) = ⊤
IsNumbered (Equipment facility) = ⊤
IsNumbered Spent = ⊤

abbrev pub HasBoxNumber : Bag → Type 0
HasBoxNumber bag = IsNumbered bag.spot

-- the written text of these seats stands for them
abbrev pub HasSeatsText : StepRow → Type 0
HasSeatsText row = StandsFor (written row.seats) row.seats

-- the written text of these seats stands for no others
abbrev pub HasOnlyTheseSeats : StepRow → Type 0
HasOnlyTheseSeats row = (seats : List Seat) → StandsFor (written row.seats) seats → seats ≡ row.seats

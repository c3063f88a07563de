-- Which cells are values of their column.
use Rattle.std.specs.Prelude.{◌≡◌, ◌≢◌, ◌⊎◌, ⊤, ℕ, ◌<◌, ◌^◌, pos, List, IsTrue, IsUtf8}
use Rattle.sqlite.specs.Order.{Row, column}
use Rattle.sqlite.specs.declared.types.Value.{Value, TheVariants.Null, TheVariants.Int, TheVariants.Text}
use Rattle.kcr_base.specs.{Day.IsDay, Key.IsKey, Facility.facility_text, Initials.IsInitials, Serial.IsSerial}
use Rattle.kcr_base.specs.{Line.IsLine, Role.role_text, Place.IsPlace, Place.place_text}
use Rattle.kcr_base.specs.{Moment.IsMoment, Number.IsNumber, declared.place.Facility.Facility}
use Rattle.kcr_base.specs.declared.limits.TheConstants.{MAX_BOX, MAX_CEREMONY, MAX_COMMANDS, MAX_EXCEPTIONS, MAX_REMARK, MAX_STEPS}
use Rattle.kcr_custody.specs.{Custody.is_co_place_of, Spots.IsSpot, Spots.spot_text}
use Rattle.kcr_rows.specs.States.{ceremony_number, safe_digit, step_number, way_number}
use Rattle.kcr_rows.specs.{Values.truth_number, declared.kinds.Kind.Kind}
use Rattle.kcr_rows.specs.declared.kinds.Kind.TheVariants as Kinds
use Rattle.kcr_script.specs.{Seats.StandsFor, Seats.written, declared.seat.Seat.Seat}

-- the text of some value
abbrev pub HasTextOf : {V : Type 0} → (V → Type 0) → (V → List ℕ) → Value → Type 0
HasTextOf {V} IsValue text_of cell = (v : V) × IsValue v × (cell ≡ Text (text_of v))

-- the number of some value
abbrev pub HasNumberOf : {V : Type 0} → (V → Type 0) → (V → ℕ) → Value → Type 0
HasNumberOf {V} IsValue number_of cell = (v : V) × IsValue v × (cell ≡ Int (pos (number_of v)))

-- one of these, or NULL
abbrev pub OrNull : (Value → Type 0) → Value → Type 0
OrNull Is cell = Is cell ⊎ (cell ≡ Null)

-- one of these if another cell is NULL, and else NULL
abbrev pub IsAlone : (Value → Type 0) → Value → Value → Type 0
IsAlone Is other cell = (other ≡ Null → Is cell) × (other ≢ Null → cell ≡ Null)

-- a number from 1 to the greatest
abbrev pub IsCount : ℕ → Value → Type 0
IsCount limit cell = HasNumberOf (IsNumber limit) (λ n. n) cell

-- the seats are those that their written text stands for
abbrev pub IsWritten : List Seat → Type 0
IsWritten seats = StandsFor (written seats) seats

-- a Crypto Officer's place of the facility in column 0
abbrev pub IsOfficer : Row → ℕ → Type 0
IsOfficer row at = (facility : Facility) → column row 0 ≡ Text (facility_text facility)
    → HasTextOf (λ place. IsTrue (is_co_place_of facility place) × IsPlace place) place_text (column row at)

-- the cell in this position of a row is a value of its column
abbrev pub IsCell : Kind → Row → ℕ → Type 0
IsCell Kinds.Initials row at = HasTextOf IsInitials (λ v. v) (column row at)
IsCell Kinds.Key row at = HasTextOf IsKey (λ v. v) (column row at)
IsCell Kinds.Serial row at = HasTextOf IsSerial (λ v. v) (column row at)
IsCell Kinds.Name row at = HasTextOf (IsLine 120) (λ v. v) (column row at)
IsCell Kinds.Activity row at = HasTextOf (IsLine 500) (λ v. v) (column row at)
IsCell Kinds.Remark row at = HasTextOf (IsLine MAX_REMARK) (λ v. v) (column row at)
IsCell Kinds.Text row at = HasTextOf IsUtf8 (λ v. v) (column row at)
IsCell Kinds.Day row at = HasNumberOf IsDay (λ n. n) (column row at)
IsCell Kinds.DayOrNull row at = OrNull (HasNumberOf IsDay (λ n. n)) (column row at)
IsCell Kinds.Moment row at = HasNumberOf IsMoment (λ n. n) (column row at)
IsCell Kinds.MomentOrNull row at = OrNull (HasNumberOf IsMoment (λ n. n)) (column row at)
IsCell Kinds.Ceremony row at = IsCount MAX_CEREMONY (column row at)
IsCell Kinds.Box row at = IsCount MAX_BOX (column row at)
IsCell Kinds.Step row at = IsCount MAX_STEPS (column row at)
IsCell Kinds.StepOrNull row at = OrNull (IsCount MAX_STEPS) (column row at)
IsCell Kinds.Seat row at = IsCount 16 (column row at)
IsCell Kinds.Exception row at = IsCount MAX_EXCEPTIONS (column row at)
IsCell Kinds.Command row at = IsCount MAX_COMMANDS (column row at)
IsCell Kinds.Version row at = HasNumberOf (λ n. n < 2 ^ 32) (λ n. n) (column row at)
IsCell Kinds.Facility row at = HasTextOf (λ _. ⊤) facility_text (column row at)
IsCell Kinds.Role row at = HasTextOf (λ _. ⊤) role_text (column row at)
IsCell Kinds.Place row at = HasTextOf IsPlace place_text (column row at)
IsCell Kinds.Officer row at = IsOfficer row at
IsCell Kinds.Safe row at = HasNumberOf (λ _. ⊤) safe_digit (column row at)
IsCell Kinds.Truth row at = HasNumberOf (λ _. ⊤) truth_number (column row at)
IsCell Kinds.Way row at = HasNumberOf (λ _. ⊤) way_number (column row at)
IsCell Kinds.CeremonyState row at = HasNumberOf (λ _. ⊤) ceremony_number (column row at)
IsCell Kinds.StepState row at = HasNumberOf (λ _. ⊤) step_number (column row at)
IsCell Kinds.Spot row at = HasTextOf IsSpot spot_text (column row at)
IsCell Kinds.Seats row at = HasTextOf IsWritten written (column row at)
IsCell Kinds.Loose row at = IsAlone (HasTextOf (λ _. ⊤) facility_text) (column row 2) (column row at)
IsCell Kinds.Within row at = IsAlone (HasTextOf IsSerial (λ v. v)) (column row 1) (column row at)

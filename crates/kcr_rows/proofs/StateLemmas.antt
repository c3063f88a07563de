-- Values of the register's own kinds that stand in equal cells are equal.
use Rattle.kcr_rows.proofs.Common.{◌≡◌, ℕ, ◌&&◌, Bool, true, List, ◌++◌, pos, codes, Option, refl, sym, subst, ◌∙◌, arith, append_cancel_left, Int}
use Rattle.kcr_rows.proofs.Common.{Text, cast, Binary, equal, facility_text, Facility, int_or_null, truth_number}
use Rattle.std.proofs.lemmas.Fmt.{decimal_injective}
use Rattle.kcr_custody.proofs.BoxTexts.{box_parts}
use Rattle.sqlite.specs.Kind.TheVariants as kind
use Rattle.kcr_custody.specs.{Custody.same_safe, Custody.is_within, Spots.spot_text}
use Rattle.kcr_custody.specs.declared.{SafeNumber.SafeNumber, Spot.Spot, Rest.Rest, Rest.TheVariants.Loose, Rest.TheVariants.Within}
use Rattle.kcr_custody.specs.declared.Spot.TheVariants.{Table, Equipment, InBox, Spent}
use Rattle.kcr_room.specs.declared.Way.{Way}
use Rattle.kcr_script.specs.{declared.seat.Seat.Seat, Seats.StandsFor, Seats.written}
use Rattle.kcr_history.specs.declared.row_types.{CeremonyState.CeremonyState, StepState.StepState}
use Rattle.kcr_rows.proofs.{WriteLemmas.cast_null, WriteLemmas.cast_int, FilterLemmas.value_is, FilterLemmas.null_is}
use Rattle.kcr_rows.proofs.SameLemmas.{ties, text_ties, number_ties, one_facility}
use Rattle.kcr_rows.specs.States.{safe_digit, way_number, ceremony_number, step_number, loose_value, within_value, IsNumbered}

-- ---- numbers

-- two safes are the same if and only if their numbers tie as values
pub safe_ties : (s t : SafeNumber) → same_safe s t ≡ ties (Int (pos (safe_digit s))) (Int (pos (safe_digit t)))
safe_ties s t = grind (arith, number_ties)

-- safes with one number are equal
pub one_safe : (x y : SafeNumber) → safe_digit x ≡ safe_digit y → x ≡ y
one_safe x y h = grind arith

-- truth values with one number are equal
pub one_truth : (x y : Bool) → truth_number x ≡ truth_number y → x ≡ y
one_truth x y h = grind arith

-- ways with one number are equal
pub one_way : (x y : Way) → way_number x ≡ way_number y → x ≡ y
one_way x y h = grind arith

-- states of a ceremony with one number are equal
pub one_ceremony_state : (x y : CeremonyState) → ceremony_number x ≡ ceremony_number y → x ≡ y
one_ceremony_state x y h = grind arith

-- states of a step with one number are equal
pub one_step_state : (x y : StepState) → step_number x ≡ step_number y → x ≡ y
one_step_state x y h = grind arith

-- a number or NULL is stored in a column of numbers as it is
pub cast_or_null : (x : Option ℕ) → cast kind.Integer (int_or_null x) ≡ int_or_null x
cast_or_null x = grind (arith, cast_null, cast_int)

-- ---- where an item is

-- items' places with the same two values are equal
pub one_rest : (x y : Rest) → loose_value x ≡ loose_value y → within_value x ≡ within_value y → x ≡ y
one_rest x y h k = grind (arith, one_facility)

-- the facility of a loose item, or NULL, is stored in a column of texts as it is
pub cast_loose : (r : Rest) → cast kind.Text (loose_value r) ≡ loose_value r
cast_loose r = grind arith

-- the serial of an item's bag, or NULL, is stored in a column of texts as it is
pub cast_within : (r : Rest) → cast kind.Text (within_value r) ≡ within_value r
cast_within r = grind arith

-- SQL's `=` finds the serial of an item's bag equal to one if and only if the item is in that bag
pub within_is : (r : Rest) (serial : List ℕ) → (equal Binary (within_value r) (Text serial) && true) ≡ is_within serial r
within_is (Loose a) serial = null_is (Text serial)
within_is (Within a) serial = value_is (Text a) (Text serial) refl refl ∙ sym (text_ties a serial)

-- ---- seats

-- two lists of seats with one written text are equal, if it stands for the second, and only for the first
pub one_seats : (x y : List Seat) → ((seats : List Seat) → StandsFor (written x) seats → seats ≡ x) → StandsFor (written y) y → written x ≡ written y → x ≡ y
one_seats x y only stands same = sym (only y (subst (λ t. StandsFor t y) (sym same) stands))

-- ---- spots

ends : (a b : List ℕ) (f g : Facility) → a ++ (codes " " ++ facility_text f) ≡ b ++ (codes " " ++ facility_text g) → (f ≡ g) × (a ≡ b)
ends a b f g h = box_parts f g a b h

-- spots with one text are equal, if their boxes have numbers of 32 bits
pub one_spot : (x y : Spot) → IsNumbered x → IsNumbered y → spot_text x ≡ spot_text y → x ≡ y
one_spot (Table f) y p q h = grind (arith, one_facility, append_cancel_left)
one_spot (Equipment f) y p q h = grind (arith, one_facility, append_cancel_left)
one_spot (InBox f m) y p q h = grind (arith, ends, decimal_injective, append_cancel_left)
one_spot Spent y p q h = grind arith

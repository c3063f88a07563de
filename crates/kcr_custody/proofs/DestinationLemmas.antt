-- The text of a box's number is no other destination's.
use Rattle.std.proofs.Common.{◌≡◌, ◌≢◌, ℕ, codes, Option, Some, arith}
use Rattle.std.specs.Fmt.{decimal}
use Rattle.std.proofs.lemmas.Fmt.{decimal_is_IsNumeral}
use Rattle.kcr_base.specs.Number.{IsNumber}
use Rattle.kcr_custody.specs.Destinations.{IsDestination, destination_text}
use Rattle.kcr_custody.specs.declared.Destination.{Destination, TheVariants.SafeOne}

-- the decimal text of a box's number is not `safe1`
pub number-no_word : (n : ℕ) → IsNumber 9999 n → decimal n ≢ codes "safe1"
number-no_word n is same =
    let digits = rw same at (decimal_is_IsNumeral n (omega (arith, is.until))).0.1 in
    absurd (omega (arith, digits.0))

-- the destination whose text is `safe1` is safe 1
pub only-safe : (v : Destination) → IsDestination v → destination_text v ≡ codes "safe1" → ◌≡◌ {A = Option Destination} (Some SafeOne) (Some v)
only-safe v is e = grind (arith, number-no_word)

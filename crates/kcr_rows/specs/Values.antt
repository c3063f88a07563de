-- Values of a row that may be NULL, and numbers that stand for a truth value.
use Rattle.std.specs.Prelude.{ℕ, Bool, true, false, Option, Some, None, pos}
use Rattle.sqlite.specs.declared.types.Value.{Value, TheVariants.Null, TheVariants.Int}

-- the number of a value, or NULL if there is none
abbrev pub or_null : {V : Type 0} → (V → ℕ) → Option V → Value
or_null number None = Null
or_null number (Some v) = Int (pos (number v))

-- a number, or NULL if there is none
abbrev pub int_or_null : Option ℕ → Value
int_or_null n = or_null (λ n. n) n

abbrev pub truth_number : Bool → ℕ
truth_number false = 0
truth_number true = 1

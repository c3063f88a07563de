-- The greatest of some numbers, one after the other.
use Rattle.kcr_history.proofs.Common.{◌≡◌, ℕ, Option, Some, None, arith, nat_tests, max_with, max_option}

-- the greater of two numbers that may be there
abbrev pub greater : Option ℕ → Option ℕ → Option ℕ
greater None b = b
greater (Some a) b = Some (max_with a b)

-- a further number, before others
pub next_mark : (found : Option ℕ) (at : ℕ) (rest : Option ℕ) → greater (max_option found at) rest ≡ greater found (Some (max_with at rest))
next_mark found at rest = grind (arith, nat_tests)

-- Positions of seats, counted from 1.
use Rattle.std.specs.Prelude.{ℕ, ◌≤◌, List, length, All}
use Rattle.std.specs.List.Sorted.{IsStrictlyIncreasing}

-- at most sixteen rising numbers of 1 to 16
pub record IsPositions (positions : List ℕ) : Type 0 where
  pub rising : IsStrictlyIncreasing positions
  pub each : All (λ p. (1 ≤ p) × (p ≤ 16)) positions
  pub at_most_sixteen : length positions ≤ 16

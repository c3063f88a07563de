-- Codes: short lists of bytes that lie in the value itself.
use Rattle.std.specs.Prelude.{◌≡◌, ℕ, ◌-◌, ◌<◌, ◌≤◌, List, ◌++◌, length, take, replicate, All}

-- the bytes, filled up to n with zeros
abbrev pub filled : ℕ → List ℕ → List ℕ
filled n bytes = bytes ++ replicate (n - length bytes) 0

-- n cells of which the first `len` are a code, and the others zero
pub record IsFilled (n len : ℕ) (cells : List ℕ) : Type 0 where
  pub within : len ≤ n
  pub filled_up : cells ≡ filled n (take len cells)
  pub cell_count : length cells ≡ n
  pub ascii : All (λ b. b < 128) (take len cells)

-- What a search counts.
use Rattle.std.specs.Prelude.{ℕ}

-- all steps, and those of them that were calls of `fits`
pub record Count : Type 0 where
  pub all : ℕ
  pub fits_calls : ℕ

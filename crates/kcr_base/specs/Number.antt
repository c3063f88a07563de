-- The numbers of ceremonies, boxes and steps.
use Rattle.std.specs.Prelude.{◌≡◌, ℕ, ◌≤◌, List}
use Rattle.std.specs.Fmt.{decimal}

-- a number from 1 to the limit
pub record IsNumber (limit n : ℕ) : Type 0 where
  pub from : 1 ≤ n
  pub until : n ≤ limit

-- a number from 1 to the limit, and the bytes are its decimal text, without sign or leading zeros
pub record IsNumberText (limit : ℕ) (bytes : List ℕ) (n : ℕ) : Type 0 where
  pub number : IsNumber limit n
  pub text : decimal n ≡ bytes

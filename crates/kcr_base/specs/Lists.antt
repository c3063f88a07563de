-- Lists of codes that a command names.
use Rattle.std.specs.Prelude.{◌≡◌, ℕ, ◌≤◌, Bool, true, not, ◌&&◌, List, [], ◌∷◌, length}
use Rattle.std.specs.List.{list_any}
use Rattle.kcr_base.specs.Same.{same_text}

-- the code is one of these
abbrev pub is_among : List (List ℕ) → List ℕ → Bool
is_among codes code = list_any (same_text code) codes

-- each code once
abbrev pub are_apart : List (List ℕ) → Bool
are_apart [] = true
are_apart (code ∷ rest) = not (is_among rest code) && are_apart rest

-- at least one code, at most as many as the limit, each of them once
pub record IsListed (limit : ℕ) (codes : List (List ℕ)) : Type 0 where
  pub at_least_one : 1 ≤ length codes
  pub at_most : length codes ≤ limit
  pub apart : are_apart codes ≡ true

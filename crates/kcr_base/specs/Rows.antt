-- Lists of rows, and values that may be there.
use Rattle.std.specs.Prelude.{◌≡◌, ◌⊎◌, Bool, List, [], ◌∷◌, map, Option, Some, None, if◌then◌else◌}
use Rattle.std.specs.List.{list_any}

-- the row is one of the list's
abbrev pub IsIn : {X : Type 0} → X → List X → Type 0
IsIn row [] = ⊥
IsIn row (other ∷ rows) = (row ≡ other) ⊎ IsIn row rows

-- the row under its key, new or in place of the old; `same` tells whether two rows have one key
abbrev pub put : {X : Type 0} → (X → X → Bool) → X → List X → List X
put same row rows = if list_any (same row) rows then map (λ old. if same row old then row else old) rows else row ∷ rows

-- the rows, one after the other
abbrev pub put_all : {X : Type 0} → (X → X → Bool) → List X → List X → List X
put_all same [] rows = rows
put_all same (row ∷ changes) rows = put_all same changes (put same row rows)

-- the first, or else the second
abbrev pub option_or : {X : Type 0} → Option X → Option X → Option X
option_or (Some x) other = Some x
option_or None other = other

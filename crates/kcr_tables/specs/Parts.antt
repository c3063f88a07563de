-- The parts of a row by their places.
use Rattle.std.specs.Prelude.{ℕ, pos, negsuc, List, []}
use Rattle.sqlite.specs.declared.types.Value.TheVariants.{Null, Int, Real, Text, Blob}
use Rattle.sqlite.specs.Order.{Row, column}

-- the text in a column; none if it holds no text
abbrev pub text_in : ℕ → Row → List ℕ
text_in at row = elim (column row at) [ Null ↦ [] | Int n ↦ [] | Real x ↦ [] | Text t ↦ t | Blob b ↦ [] ]

-- the number in a column; 0 if it holds none
abbrev pub number_in : ℕ → Row → ℕ
number_in at row = elim
    (column row at) [ Null ↦ 0 | Int n ↦ elim n [ pos m ↦ m | negsuc m ↦ 0 ] | Real x ↦ 0 | Text t ↦ 0 | Blob b ↦ 0 ]

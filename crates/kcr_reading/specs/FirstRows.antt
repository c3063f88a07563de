-- The first of the rows of a table that pass, in an order, one or several.
use Rattle.std.specs.Prelude.{◌≡◌, ℕ, ℤ, pos, negsuc, List, slice_get, take, filter, Option, Some, None, IsPermutation}
use Rattle.std.specs.declared.cmp.Ordering.TheVariants.{Less}
use Rattle.sqlite.specs.{Order.Row, Tree.IsAscending}
use Rattle.kcr_rows.specs.Keyed.{TableLayout}
use Rattle.kcr_tables.specs.Statements.{Choice, Selects}

-- the text shows, with these parameters, the first N of the rows of a table that pass, or all if they are
-- fewer
abbrev pub ShowsSome : ℕ → List ℕ → TableLayout → Row → Choice → Type 0
ShowsSome count sql place params choice = Selects sql place params choice (pos count)

-- it shows the first of them
abbrev pub ShowsFirst : List ℕ → TableLayout → Row → Choice → Type 0
ShowsFirst = ShowsSome 1

-- it holds of the values that pass, by any list of them in which they rise
abbrev pub InOrder : {X : Type 0} → (X → Row) → Choice → List X → (List X → Type 0) → Type 0
InOrder {X = X} row_of choice all Holds =
    (rows : List X) → IsPermutation (filter (λ x. choice.passes (row_of x)) all) rows
    → IsAscending (λ a b. choice.compare (row_of a) (row_of b) ≡ Less) rows → Holds rows

-- the first N of the values that pass are these
abbrev pub AreFirst : {X : Type 0} → ℕ → (X → Row) → Choice → List X → List X → Type 0
AreFirst count row_of choice all found = InOrder row_of choice all (λ rows. found ≡ take count rows)

-- the first of the values that pass is this one
abbrev pub IsFirstRow : {X : Type 0} → (X → Row) → Choice → List X → Option X → Type 0
IsFirstRow row_of choice all found = InOrder row_of choice all (λ rows. found ≡ slice_get rows 0)

-- the number behind which rows are sought: -1 before the first
abbrev pub bound_of : Option ℕ → ℤ
bound_of None = negsuc 0
bound_of (Some last) = pos last

-- Which rows are invalid.
use Rattle.std.specs.Prelude.{◌≡◌, ℕ, List, length, slice_get, Some}
use Rattle.sqlite.specs.Order.{Row}
use Rattle.sqlite_rules.specs.Lists.{Has}
use Rattle.kcr_validity.specs.Cells.{IsCell}
use Rattle.kcr_rows.specs.declared.kinds.Kind.{Kind}

-- a row has these columns, and each cell is a value of its column
pub record IsValid (kinds : List Kind) (row : Row) : Type 0 where
  pub width : length row ≡ length kinds
  pub cells : (at : ℕ) (kind : Kind) → slice_get kinds at ≡ Some kind → IsCell kind row at

-- it is one of these rows, and not valid
pub record IsInvalidOf (kinds : List Kind) (rows : List Row) (row : Row) : Type 0 where
  pub there : Has rows row
  pub invalid : ¬ IsValid kinds row

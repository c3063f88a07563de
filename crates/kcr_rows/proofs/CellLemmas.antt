-- The cells of a row as the parameters of a statement.
use Rattle.kcr_rows.proofs.Common.{◌≡◌, ℕ, List, map, take, rules, take-map, Row}
use Rattle.sqlite.specs.Values.{bound}
use Rattle.sqlite_value.specs.declared.value.ValueRef.{ValueRef}
use Rattle.kcr_rows.specs.{Cells.cell_value, declared.to_row.Cell.Cell}

-- the first N parameters are a row if the first N cells are
pub params_are : (values : List ValueRef) (cells : List Cell) (count columns : ℕ) (row : Row) → bound values ≡ map cell_value cells → count ≡ columns
    → take columns (map cell_value cells) ≡ row → bound (take count values) ≡ row
params_are values cells count columns row same is told = search (rules, take-map)

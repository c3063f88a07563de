-- The row of a query that counts rows.
use Rattle.std.specs.Prelude.{[], ◌∷◌, pos}
use Rattle.sqlite.specs.{declared.types.Value.TheVariants.Int, Order.Row}
use Rattle.kcr_rows.specs.declared.count_row.CountRow.{CountRow}

abbrev pub count_row : CountRow → Row
count_row x = Int (pos x.number) ∷ []

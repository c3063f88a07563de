-- The value that a cell of a row stands for.
use Rattle.sqlite.specs.declared.types.Value.{Value, TheVariants.Null, TheVariants.Int, TheVariants.Text}
use Rattle.kcr_rows.specs.declared.to_row.Cell.{Cell}
use Rattle.kcr_rows.specs.declared.to_row.Cell.TheVariants as Cells

abbrev pub cell_value : Cell → Value
cell_value Cells.Null = Null
cell_value (Cells.Number number) = Int number
cell_value (Cells.Text text) = Text text.now
cell_value (Cells.Place words) = Text words
cell_value (Cells.Words words) = Text words

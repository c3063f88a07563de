-- A row as it is stored.
use Rattle.sqlite.specs.Order.{Row}
use Rattle.kcr_validity.specs.declared.search.StoredRow.{StoredRow}

-- its cells
abbrev pub cells_of : StoredRow → Row
cells_of stored = stored.cells

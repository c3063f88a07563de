-- Written by tools/tables.py from tools/table_list.py: do not edit.
-- The tables of a new register.
use Rattle.std.specs.Prelude.{[], ◌∷◌, false}
use Rattle.kcr_base.specs.declared.place.Facility.{Facility}
use Rattle.kcr_custody.specs.declared.{SafeNumber.SafeNumber, SafeRow.SafeRow}
use Rattle.kcr_history.specs.Tables as machine
use Rattle.kcr_tables.specs.StoredTables.{StoredTables}

-- the tables of this version with these rows
abbrev pub as_held : machine.Tables → StoredTables
as_held m = record { rows = m; versions = record { number = 3 } ∷ [] }

-- those of a new register: the rows of the machine before any command, which are the four safes, shut
abbrev pub new_tables : StoredTables
new_tables = as_held (machine.tables [])

-- no row in any table
abbrev pub empty_tables : StoredTables
empty_tables = record { rows = record new_tables.rows { safes = [] }; versions = [] }

abbrev pub shut : Facility → SafeNumber → SafeRow
shut facility safe = record { facility = facility; safe = safe; is_open = false }

-- What the table of stays gets from the sheet.
use Rattle.std.specs.Prelude.{map}
use Rattle.kcr_history.specs.declared.views.Change.TheVariants.{PutStay}
use Rattle.kcr_room.specs.Stays.{stays_by}
use Rattle.kcr_tables.specs.{Changed.changed_all, StoredTables.StoredTables}

-- each stay of the sheet is put into its table, under its key
abbrev pub with_stays : StoredTables → StoredTables
with_stays t = changed_all (map PutStay (stays_by t.rows.sheet)) t

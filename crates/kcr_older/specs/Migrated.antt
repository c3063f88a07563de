-- What the rows of an older version become.
use Rattle.std.specs.Prelude.{[]}
use Rattle.kcr_tables.specs.StoredTables.{StoredTables}
use Rattle.kcr_older.specs.{Backfilled.with_stays, OldFiles.numbered}
use Rattle.kcr_older.specs.declared.migration.OldVersion.{OldVersion, TheVariants.V1, TheVariants.V2}

-- the tables that a version lacks have no rows
abbrev pub with_bare_tables : OldVersion → StoredTables → StoredTables
with_bare_tables V1 t = record t { rows = record t.rows { stays = []; withdrawals = [] } }
with_bare_tables V2 t = record t { rows = record t.rows { withdrawals = [] } }

-- the stays that a version lacks are those of its sheet
abbrev pub with_own_stays : OldVersion → StoredTables → StoredTables
with_own_stays V1 t = with_stays t
with_own_stays V2 t = t

-- and the number is this version's
abbrev pub migrated_tables : OldVersion → StoredTables → StoredTables
migrated_tables from t = record (with_own_stays from (with_bare_tables from t)) { versions = numbered 3 }

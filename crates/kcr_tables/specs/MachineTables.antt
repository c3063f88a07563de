-- Written by tools/tables.py from tools/table_list.py: do not edit.
-- The database holds the tables of the machine. The machine has the rows of a table in any order, the database in the
-- order of their keys.
use Rattle.std.specs.Prelude.{◌≡◌}
use Rattle.sqlite.specs.{Tree.Trees, Effect.Database}
use Rattle.kcr_history.specs.Tables as machine
use Rattle.kcr_tables.specs.{Schema.register_schema, NewTables.new_tables, StoredTables.StoredTables, StoredTables.TreesHold}

-- the same rows, in any order; the version is that of a new register
pub record SameRows (m : machine.Tables) (t : StoredTables) : Type 0 where
  pub rows : machine.SameTables m t.rows
  pub versions : t.versions ≡ new_tables.versions

-- the trees of a file hold these tables
pub record TreesHoldTables (m : machine.Tables) (db : Trees) : Type 0 where
  pub t : StoredTables
  pub kept : TreesHold db t
  pub stands : SameRows m t

-- the database has the register's schema and holds these tables
pub record HoldsTables (m : machine.Tables) (db : Database) : Type 0 where
  pub schema : db.schema ≡ register_schema
  pub tables : TreesHoldTables m db.trees

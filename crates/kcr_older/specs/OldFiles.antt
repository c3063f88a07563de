-- Files of older versions. Their tables are a front of today's: version 1 has the first 15, version 2 the stays too,
-- version 3 the withdrawals too.
use Rattle.std.specs.Prelude.{◌≡◌, ℕ, ◌+◌, ◌<◌, [], ◌∷◌, List, take}
use Rattle.sqlite.specs.{Effect.Database, Tree.Trees, Change.KeepsRows}
use Rattle.sqlite_catalog.specs.Listing.{IsSound}
use Rattle.kcr_history.specs.{History.History, Machine.IsRegister, Tables.tables, Tables.withdrawals}
use Rattle.kcr_rows.specs.declared.row_impls.Version.{Version}
use Rattle.kcr_tables.specs.{Schema.all_tables, Creation.schema_prefix, MachineTables.SameRows, StoredTables.StoredTables, StoredTables.TreesHold}

-- trees with the first N tables hold these rows in them: they share those tables with trees that hold all
pub record TreesHoldFirst (count : ℕ) (db : Trees) (t : StoredTables) : Type 0 where
  pub sound : IsSound (schema_prefix count) db
  pub whole : Trees
  pub kept : TreesHold whole t
  pub shared : KeepsRows (take count all_tables) whole db

-- the database has the first tables as its schema, and these rows
pub record HoldsFirst (count : ℕ) (db : Database) (t : StoredTables) : Type 0 where
  pub schema : db.schema ≡ schema_prefix count
  pub kept : TreesHoldFirst count db.trees t

abbrev pub numbered : ℕ → List Version
numbered version = record { number = version } ∷ []

-- the trees of a file of this version hold the tables of the history, as far as the version has them
pub record AreTablesAs (version : ℕ) (accepted : History) (db : Trees) : Type 0 where
  pub register : IsRegister accepted
  pub t : StoredTables
  pub kept : TreesHoldFirst (14 + version) db (record t { versions = numbered version })
  pub stands : SameRows (tables accepted) t
  -- a version without withdrawals accepted none
  pub unwithdrawn : version < 3 → withdrawals accepted ≡ []

pub record HoldsHistoryAs (version : ℕ) (accepted : History) (db : Database) : Type 0 where
  pub schema : db.schema ≡ schema_prefix (14 + version)
  pub tables : AreTablesAs version accepted db.trees

-- What making one more table does to a file.
use Rattle.std.specs.Prelude.{◌≡◌, ℕ, ◌+◌, [], take}
use Rattle.sqlite.specs.{Change.KeepsRows, Effect.Database, Table.Table}
use Rattle.sqlite_catalog.specs.Listing.{IsSound}
use Rattle.kcr_tables.specs.{Creation.schema_prefix, Schema.all_tables}

-- after the first N tables this one was made: it has no rows, and those of the others stay
pub record Gains (count : ℕ) (table : Table) (old new : Database) : Type 0 where
  pub schema : new.schema ≡ schema_prefix (count + 1)
  pub shared : KeepsRows (take count all_tables) old.trees new.trees
  pub empty : new.trees table.tree ≡ []
  pub sound : IsSound (schema_prefix (count + 1)) new.trees

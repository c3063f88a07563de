-- What a file holds of a history.
use Rattle.std.specs.Prelude.{◌≡◌, IsTrue}
use Rattle.sqlite.specs.{Tree.Trees, Store.Ghosts, Effect.Database, declared.transaction.Transaction.Transaction}
use Rattle.kcr_history.specs.{History.History, Machine.IsRegister, Tables.Tables, Tables.tables}
use Rattle.kcr_rows.specs.Frame.{IfClean}
use Rattle.kcr_tables.specs.{Schema.register_schema, MachineTables.HoldsTables, MachineTables.TreesHoldTables}

-- the history is a register's, and the file holds the machine's tables of it
pub record IsTables (accepted : History) (db : Trees) : Type 0 where
  pub register : IsRegister accepted
  pub kept : TreesHoldTables (tables accepted) db

-- so does a database, whose schema is then the register's
pub record Stores (accepted : History) (db : Database) : Type 0 where
  pub schema : db.schema ≡ register_schema
  pub tables : IsTables accepted db.trees

-- said of each history whose tables the database held, if it was open, by a call that leaves the disk clean
abbrev pub OfStored : {S : Type 0} → Ghosts S → Transaction S → Transaction S → (History → Type 0) → Type 0
OfStored g old new Says =
    IfClean g old new (λ before _. (A : History) → (IsTrue before.is_open → Stores A before.now) → Says A)

-- said of whatever rows the database held, if it was open, by a call that leaves the disk clean
abbrev pub OfStoredRows : {S : Type 0} → Ghosts S → Transaction S → Transaction S → (Tables → Type 0) → Type 0
OfStoredRows g old new Says =
    IfClean g old new (λ before _. (m : Tables) → (IsTrue before.is_open → HoldsTables m before.now) → Says m)

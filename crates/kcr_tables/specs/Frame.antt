-- What a call inside a transaction says of the tables, and what it leaves.
use Rattle.std.specs.Prelude.{◌≡◌, Result, IfOk, OnOk}
use Rattle.sqlite.specs.{Store.Ghosts, Tree.Trees, declared.transaction.Transaction.Transaction}
use Rattle.kcr_base.specs.declared.refusal.Refusal.{Refusal}
use Rattle.kcr_history.specs.Tables as machine
use Rattle.kcr_rows.specs.{Refusals.IsFault, Frame.IfClean, Frame.StaysInTransaction}
use Rattle.kcr_tables.specs.{Schema.register_schema, MachineTables.HoldsTables, StoredTables.StoredTables, StoredTables.Holds}

-- ---- what a call says, if the disk is clean after it

-- of the tables that the database held
abbrev pub OfTables : {A S : Type 0} → Ghosts S → Transaction S → Transaction S → Result A Refusal
    → (StoredTables → A → Type 0) → Type 0
OfTables g old new result Says =
    IfClean g old new (λ before after. (t : StoredTables) → Holds before.now t → IfOk result (Says t))

-- of them as the machine has them
abbrev pub OfMachineTables : {A S : Type 0} → Ghosts S → Transaction S → Transaction S → Result A Refusal
    → (machine.Tables → A → Type 0) → Type 0
OfMachineTables g old new result Says =
    IfClean g old new (λ before after. (m : machine.Tables) → HoldsTables m before.now → IfOk result (Says m))

-- of the trees of a database that has the register's schema, whatever the rows in them are
abbrev pub OfTrees : {A S : Type 0} → Ghosts S → Transaction S → Transaction S → Result A Refusal
    → (Trees → A → Type 0) → Type 0
OfTrees g old new result Says =
    IfClean g old new (λ before after. before.now.schema ≡ register_schema → IfOk result (Says before.now.trees))

-- ---- what a call leaves

-- if the database held tables, it holds these after a call that went well
abbrev pub ChangesTables : {A S : Type 0} → Ghosts S → Transaction S → Transaction S → Result A Refusal
    → (StoredTables → StoredTables) → Type 0
ChangesTables g old new result changed =
    IfClean g old new (λ before after. (t : StoredTables) → Holds before.now t → OnOk result (Holds after.now (changed t)))

-- and so with the tables as the machine has them
abbrev pub ChangesMachineTables : {A S : Type 0} → Ghosts S → Transaction S → Transaction S → Result A Refusal
    → (machine.Tables → machine.Tables) → Type 0
ChangesMachineTables g old new result changed = IfClean g old new
    (λ before after. (m : machine.Tables) → HoldsTables m before.now → OnOk result (HoldsTables (changed m) after.now))

-- a reading, whatever it answers: it stays within the transaction, and the database is as it was, whatever its rows
-- are
pub record Reads {A S : Type 0} (g : Ghosts S) (old new : Transaction S) (result : Result A Refusal) : Type 0 where
  pub same : IfClean g old new (λ before after. before.now.schema ≡ register_schema → OnOk result (after.now ≡ before.now))
  -- so the tables are as they were, as the database has them and as the machine has
  pub holds : ChangesTables g old new result (λ t. t)
  pub tables : ChangesMachineTables g old new result (λ m. m)
  pub within : StaysInTransaction g IsFault old new result

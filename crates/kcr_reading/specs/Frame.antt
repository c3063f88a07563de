-- What a step of a reading says of the tables.
use Rattle.std.specs.Prelude.{Result, IfOk, IsTrue}
use Rattle.sqlite.specs.{Store.Ghosts, declared.transaction.Transaction.Transaction}
use Rattle.kcr_base.specs.declared.refusal.Refusal.{Refusal}
use Rattle.kcr_history.specs.Tables.{Tables}
use Rattle.kcr_rows.specs.Frame.{IfClean}
use Rattle.kcr_tables.specs.MachineTables.{HoldsTables}

-- of the tables that the database held if the store was open, as the machine has them
abbrev pub OfOpenTables : {A S : Type 0} → Ghosts S → Transaction S → Transaction S → Result A Refusal
    → (Tables → A → Type 0) → Type 0
OfOpenTables g old new result Says = IfClean g old new
    (λ before after. (m : Tables) → (IsTrue before.is_open → HoldsTables m before.now) → IfOk result (Says m))

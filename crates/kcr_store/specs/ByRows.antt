-- What a command comes to by the rows that the tables hold, whoever wrote them.
use Rattle.std.specs.Prelude.{◌≡◌, ◌⊎◌, ◌↔◌, ⊤, ℕ, false, length, None, Result, Ok, Err, MatchOption, IfOk, IsTrue}
use Rattle.sqlite.specs.{Effect.Database, State.State, Store.Ghosts, declared.transaction.Transaction.Transaction}
use Rattle.kcr_base.specs.declared.refusal.Refusal.{Refusal, TheVariants.Broken, TheVariants.Disk}
use Rattle.kcr_history.specs.{AsksByKind.asks_of, Machine.IsRegister, Changes.all_changed, Tables.Tables, Tables.tables}
use Rattle.kcr_history.specs.{Early.early_asks, History.History, Views.IsViewOf, Views.row_of_key}
use Rattle.kcr_history.specs.declared.{commands.Command.Command, commands.Reply.Reply, views.Verdict.Verdict, views.View.View}
use Rattle.kcr_rules.specs.ByRows.{IsCheckResult, IsCleared}
use Rattle.kcr_machine.specs.{NewDecision.IsRowDecision, RowDecision.IsRowRepeat, RowDecision.RepeatsRow, RowDecision.is_full_by}
use Rattle.kcr_rows.specs.Frame.{IfClean}
use Rattle.kcr_tables.specs.{MachineTables.HoldsTables, Refusals.IsFault}
use Rattle.kcr_store.specs.{Commands.AppliesCommand, Commands.number_after, Register.HasRows, Register.RegisterRows}
use Rattle.kcr_store.specs.TransactionResult.{ends_with, is_in_doubt, last_number_after, result_of}
use Rattle.kcr_store.specs.declared.transaction.TransactionResult.{TransactionResult}

-- a command whose key is new comes to this by the rows that it asks for, if the part of them that is read first clears
-- it; `last` is the number of the last command
pub record IsDecidedLate (m : Tables) (last : ℕ) (x : Command) (result : Result Verdict Refusal) : Type 0 where
  pub view : View
  pub rows : IsViewOf (asks_of x) m view
  pub cleared : IsCleared view (is_full_by last) x.act
  pub told : IsRowDecision view last x result

-- it is refused by that part of the rows
pub record IsRefusedEarly (m : Tables) (last : ℕ) (x : Command) (refusal : Refusal) : Type 0 where
  pub view : View
  pub rows : IsViewOf (early_asks (asks_of x)) m view
  pub told : IsCheckResult {X = ⊤} view (is_full_by last) x.act (Err refusal)

-- a command comes to this by the row of its key or, where there is none, by the rows that it asks for; or a fault of
-- memory or of the device is told
abbrev pub IsDecidedBy : Tables → ℕ → Command → Result Verdict Refusal → Type 0
IsDecidedBy m last x (Ok verdict) =
    MatchOption (row_of_key x.key m.keys) (IsDecidedLate m last x (Ok verdict)) (λ row. RepeatsRow row x verdict)
IsDecidedBy m last x (Err refusal) =
    IsFault refusal
    ⊎ MatchOption (row_of_key x.key m.keys) (IsRefusedEarly m last x refusal ⊎ IsDecidedLate m last x (Err refusal))
    (λ row. IsRowRepeat row x (Err refusal))

-- so does a command over a database with these rows, and then the database has them with the changes
pub record DecidesBy (m : Tables) (last : ℕ) (x : Command) (result : Result Verdict Refusal) (after : Database) : Type 0 where
  pub decided : IsDecidedBy m last x result
  pub holds : IfOk result (λ verdict. HoldsTables (all_changed verdict.changes.items m) after)

-- a call in the transaction of a command whose key is new refuses it so: by the rows that are read first, or for a fault;
-- over the tables of a history the refusal is the machine's
pub record RefusesNew {S : Type 0} (g : Ghosts S) (count : ℕ) (x : Command) (old new : Transaction S) (refusal : Refusal) : Type 0 where
  pub by_rows : IfClean g old new (λ before _. (m : Tables) → HoldsTables m before.now
      → IsFault refusal ⊎ IsRefusedEarly m count x refusal)
  pub step : IfClean g old new (λ before _. (A : History) → IsRegister A → HoldsTables (tables A) before.now
      → row_of_key x.key (tables A).keys ≡ None → count ≡ length A → AppliesCommand A x (Err refusal) A)

-- a command is told the reply or the refusal of such a decision
pub record RepliesBy (m : Tables) (last : ℕ) (x : Command) (result : Result Reply Refusal) (after : State) : Type 0 where
  pub decision : Result Verdict Refusal
  pub told : ends_with decision ≡ result
  pub by : DecidesBy m last x decision after.now

-- A RUN OVER ROWS

-- the rows after a decision: with its changes, or the same after a refusal
abbrev pub rows_after : Tables → Result Verdict Refusal → Tables
rows_after m (Ok verdict) = all_changed verdict.changes.items m
rows_after m (Err refusal) = m

-- the number of the last command after it
abbrev pub number_by : ℕ → Result Verdict Refusal → ℕ
number_by last (Ok verdict) = number_after last verdict.new_reply
number_by last (Err refusal) = last

-- a command over a connection that had these rows ended so: it has the rows after the decision, unless it is in doubt
pub record EndsByRows (m : Tables) (last : ℕ) (x : Command) (ended : TransactionResult) (new : State) : Type 0 where
  pub decision : Result Verdict Refusal
  pub told : ends_with decision ≡ result_of ended
  pub decided : IsDecidedBy m last x decision
  pub number : last_number_after last ended ≡ number_by last decision
  pub shows : is_in_doubt ended ≡ false → HasRows (rows_after m decision) new

-- a command takes a register that is not broken from these rows to those after its decision, and a fault of the device
-- alone breaks it
pub record DecidesRows (before : RegisterRows) (x : Command) (result : Result Reply Refusal) (after : RegisterRows)
    : Type 0 where
  pub decision : Result Verdict Refusal
  pub told : ends_with decision ≡ result
  pub decided : IsDecidedBy before.rows before.last_number x decision
  pub rows : after.rows ≡ rows_after before.rows decision
  pub number : after.last_number ≡ number_by before.last_number decision
  pub breaks : IsTrue after.is_broken ↔ (result ≡ Err Disk)

-- a broken register says so, and stays as it is
pub record TakesStepByRows (before : RegisterRows) (x : Command) (result : Result Reply Refusal) (after : RegisterRows)
    : Type 0 where
  pub broken : IsTrue before.is_broken → (result ≡ Err Broken) × (after ≡ before)
  pub decides : before.is_broken ≡ false → DecidesRows before x result after

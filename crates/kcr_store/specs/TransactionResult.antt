-- What the end of a command says.
use Rattle.std.specs.Prelude.{◌≡◌, ℕ, Bool, true, false, length, Result, Ok, Err}
use Rattle.sqlite.specs.{Store.Ghosts, State.State, declared.transaction.Transaction.Transaction}
use Rattle.kcr_base.specs.declared.refusal.Refusal.{Refusal, TheVariants.Disk}
use Rattle.kcr_history.specs.{declared.commands.Command.Command, declared.commands.Reply.Reply, declared.views.Verdict.Verdict, History.History}
use Rattle.kcr_rows.specs.Frame.{StaysInTransaction}
use Rattle.kcr_store.specs.Commands.{AppliesCommand, IsSameOrNext, number_after}
use Rattle.kcr_store.specs.{Register.IsDurableWith, Register.AfterCrash, Stored.OfStored}
use Rattle.kcr_store.specs.declared.transaction.TransactionResult.{TransactionResult, TheVariants.Accepted, TheVariants.Refused, TheVariants.InDoubt}

-- what a decision is answered
abbrev pub ends_with : Result Verdict Refusal → Result Reply Refusal
ends_with (Ok verdict) = Ok verdict.reply
ends_with (Err refusal) = Err refusal

-- what the caller is answered
abbrev pub result_of : TransactionResult → Result Reply Refusal
result_of (Accepted v) = Ok v.reply
result_of (Refused e) = Err e
result_of (InDoubt error) = Err Disk

-- the history that stands, after one and the next
abbrev pub history_after : History → History → TransactionResult → History
history_after old next (Accepted v) = next
history_after old next _ = old

-- the number of the last command that stands, after the old one
abbrev pub last_number_after : ℕ → TransactionResult → ℕ
last_number_after old (Accepted v) = number_after old v.new_reply
last_number_after old _ = old

-- the commit may stand or not
abbrev pub is_in_doubt : TransactionResult → Bool
is_in_doubt (InDoubt error) = true
is_in_doubt _ = false

-- a command over a database that was whole, with the tables of this history and its number, ended so: it leads to the
-- next history if it was accepted, and a crash leaves the one or the other
pub record EndsCommand (count : ℕ) (A : History) (x : Command) (ended : TransactionResult) (new : State) : Type 0 where
  pub next : History
  pub step : AppliesCommand A x (result_of ended) (history_after A next ended)
  pub candidate : IsSameOrNext A x next
  pub shows : is_in_doubt ended ≡ false
      → IsDurableWith (last_number_after count ended) (history_after A next ended) new
  pub crash : AfterCrash A next new

-- a call within the transaction of a command, before which there were N: over the tables of a history its refusal
-- is the machine's
abbrev pub RefusesAsMachine : {T S : Type 0} → Ghosts S → ℕ → Command → Transaction S → Transaction S
    → Result T Refusal → Type 0
RefusesAsMachine g count command old new result =
    let MayFail = λ (refusal : Refusal).
    OfStored g old new (λ A. count ≡ length A → AppliesCommand A command (Err refusal) A) in
    StaysInTransaction g MayFail old new result

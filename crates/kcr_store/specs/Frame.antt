-- What a call over a connection says and leaves.
use Rattle.std.specs.Prelude.{◌≡◌, false, Result, IfErr, IsTrue, OnOk}
use Rattle.sqlite.specs.{Store.Ghosts, Tree.Trees, Held.Held, Held.state, declared.transaction.Transaction.Transaction}
use Rattle.sqlite.specs.State.{State, HasCleanDisk, Survives}
use Rattle.kcr_history.specs.{History.History, Tables.Tables}
use Rattle.kcr_rows.specs.Frame.{IfClean}
use Rattle.kcr_tables.specs.MachineTables.{HoldsTables}
use Rattle.kcr_store.specs.Register.{HasRows, IsDurable}

-- what a call over a connection says of the states before and after it, if the disk is clean after it
abbrev pub IfCleanOver : {S : Type 0} → Ghosts S → Held S → Held S → (State → State → Type 0) → Type 0
IfCleanOver g old new Says = HasCleanDisk (state g new) → Says (state g old) (state g new)

-- said of each history whose register the connection was, by a call that leaves the disk clean
abbrev pub OfDurable : {S : Type 0} → Ghosts S → Held S → Held S → (History → Type 0) → Type 0
OfDurable g old new Says = (A : History) → IsDurable A (state g old) → HasCleanDisk (state g new) → Says A

-- said of whatever rows its database held, if it was open, by such a call
abbrev pub OfRowsOver : {S : Type 0} → Ghosts S → Held S → Held S → (Tables → Type 0) → Type 0
OfRowsOver g old new Says =
    IfCleanOver g old new (λ before _. (m : Tables) → (IsTrue before.is_open → HoldsTables m before.now) → Says m)

-- it ends outside of a transaction, and a crash leaves what was there or one of these
pub record StaysOutside {S : Type 0} (g : Ghosts S) (MayLeave : Trees → Type 0) (old new : Held S) : Type 0 where
  pub autocommit : new.in_transaction ≡ false
  pub survives : Survives (state g old) (state g new) MayLeave

-- said of whatever rows its database showed, by such a call
abbrev pub OfRowsShown : {S : Type 0} → Ghosts S → Held S → Held S → (Tables → Type 0) → Type 0
OfRowsShown g old new Says = HasCleanDisk (state g new) → (m : Tables) → HasRows m (state g old) → Says m

-- it ends outside of a transaction if it began so, having committed nothing, and leaves a register that was whole so, and
-- whatever rows it had, on a disk that was clean where it is; an error is one of those that it may give
pub record OnlyReads {A E : Type 0} {S : Type 0} (g : Ghosts S) (MayFail : E → Type 0) (old new : Held S)
    (result : Result A E) : Type 0 where
  pub autocommit : old.in_transaction ≡ false → new.in_transaction ≡ false
  pub survives : Survives (state g old) (state g new) (λ _. ⊥)
  pub clean : HasCleanDisk (state g new) → HasCleanDisk (state g old)
  pub whole : (A : History) → IsDurable A (state g old) → IsDurable A (state g new)
  pub rows : (m : Tables) → HasRows m (state g old) → HasRows m (state g new)
  pub cause : IfErr result MayFail

-- within a transaction it answers only if the store was open
abbrev pub NeedsOpen : {A E S : Type 0} → Ghosts S → Transaction S → Transaction S → Result A E → Type 0
NeedsOpen g old new result =
    IfClean g old new (λ before _. IsTrue before.in_transaction → OnOk result (IsTrue before.is_open))

-- What a call inside a transaction says of the states of the database before and after it, and what it leaves.
use Rattle.std.specs.Prelude.{◌≡◌, Result, OnOk, IfErr, IsTrue}
use Rattle.sqlite.specs.{Held.state, Store.Ghosts, declared.transaction.Transaction.Transaction}
use Rattle.sqlite.specs.State.{State, HasCleanDisk, KeepsCommit, Survives}

-- the state of the database in a transaction
abbrev pub state_in : {S : Type 0} → Ghosts S → Transaction S → State
state_in g tx = state g tx.conn.now

-- what a call says of the states before and after it, if the disk is clean after it
abbrev pub IfClean : {S : Type 0} → Ghosts S → Transaction S → Transaction S → (State → State → Type 0) → Type 0
IfClean g old new Says = HasCleanDisk (state_in g new) → Says (state_in g old) (state_in g new)

-- if it has an answer, the store was open
abbrev pub ImpliesOpen : {A E S : Type 0} → Ghosts S → Transaction S → Transaction S → Result A E → Type 0
ImpliesOpen g old new result = IfClean g old new (λ before after. OnOk result (IsTrue before.is_open))

-- the connection is the same; if the call has an answer the transaction goes on; what was committed stays, and after a
-- crash too; an error is one of those that it may give
pub record StaysInTransaction {A E S : Type 0} (g : Ghosts S) (MayFail : E → Type 0) (old new : Transaction S)
    (result : Result A E) : Type 0 where
  pub same_reference : new.conn.ghost_name ≡ old.conn.ghost_name
  pub inside : IfClean g old new (λ before after. IsTrue before.in_transaction → OnOk result (IsTrue after.in_transaction))
  pub kept : IfClean g old new (λ before after. IsTrue before.in_transaction → KeepsCommit before after)
  pub survives : Survives (state_in g old) (state_in g new) (λ _. ⊥)
  pub cause : IfErr result MayFail

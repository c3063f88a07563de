-- One call after the other in a transaction, by what each leaves.
use Rattle.kcr_rows.proofs.Common.{◌≡◌, Result, Ok, Err, IfErr, IsErrAnd, rules, HasCleanDisk}
use Rattle.sqlite.specs.{Store.Ghosts, declared.transaction.Transaction.Transaction}
use Rattle.kcr_rows.proofs.{FailLemmas.on_ok, InsideLemmas.was_clean, InsideLemmas.survives_on, InsideLemmas.keeps_then}
use Rattle.kcr_rows.specs.Frame.{StaysInTransaction, state_in}

-- if the disk is clean after a call, it was before
pub clean_before : {S A E : Type 0} {g : Ghosts S} {MayFail : E → Type 0} {old new : Transaction S} {r : Result A E}
    → StaysInTransaction g MayFail old new r → HasCleanDisk (state_in g new) → HasCleanDisk (state_in g old)
clean_before {g = g} {old = old} {new = new} frame = was_clean (state_in g old) (state_in g new) _ frame.survives

module _ {S A B E F : Type 0} {g : Ghosts S} {MayFail : E → Type 0} {MayRefuse : F → Type 0} where
  -- a call behind one that had an answer
  pub within_then : {old mid new : Transaction S} {a : A} {r : Result B F} → StaysInTransaction g MayFail old mid (Ok a)
      → StaysInTransaction g MayRefuse mid new r → StaysInTransaction g MayRefuse old new r
  within_then {old} {mid} {new} one two = search (rules, clean_before, keeps_then, survives_on)

  -- what is made of the answer of a call
  pub within_to : {old new : Transaction S} {a : A} (r : Result B F) → IfErr r MayRefuse → StaysInTransaction g MayFail old new (Ok a)
      → StaysInTransaction g MayRefuse old new r
  within_to r cause one = search (rules, on_ok)

-- the error of a call, as the error of the one around it
pub within_fails : {S A B E : Type 0} {g : Ghosts S} {MayFail MayRefuse : E → Type 0} {old new : Transaction S} {e : E} (r : Result B E)
    → IsErrAnd r (λ y. y ≡ e) → (MayFail e → MayRefuse e) → StaysInTransaction {A = A} g MayFail old new (Err e) → StaysInTransaction g MayRefuse old new r
within_fails (Ok x) is may one = absurd is
within_fails {MayRefuse = MayRefuse} (Err y) is may one = search rules

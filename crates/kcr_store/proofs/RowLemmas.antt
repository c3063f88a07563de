-- What one transaction leaves of whatever rows a connection shows.
use Rattle.kcr_store.proofs.Common.{arith, ◌≡◌, true, IsTrue, Error, Database, Held, state, State, HasCleanDisk, KeepsCommit, IsRolledBack}
use Rattle.kcr_store.proofs.Common.{IsUnchanged, Survives, Ghosts, Tables, was_clean, HasRows, Transaction, Shows, false, Result, StaysInTransaction}
use Rattle.kcr_store.proofs.Common.{state_in, HoldsTables, refl}
use Rattle.sqlite.proofs.Callers.{survives_begin}
use Rattle.sqlite.specs.{declared.error.ErrorCode.TheVariants.OutOfMemory, declared.error.Error.TheVariants.SqliteFailure, Steps.FailsToCommit}

-- what a call within a transaction leaves of the connection over which that began
pub record Within (old mid : State) : Type 0 where
  pub survives : Survives old mid (λ _. ⊥)
  pub keeps : HasCleanDisk mid → KeepsCommit old mid

-- so does a call that stays in the transaction
pub within : {S A E : Type 0} (g : Ghosts S) (old : Held S) {MayFail : E → Type 0} {r : Result A E} {begun mid : Transaction S}
    → StaysInTransaction g MayFail begun mid r → begun.conn.now ≡ record old { in_transaction = true } → Within (state g old) (state_in g mid)
within g old {mid = mid} left is =
    let kept = rw is at left.kept in record {
      survives = survives_begin g old (state_in g mid) _ (rw is at left.survives);
      keeps = λ clean. let k = kept clean refl in record { was_open = k.was_open; committed = k.committed };
    }

-- on a disk that is clean it is open only if the other was, and shows what that had committed
pub record Reverts (old new : State) : Type 0 where
  pub clean : HasCleanDisk old
  pub was_open : IsTrue new.is_open → IsTrue old.is_open
  pub undone : IsTrue new.is_open → (new.now ≡ old.committed) × (new.committed ≡ old.committed)

-- so it does after a rollback
pub reverted : (mid end : State) → Survives mid end (λ _. ⊥) → (HasCleanDisk end → IsRolledBack mid end) → HasCleanDisk end → Reverts mid end
reverted mid end then back clean = record { clean = was_clean mid end _ then clean; was_open = (back clean).was_open; undone = (back clean).undone }

-- and if memory ran out at the commit, and the store is still open
pub stood : (mid end last : State) → Survives mid end (λ db. db ≡ mid.now.trees) → Survives end last (λ _. ⊥) → (e : Error)
    → e ≡ SqliteFailure OutOfMemory → (HasCleanDisk end → FailsToCommit mid end e) → (HasCleanDisk last → IsUnchanged end last)
    → HasCleanDisk last → IsTrue last.is_open × Reverts mid last
stood mid end last then probed e is failed same clean = grind (arith, was_clean)

module _ {old mid : State} where
  -- it shows again what was committed when the transaction began
  pub shown_back : (P : Database → Type 0) {end : State} → Within old mid → Reverts mid end
      → (HasCleanDisk old → IsTrue old.is_open → P old.committed)
      → IsTrue end.is_open → P end.now × P end.committed
  shown_back P w r had live = grind (arith, was_clean)

  -- so it has the rows over which the transaction began
  pub rows_back : Within old mid → (m : Tables) → HasRows m old → {end : State} → (HasCleanDisk end → Reverts mid end) → HasRows m end
  rows_back w m had back clean live =
      let s = shown_back (HoldsTables m) w (back clean) (λ was live. (had was live).committed) live in record { now = s.0; committed = s.1 }

-- what the transaction holds the connection shows once the commit stands
pub committed_has : (P : Database → Type 0) {mid end : State} → Shows mid end mid.now mid.now false → P mid.now → P end.now × P end.committed
committed_has P shown has = (rw shown.now_is has, rw shown.committed_is has)

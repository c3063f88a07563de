-- One reading after the other in a transaction, by what each leaves.
use Rattle.kcr_tables.proofs.Common.{◌≡◌, ℕ, List, Result, Ok, Err, OnOk, IfErr, IsErrAnd, rules, understood, HasCleanDisk, IsUnchanged, Survives}
use Rattle.kcr_tables.proofs.Common.{Trees, IsPlain, Refusal, IsFault, on_ok, on_ok_then, plain_in, IfClean, StaysInTransaction, state_in}
use Rattle.kcr_tables.proofs.Common.{clean_before, within_then, within_to, within_fails, register_schema, Reads}
use Rattle.sqlite.specs.{Store.Ghosts, declared.transaction.Transaction.Transaction}

module _ {A S : Type 0} {g : Ghosts S} where
  -- what leaves the database as it is leaves the tables
  pub reads_of : {old new : Transaction S} (r : Result A Refusal)
      → IfClean g old new (λ before after. before.now.schema ≡ register_schema → OnOk r (after.now ≡ before.now))
      → StaysInTransaction g IsFault old new r → Reads g old new r
  reads_of r same within = search (rules, on_ok_then)

  -- a text that changes nothing leaves the database as it is
  pub reads_by : {old new : Transaction S} {r : Result A Refusal} (sql : List ℕ) → IsPlain (understood register_schema sql)
      → IfClean g old new (λ before after. IsPlain (understood before.now.schema sql) → OnOk r (IsUnchanged before after))
      → StaysInTransaction g IsFault old new r → Reads g old new r
  reads_by {old} {new} {r} sql plain same within = search (rules, reads_of, on_ok_then, plain_in)

  -- a call that does nothing leaves the tables as they are
  pub reads_none : (tx : Transaction S) (a : A) → Survives (state_in g tx) (state_in g tx) (λ _. ⊥) → Reads g tx tx (Ok a)
  reads_none tx a s = search (rules, reads_of)

  -- what a later call finds in the trees was in them before
  pub read_later : (P : Trees → Type 0) {old mid : Transaction S} {a : A} → Reads g old mid (Ok a) → HasCleanDisk (state_in g mid)
      → (state_in g old).now.schema ≡ register_schema → ((state_in g mid).now.schema ≡ register_schema → P (state_in g mid).now.trees)
      → P (state_in g old).now.trees
  read_later P one clean has found = search rules

module _ {A B S : Type 0} {g : Ghosts S} where
  -- a reading behind one that had an answer
  pub reads_on : {old mid new : Transaction S} {a : A} {r : Result B Refusal} → Reads g old mid (Ok a) → Reads g mid new r → Reads g old new r
  reads_on {r = r} one two = search (rules, reads_of, clean_before, on_ok_then, within_then)

  -- another answer after a call that went well
  pub reads_to : {old new : Transaction S} {a : A} {r : Result B Refusal} → IfErr r IsFault → Reads g old new (Ok a) → Reads g old new r
  reads_to {r = r} cause one = reads_of r (λ clean has. on_ok _ r (one.same clean has)) (within_to r cause one.within)

-- what says that the disk is clean after a reading says it before
pub clean_on : {A S D : Type 0} {g : Ghosts S} {old new : Transaction S} {r : Result A Refusal} → Reads g old new r
    → (D → HasCleanDisk (state_in g new)) → D → HasCleanDisk (state_in g old)
clean_on one rest d = clean_before one.within (rest d)

-- the error of a call, as the error of the one around it
pub fails_as : {A B S : Type 0} {g : Ghosts S} {old new : Transaction S} {e : Refusal} {r : Result B Refusal} → IsErrAnd r (λ y. y ≡ e)
    → Reads {A = A} g old new (Err e) → Reads g old new r
fails_as {r = Ok x} is one = absurd is
fails_as {r = Err y} is one = reads_of (Err y) (λ clean has. tt) (within_fails (Err y) is (λ cause. cause) one.within)

-- A command by the rows that the tables hold, and by the tables of a history.
use Rattle.kcr_store.proofs.Common.{arith, ◌≡◌, ◌∙◌, inl, inr, Bool, false, true, ℕ, Some, None, Result, Ok, Err, IsTrue, refl, sym, subst}
use Rattle.kcr_store.proofs.Common.{◌↔◌, IsErrAnd, Error, Database, Held, state, State, HasCleanDisk, Shows, Ghosts, Transaction, Refusal}
use Rattle.kcr_store.proofs.Common.{Disk, asks_of, all_changed, Tables, IsViewOf, row_of_key, Command, Reply, KeyRow, Verdict, View, IsRowRepeat}
use Rattle.kcr_store.proofs.Common.{is_full_by, HoldsTables, IsFault, DecidesBy, EndsByRows, IsDecidedBy, IsRefusedEarly, RefusesNew, RepliesBy}
use Rattle.kcr_store.proofs.Common.{TakesStepByRows, number_by, rows_after, RowsLead, HasRows, RegisterState, is_in_doubt, last_number_after}
use Rattle.kcr_store.proofs.Common.{result_of, TransactionResult, Accepted, Refused, InDoubt, Stores, state_in, IfErr, ⊤}
use Rattle.std.specs.Prelude.{◌⊎◌, IfOk}
use Rattle.kcr_store.specs.{ByRows.IsDecidedLate, Stored.OfStored}
use Rattle.kcr_rules.specs.ByRows.{IsCleared}
use Rattle.kcr_machine.specs.NewDecision.{IsRowDecision}
use Rattle.kcr_store.proofs.StoreLemmas.{fault_steps, held_in, next_stores, steps}
use Rattle.kcr_store.proofs.Common.{History, IsDecision, IsRegister, Option, MatchOption, length, tables, greatest-keys, AppliesCommand, with_reply}
use Rattle.kcr_rows.specs.Frame.{IfClean}
use Rattle.kcr_machine.proofs.Decided.{decision, refused-early, repetition}
use Rattle.kcr_store.proofs.RowLemmas.{committed_has}

module _ {m : Tables} {last : ℕ} {x : Command} {after : Database} where
  -- out of memory, or an I/O error, is a result by any rows
  pub by_fault : (e : Refusal) → IsFault e → DecidesBy m last x (Err e) after
  by_fault e fault = record { decided = inl fault; holds = tt }

  -- a refusal that is handed on
  pub handed_on : {e : Refusal} {r : Result Verdict Refusal} → DecidesBy m last x (Err e) after → IsErrAnd r (λ y. y ≡ e) → DecidesBy m last x r after
  handed_on {e} {r} by is = grind arith

  -- the key has this row
  pub by_repeat : {row : KeyRow} (r : Result Verdict Refusal) → row_of_key x.key m.keys ≡ Some row → IsRowRepeat row x r → HoldsTables m after
      → DecidesBy m last x r after
  by_repeat {row} r there is held = grind arith

  module _ (new : row_of_key x.key m.keys ≡ None) where
    -- a refusal by the rows that are read first is one by the tables, if the key is new; so is a fault
    pub by_early : (e : Refusal) → IsFault e ⊎ IsRefusedEarly m last x e → DecidesBy m last x (Err e) after
    by_early e h = grind arith

    -- a decision by the rows that are asked for is one by the tables, if the key is new and those read first clear it
    pub by_late : (r : Result Verdict Refusal) {view : View} → IsViewOf (asks_of x) m view → IsCleared view (is_full_by last) x.act
        → IsRowDecision view last x r → IfOk r (λ v. HoldsTables (all_changed v.changes.items m) after) → DecidesBy m last x r after
    by_late r {view} rows cleared told held =
        let late : IsDecidedLate m last x r = record { view = view; rows = rows; cleared = cleared; told = told } in grind arith

-- ---- over the tables of a history

module _ (A : History) (x : Command) (last : ℕ) (register : IsRegister A) (number : last ≡ length A) where
  -- a decision by the rows is the machine's
  told : (r : Result Verdict Refusal) (o : Option KeyRow) → row_of_key x.key (tables A).keys ≡ o
      → MatchOption o (IsDecidedLate (tables A) last x r) (λ row. IsRowRepeat row x r) → IsDecision A x r
  told r None new late = decision A x late.view last r register new late.rows (number ∙ sym (greatest-keys A register)) late.cleared late.told
  told r (Some row) there repeat = repetition A x row r there repeat

  -- so is a refusal by the rows that are read first, and a fault is one
  pub early_told : (e : Refusal) → row_of_key x.key (tables A).keys ≡ None → IsFault e ⊎ IsRefusedEarly (tables A) last x e
      → AppliesCommand A x (Err e) A
  early_told e new (inl fault) = fault_steps A x e fault
  early_told e new (inr r) =
      (refl, λ memory disk. refused-early {X = ⊤} A x r.view last (Err e) register new r.rows (number ∙ sym (greatest-keys A register)) r.told memory)

  refused_told : (e : Refusal) (o : Option KeyRow) → row_of_key x.key (tables A).keys ≡ o
      → MatchOption o (IsRefusedEarly (tables A) last x e ⊎ IsDecidedLate (tables A) last x (Err e)) (λ row. IsRowRepeat row x (Err e))
      → AppliesCommand A x (Err e) A
  refused_told e None new (inl early) = early_told e new (inr early)
  refused_told e None new (inr late) = (refl, λ memory disk. told (Err e) None new late memory)
  refused_told e (Some row) there repeat = (refl, λ memory disk. told (Err e) (Some row) there repeat memory)

  -- an answer by the rows is the machine's, and the tables are those after it
  pub accepted_told : (v : Verdict) {old new : Database} → Stores A old → DecidesBy (tables A) last x (Ok v) new
      → AppliesCommand A x (Ok v.reply) (with_reply A x v.new_reply) × Stores (with_reply A x v.new_reply) new
  accepted_told v s by = let d = told (Ok v) _ refl by.decided in (steps A x v v.new_reply d, next_stores A x v v.new_reply _ _ s d by.holds)

-- over the tables of a history a refusal by the rows is the machine's
pub caused : {S : Type 0} (g : Ghosts S) {count : ℕ} {x : Command} (old new : Transaction S) (r : Result Verdict Refusal)
    → (HasCleanDisk (state_in g new) → IsTrue (state_in g old).is_open)
    → IfClean g old new (λ before after. (m : Tables) → (IsTrue before.is_open → HoldsTables m before.now) → DecidesBy m count x r after.now)
    → IfErr r (λ e. OfStored g old new (λ A. count ≡ length A → AppliesCommand A x (Err e) A))
caused g old new (Ok v) opened by = tt
caused g {x = x} old new (Err e) opened by = λ clean A had number. elim (by clean (tables A) (λ live. held_in A _ (had live))).decided [
  | inl fault ↦ fault_steps A x e fault
  | inr m ↦ refused_told A x _ (had (opened clean)).tables.register number e _ refl m
]

-- a refusal by the rows of a command whose key is new
pub refuses_new : {S : Type 0} {g : Ghosts S} {count : ℕ} {x : Command} {old new : Transaction S} (e : Refusal)
    → IfClean g old new (λ before _. (m : Tables) → HoldsTables m before.now → IsFault e ⊎ IsRefusedEarly m count x e)
    → RefusesNew g count x old new e
refuses_new {count = count} {x = x} e by =
    record { by_rows = by; step = λ clean A register held new number. early_told A x count register number e new (by clean (tables A) held) }

-- ---- a command as one transaction

-- what the database had it has as the transaction begins
pub begun_had : {S : Type 0} (g : Ghosts S) (old begun : Held S) → begun ≡ record old { in_transaction = true } → (m : Tables)
    → (IsTrue (state g old).is_open → HoldsTables m (state g old).now) → IsTrue (state g begun).is_open → HoldsTables m (state g begun).now
begun_had g old begun is m had = rw is had

module _ {m : Tables} {last : ℕ} {x : Command} {end : State} where
  -- the commit stands
  pub committed_by : {v : Verdict} {mid : State} → DecidesBy m last x (Ok v) mid.now → Shows mid end mid.now mid.now false
      → RepliesBy m last x (Ok v.reply) end
  committed_by {v} by shown = grind arith

  -- it was refused
  pub refused_by : {e : Refusal} → IsDecidedBy m last x (Err e) → RepliesBy m last x (Err e) end
  refused_by {e} decided = record { decision = Err e; told = refl; by = record { decided = decided; holds = tt } }

-- ---- the rows after it

module _ {m : Tables} {last : ℕ} {x : Command} {end : State} where
  -- the commit stands
  pub accepted_rows : {v : Verdict} {mid : State} → DecidesBy m last x (Ok v) mid.now → Shows mid end mid.now mid.now false
      → EndsByRows m last x (Accepted v) end
  accepted_rows {v} by shown =
      let s = committed_has (HoldsTables (all_changed v.changes.items m)) shown by.holds in
      record { decision = Ok v; told = refl; decided = by.decided; number = refl; shows = λ _ clean live. record { now = s.0; committed = s.1 } }

  -- it was refused
  pub refused_rows : {e : Refusal} → IsDecidedBy m last x (Err e) → HasRows m end → EndsByRows m last x (Refused e) end
  refused_rows {e} decided had = record { decision = Err e; told = refl; decided = decided; number = refl; shows = λ _. had }

  -- the commit may stand
  pub doubtful_rows : (error : Error) → EndsByRows m last x (InDoubt error) end
  doubtful_rows error = record { decision = Err Disk; told = refl; decided = inl (inr refl); number = refl; shows = grind arith }

-- what is in doubt is told as a fault of the device
certain : (ended : TransactionResult) → (result_of ended ≡ Err Disk → ⊥) → is_in_doubt ended ≡ false
certain ended never = grind arith

module _ {S : Type 0} (g : Ghosts S) (old new : RegisterState S) (x : Command) where
  -- a command over a register that is not broken
  pub rows_led : old.is_broken ≡ false → (ended : TransactionResult) → new.last_number ≡ last_number_after old.last_number ended
      → (IsTrue new.is_broken ↔ (result_of ended ≡ Err Disk))
      → (HasCleanDisk (state g new.conn) → (m : Tables) → HasRows m (state g old.conn) → EndsByRows m old.last_number x ended (state g new.conn))
      → RowsLead g old new (λ t after. TakesStepByRows t x (result_of ended) after)
  rows_led unbroken ended number breaks ends clean t at =
      let whole : t.is_broken ≡ false = sym at.broken ∙ unbroken in
      let e : EndsByRows t.rows t.last_number x ended (state g new.conn) =
      subst (λ (n : ℕ). EndsByRows t.rows n x ended (state g new.conn)) at.number (ends clean t.rows (at.shows whole)) in (
        record { rows = rows_after t.rows e.decision; last_number = number_by t.last_number e.decision; is_broken = new.is_broken },
        record { broken = refl; number = grind (arith, e.number); shows = grind (arith, certain, e.shows) },
        record {
          broken = grind arith;
          decides = λ _. record { decision = e.decision; told = e.told; decided = e.decided; rows = refl; number = refl; breaks = breaks };
        },
      )

-- one that stays whole, and is told no fault of the device
pub calm_breaks : {is_broken : Bool} {r : Result Reply Refusal} → is_broken ≡ false → (r ≡ Err Disk → ⊥) → IsTrue is_broken ↔ (r ≡ Err Disk)
calm_breaks still other = grind arith

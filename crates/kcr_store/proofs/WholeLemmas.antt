-- What one transaction leaves of a register.
use Rattle.kcr_store.proofs.Common.{rules, ◌≡◌, Bool, ℕ, length, inl, inr, Option, Some, None, true, false, Result, Ok, Err, IfOk, OnOk, IsTrue, refl}
use Rattle.kcr_store.proofs.Common.{sym, ap, ◌∙◌, arith, Error, Ghosts, Trees, State, HasCleanDisk, IsRolledBack, Survives, Shows}
use Rattle.kcr_store.proofs.Common.{Transaction, Database, Held, state, Command, was_clean, survives_on, state_in, StaysInTransaction}
use Rattle.kcr_store.proofs.Common.{AppliesCommand, TakesStep, with_reply, number_after, EndsCommand, TransactionResult, Accepted}
use Rattle.kcr_store.proofs.Common.{Refused, InDoubt, Verdict, Stores, History, Tables, tables, HasRows, IsConsistent, IsDurableWith}
use Rattle.kcr_store.proofs.Common.{IsDurable, CrashKeeps, AfterCrash, RegisterState, RegisterHistory, StandsAt, whole, true≢false, ◌↔◌, IsSome}
use Rattle.kcr_store.proofs.Common.{is_some, Refusal, Disk, BreaksIf, BreaksOnFault, CommitsNothing, Leads, ReadsHistory}
use Rattle.kcr_store.proofs.Common.{left_at, OfRowsOver, OfRowsShown, OnlyReads, StaysOutside, IsRegister, HoldsTables, ◌⊎◌}
use Rattle.std.proofs.{Common.IfErr, lemmas.Option.none-some}
use Rattle.sqlite.proofs.{Callers.survives_begin, StateLemmas.survives_then, StateLemmas.survives_weaker}
use Rattle.kcr_store.proofs.RowLemmas.{Reverts, Within, committed_has, reverted, rows_back, shown_back, stood, within}
use Rattle.kcr_store.proofs.StoreLemmas.{counts_after, held_in}
use Rattle.sqlite.specs.declared.error.{ErrorCode.TheVariants.OutOfMemory, Error.TheVariants.SqliteFailure}
use Rattle.sqlite.specs.{Steps.FailsToCommit, State.IsUnchanged}
use Rattle.kcr_store.specs.Register as register

-- what a database has it has within a transaction too
pub begun_has : {S : Type 0} (g : Ghosts S) (old begun : Held S) (P : Database → Type 0) → begun ≡ record old { in_transaction = true } → P (state g old).now
    → P (state g begun).now
begun_has g old begun P is has = rw is has

leaves : (accepted : History) (old new : State) → CrashKeeps accepted old → Survives old new (λ _. ⊥) → CrashKeeps accepted new
leaves accepted old new had s clean db may = elim (s.crash clean db may) [ inl before ↦ had (was_clean old new _ s clean) db before | inr none ↦ absurd none ]

-- a rollback goes back to the tables that were shown
pub synced_back : {A : History} {old mid end : State} → Within old mid → Reverts mid end
    → (HasCleanDisk old → IsTrue old.is_open → register.IsSynced A old)
    → IsTrue end.is_open → register.IsSynced A end
synced_back {A} w r shows live =
    let s = shown_back (Stores A) w r (λ clean live. (shows clean live).committed) live in record { now = s.0; committed = s.1 }

module _ {A : History} {old mid : State} (w : Within old mid) (was : IsDurable A old) where
  -- a durable register is so after a rollback
  pub whole_undone : {end : State} → Survives old end (λ _. ⊥) → (HasCleanDisk end → Reverts mid end) → IsDurable A end
  whole_undone {end} left back = record { shows = λ clean. synced_back w (back clean) was.shows; crash = leaves A old end was.crash left }

  module _ (after : History) (end : State) (then : Survives mid end (λ db. db ≡ mid.now.trees))
      (done : HasCleanDisk mid → Stores after mid.now) where
    -- a crash leaves the history before the commit, or the one after it
    pub either : AfterCrash A after end
    either clean db may =
        let before = was_clean mid end _ then clean in
        grind (arith, then.crash clean db may, leaves A old mid was.crash w.survives before db, (done before).tables)

    -- so it does after a later look at the store
    pub either_last : (last : State) → Survives end last (λ _. ⊥) → AfterCrash A after last
    either_last last probed clean db may =
        elim (probed.crash clean db may) [ inl before ↦ either (was_clean end last _ probed clean) db before | inr none ↦ absurd none ]

    -- the store says that it stands
    pub whole_done : ((db : Trees) → IsTrue end.is_open → end.may_leave db → db ≡ end.committed.trees)
        → (HasCleanDisk end → Shows mid end mid.now mid.now false) → IsDurable after end
    whole_done settled shown =
        let synced : HasCleanDisk end → register.IsSynced after end = λ clean.
        let s = committed_has (Stores after) (shown clean) (done (was_clean mid end _ then clean)) in record { now = s.0; committed = s.1 } in
        record {
          shows = λ clean live. synced clean;
          crash = λ clean db may. rw (settled db (shown clean).is_open may) (synced clean).committed.tables;
        }

-- a command that was prepared: the tables are those after it, and the number is its own or, of a repeat, the same
pub made_by : {S : Type 0} (g : Ghosts S) (old begun : Held S) → begun ≡ record old { in_transaction = true } → {mid : State}
    → Within (state g old) mid
    → {A : History} (x : Command) (count : ℕ) (v : Verdict)
    → (HasCleanDisk mid → IsTrue (state g begun).in_transaction → (B : History) → count ≡ length B
    → (IsTrue (state g begun).is_open → Stores B (state g begun).now)
    → AppliesCommand B x (Ok v.reply) (with_reply B x v.new_reply) × Stores (with_reply B x v.new_reply) mid.now × IsTrue mid.in_transaction)
    → IsDurableWith count A (state g old) → HasCleanDisk mid → AppliesCommand A x (Ok v.reply) (with_reply A x v.new_reply)
    × Stores (with_reply A x v.new_reply) mid.now × (number_after count v.new_reply ≡ length (with_reply A x v.new_reply))
made_by g old begun is w {A} x count v said was clean =
    let before = was_clean _ _ _ w.survives clean in
    let said = rw is at said in
    let done = said clean refl A (was.counts before) (λ live. (was.whole.shows before live).now) in
    (done.0, done.1, counts_after A x v.new_reply count (was.counts before) done.1.tables.register)

-- a transaction that was rolled back ends outside of one, and has committed nothing
pub undone_outside : {S : Type 0} (g : Ghosts S) (old begun : Held S) → begun ≡ record old { in_transaction = true } → (mid : State)
    → Survives (state g begun) mid (λ _. ⊥) → (end : Held S) → Survives mid (state g end) (λ _. ⊥) → end.in_transaction ≡ false
    → StaysOutside g (λ _. ⊥) old end
undone_outside g old begun is mid kept end then out =
    record { autocommit = out; survives = survives_on (state g old) mid (state g end) (survives_begin g old mid _ (rw is at kept)) then }

module _ {S : Type 0} (g : Ghosts S) (old : Held S) {mid : State} (w : Within (state g old) mid) where
  -- a transaction that was committed, or may have been
  pub made_outside : (end : Held S) (P : Trees → Type 0) → Survives mid (state g end) (λ db. db ≡ mid.now.trees)
      → (HasCleanDisk mid → P mid.now.trees)
      → end.in_transaction ≡ false → StaysOutside g P old end
  made_outside end P then done out = search (rules, survives_then, w.survives, was_clean)

  -- nothing was committed, if the store that met out of memory at the commit is still open
  pub nothing_made : ((s : S) → IsTrue (g.view s).is_open → g.recovers s (g.view s).committed)
      → ((s : S) (db : Trees) → IsTrue (g.view s).is_open → g.recovers s db → db ≡ (g.view s).committed)
      → {end : State} → Survives mid end (λ db. db ≡ mid.now.trees) → (last : Held S) → Survives end (state g last) (λ _. ⊥) → {e : Error}
      → (HasCleanDisk end → FailsToCommit mid end e) → e ≡ SqliteFailure OutOfMemory → (HasCleanDisk (state g last) → IsUnchanged end (state g last))
      → Survives (state g old) (state g last) (λ _. ⊥)
  nothing_made stays settled {end} then last probed {e} failed is same =
      let made = λ (db : Trees). db ≡ mid.now.trees in
      let committed = survives_then (state g old) mid end (λ _. ⊥) made made (λ _ db none. absurd none) (λ _ db is. is) w.survives then in
      let all = survives_then (state g old) end (state g last) made (λ _. ⊥) made (λ _ db is. is) (λ _ db none. absurd none) committed probed in
      let left : HasCleanDisk (state g last) → (db : Trees) → g.recovers last.store db → g.recovers old.store db ⊎ ⊥ = λ clean db may.
      let (live, r) = stood mid end (state g last) then probed e is failed same clean in
      let was = r.was_open live in
      let same = settled last.store db live may ∙ ap (λ (d : Database). d.trees) ((r.undone live).1 ∙ (w.keeps r.clean).committed was) in
      inl (rw same (stays old.store ((w.keeps r.clean).was_open was))) in
      record { clean = all.clean; shield = all.shield; counts = all.counts; limit = all.limit; closes = all.closes; crash = left }

-- a transaction that is rolled back: the call over the connection only reads
pub read_back : {S A E : Type 0} (g : Ghosts S) (old end : Held S) {MayFail : E → Type 0} {r : Result A E} {begun mid : Transaction S}
    → StaysInTransaction g MayFail begun mid r → begun.conn.now ≡ record old { in_transaction = true } → Survives (state_in g mid) (state g end) (λ _. ⊥)
    → (HasCleanDisk (state g end) → IsRolledBack (state_in g mid) (state g end)) → end.in_transaction ≡ false → OnlyReads g MayFail old end r
read_back g old end {mid = mid} left is then back out =
    let w = within g old left is in
    let reverts = reverted (state_in g mid) (state g end) then back in
    let survives = survives_on (state g old) (state_in g mid) (state g end) w.survives then in record {
      autocommit = λ _. out;
      survives = survives;
      clean = was_clean _ _ _ survives;
      whole = λ A was. whole_undone w was survives reverts;
      rows = λ m had. rows_back w m had reverts;
      cause = left.cause;
    }

-- a call that leaves what was there follows
pub outside_then : {S : Type 0} (g : Ghosts S) (P : Trees → Type 0) (old mid end : Held S) → StaysOutside g P old mid → StaysOutside g (λ _. ⊥) mid end
    → StaysOutside g P old end
outside_then g P old mid end one two = search (rules, survives_then)

-- a call that may leave less
pub outside_weaker : {S : Type 0} {g : Ghosts S} {P R : Trees → Type 0} {old new : Held S} → ((db : Trees) → P db → R db) → StaysOutside g P old new
    → StaysOutside g R old new
outside_weaker weaker left = search (rules, survives_weaker)

-- what a call says of whatever rows its database held it says of the tables of a history, which is a register's
pub of_durable : {S X E : Type 0} {g : Ghosts S} {M : E → Type 0} {old new : Held S} {r : Result X E} (Is : Tables → X → Type 0)
    → OnlyReads g M old new r
    → (HasCleanDisk (state g new) → (m : Tables) → HoldsTables m (state g old).now → IfOk r (Is m))
    → (HasCleanDisk (state g new) → OnOk r (IsTrue (state g old).is_open))
    → (A : History) → IsDurable A (state g old) → HasCleanDisk (state g new) → IfOk r (λ x. IsRegister A × Is (tables A) x)
of_durable {r = Ok x} Is left rows opened A was clean =
    let s = (was.shows (left.clean clean) (opened clean)).now in (s.tables.register, rows clean (tables A) (held_in A _ s))
of_durable {r = Err e} Is left rows opened A was clean = tt

-- what is whole, with its number
pub counted_as : {count : ℕ} {accepted : History} {s : State} → IsDurable accepted s → (HasCleanDisk s → count ≡ length accepted) → IsDurableWith count accepted s
counted_as whole counts = record { whole = whole; counts = counts }

-- a call that only reads leaves both
pub still_counted : {S A E : Type 0} {g : Ghosts S} {MayFail : E → Type 0} {r : Result A E} {old new : Held S} {count : ℕ} {accepted : History}
    → OnlyReads g MayFail old new r → IsDurableWith count accepted (state g old) → IsDurableWith count accepted (state g new)
still_counted left was = record { whole = left.whole _ was.whole; counts = λ clean. was.counts (left.clean clean) }

-- ---- how a command ended

module _ {count : ℕ} {A : History} {x : Command} {new : State} where
  -- it was refused, and all is as it was
  pub refused_ends : {e : Refusal} → AppliesCommand A x (Err e) A → IsDurableWith count A new → EndsCommand count A x (Refused e) new
  refused_ends step was =
      record { next = A; step = step; candidate = inl refl; shows = λ _. was; crash = λ clean db may. inl (was.whole.crash clean db may) }

  -- it was accepted
  pub accepted_ends : {v : Verdict} → AppliesCommand A x (Ok v.reply) (with_reply A x v.new_reply)
      → IsDurableWith (number_after count v.new_reply) (with_reply A x v.new_reply) new → EndsCommand count A x (Accepted v) new
  accepted_ends {v} step stands = search rules

  -- the commit failed, and may stand
  pub doubtful_ends : {error : Error} (v : Verdict) → AppliesCommand A x (Ok v.reply) (with_reply A x v.new_reply)
      → AfterCrash A (with_reply A x v.new_reply) new → EndsCommand count A x (InDoubt error) new
  doubtful_ends v step crash =
      record { next = with_reply A x v.new_reply; step = grind arith; candidate = inr (step.0, step.1); shows = grind arith; crash = crash }

-- ---- where a register stands

-- it has the rows of its history
pub stands_rows : {S : Type 0} {g : Ghosts S} {A : History} {r : RegisterState S} → StandsAt g (whole A) r → HasRows (tables A) (state g r.conn)
stands_rows at honest live = grind (arith, held_in)

-- what one call says of whatever rows its database held is so of the rows that it showed
pub rows_shown : {S : Type 0} (g : Ghosts S) (old new : Held S) (Says : Tables → Type 0)
    → (HasCleanDisk (state g new) → HasCleanDisk (state g old)) → OfRowsOver g old new Says → OfRowsShown g old new Says
rows_shown g old new Says clean says now m has = says now m (λ live. (has (clean now) live).now)

-- one that says that nothing has broken it
pub seen_unbroken : {S : Type 0} {inside seen : RegisterState S} {told : Bool} → inside ≡ seen → told ≡ seen.is_broken → told ≡ false
    → inside.is_broken ≡ false
seen_unbroken is told unbroken = cc

-- a whole database that nothing has broken
pub stands_whole : {S : Type 0} {g : Ghosts S} {A : History} {r : RegisterState S} → r.is_broken ≡ false → IsDurableWith r.last_number A (state g r.conn)
    → StandsAt g (whole A) r
stands_whole is was = record { broken = is; shows = λ _. was; crash = λ clean db may. inl (was.whole.crash clean db may) }

-- a broken one, of which a crash leaves the one history or the other
pub stands_broken : {S : Type 0} {g : Ghosts S} {A B : History} {r : RegisterState S} → IsTrue r.is_broken → AfterCrash A B (state g r.conn)
    → StandsAt g (record { accepted = A; in_doubt = Some B }) r
stands_broken {B = B} is crash = record { broken = is; shows = λ none. absurd (none-some B (sym none)); crash = crash }

-- what is None is nothing
none_some : {X : Type 0} {o : Option X} → o ≡ None → IsSome o → ⊥
none_some none some = true≢false (sym some ∙ ap is_some none)

-- of a register that is not broken no history is in doubt
pub not_in_doubt : (d : Option History) → is_some d ≡ false → d ≡ None
not_in_doubt d is = grind arith

module _ {S : Type 0} {g : Ghosts S} {r : RegisterState S} {s : RegisterHistory} (is : r.is_broken ≡ false) (at : StandsAt g s r) where
  -- no history of a register that is not broken is in doubt
  pub none_in_doubt : s.in_doubt ≡ None
  none_in_doubt = not_in_doubt s.in_doubt (sym at.broken ∙ is)

  -- a register that is not broken is durable, with the number of its last command
  pub counted_at : IsDurableWith r.last_number s.accepted (state g r.conn)
  counted_at = at.shows none_in_doubt

-- ---- a command over a register that is not broken

module _ {S : Type 0} (g : Ghosts S) (old new : RegisterState S) (x : Command) (is : old.is_broken ≡ false) where
  -- a command that gets a reply takes the machine's step, and leaves the register whole
  pub accepted_leads : (v : Verdict) → new.is_broken ≡ false → new.last_number ≡ number_after old.last_number v.new_reply
      → (HasCleanDisk (state g new.conn) → (A : History) → IsDurableWith old.last_number A (state g old.conn)
      → EndsCommand old.last_number A x (Accepted v) (state g new.conn)) → Leads g old new (λ s after. TakesStep s x (Ok v.reply) after)
  accepted_leads v still number ends clean s at =
      let e = ends clean s.accepted (counted_at is at) in
      let none = none_in_doubt is at in (whole e.next, stands_whole still (rw number (e.shows refl)), grind (arith, none_some, none, e))

  -- a command that an I/O error ends, or whose commit is in doubt, breaks the register, and a crash leaves its history or the next one
  pub broken_leads : {ended : TransactionResult} → IsTrue new.is_broken
      → (HasCleanDisk (state g new.conn) → (A : History) → IsDurableWith old.last_number A (state g old.conn)
      → EndsCommand old.last_number A x ended (state g new.conn)) → Leads g old new (λ s after. TakesStep s x (Err Disk) after)
  broken_leads broken ends clean s at =
      let e = ends clean s.accepted (counted_at is at) in
      let none = none_in_doubt is at in
      (record { accepted = s.accepted; in_doubt = Some e.next }, stands_broken broken e.crash, grind (arith, none_some, none, e.candidate))

-- ---- a call that only reads

-- what is not touched survives
pub survives_still : (s : State) → Survives s s (λ _. ⊥)
survives_still s = grind arith

module _ {S A E : Type 0} {g : Ghosts S} {M : E → Type 0} {r : Result A E} where
  -- what is not touched is only read
  pub reads_nothing : (a : Held S) → IfErr r M → OnlyReads g M a a r
  reads_nothing a cause = grind (arith, survives_still)

  -- calls of which each only reads only read one after the other
  pub reads_then : {B F : Type 0} {N : F → Type 0} {q : Result B F} {a b c : Held S} → OnlyReads g M a b r → OnlyReads g N b c q → OnlyReads g N a c q
  reads_then one two = grind (arith, survives_on)

-- what is left of a register by a call that only read over its connection, if what came then has broken it
pub record LeftBy {S : Type 0} (g : Ghosts S) (Came : Type 0) (old new : RegisterState S) : Type 0 where
  pub breaks : IsTrue new.is_broken ↔ Came
  pub nothing : CommitsNothing g old new
  pub stands : (s : RegisterHistory) → StandsAt g s old → StandsAt g (left_at new.is_broken s) new
  pub clean : HasCleanDisk (state g new.conn) → HasCleanDisk (state g old.conn)
  pub kept : IsConsistent g new

-- whether it came or not, the connection is the same
pub conn_after : {S : Type 0} {Came : Type 0} {mid new : RegisterState S} → BreaksIf Came mid new → new.conn ≡ mid.conn
conn_after settled = grind arith

-- it stands where it did, and a crash may leave that once it is broken
left_stands : {S : Type 0} {g : Ghosts S} {s : RegisterHistory} (r : RegisterState S) → s.in_doubt ≡ None
    → IsDurableWith r.last_number s.accepted (state g r.conn)
    → StandsAt g (left_at r.is_broken s) r
left_stands r none was = grind (arith, none_some)

-- a call that only read over the connection leaves it so
pub left_by : {S A E : Type 0} {g : Ghosts S} {M : E → Type 0} {r : Result A E} {old new : RegisterState S} {conn : Held S} {Came : Type 0}
    → old.is_broken ≡ false → IsConsistent g old → OnlyReads g M old.conn conn r → BreaksIf Came (record old { conn = conn }) new → LeftBy g Came old new
left_by {g = g} {M = M} {r = r} {old = old} {new = new} unbroken kept left settled =
    let now : OnlyReads g M old.conn new.conn r = rw (conn_after settled) left in
    let number : new.last_number ≡ old.last_number = grind arith in record {
      breaks = grind arith;
      nothing = record { survives = now.survives; number = number; rows = now.rows };
      stands = λ s at. left_stands new (none_in_doubt unbroken at) (rw number (still_counted now (counted_at unbroken at)));
      clean = now.clean;
      kept = record { autocommit = now.autocommit kept.autocommit };
    }

-- a call that an I/O error breaks the register after
pub looked : {S A : Type 0} {g : Ghosts S} {MayFail : Refusal → Type 0} {r : Result A Refusal} {old new : RegisterState S} {conn : Held S}
    → old.is_broken ≡ false → IsConsistent g old → OnlyReads g MayFail old.conn conn r → BreaksOnFault (record old { conn = conn }) new r
    → ReadsHistory g MayFail old new r
looked unbroken kept left settled = let now = left_by unbroken kept left settled in grind arith

-- what is said of a value under a premise that the call's success gives
pub if_ok : {T E : Type 0} (P : Type 0) (Q : T → Type 0) (r : Result T E) → OnOk r P → (P → IfOk r Q) → IfOk r Q
if_ok P Q r p f = grind arith

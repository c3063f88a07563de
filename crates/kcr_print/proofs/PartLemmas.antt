-- Parts of a report that are written one after the other.
use Rattle.kcr_print.proofs.Common.{◌≡◌, ℕ, ◌<◌, List, [], ◌++◌, inl, inr, refl, sym, ap, ◌∙◌, subst, ◌⊎◌, ⊤, Option, Some, Result, Ok, Err, IfErr}
use Rattle.kcr_print.proofs.Common.{IsErr, IsErrAnd, OnOk, is_some, true≢false, Appends, flat_map, Ghosts, Held, state, HasCleanDisk, inner_of}
use Rattle.kcr_print.proofs.Common.{failures_of, Counted, Refusal, some_if, is_ceremony, History, ceremony_row, tables, IsFault, RegisterState}
use Rattle.kcr_print.proofs.Common.{IsConsistent, CeremonyRow, planned_row, conn_after, left_by, reads_nothing, reads_then, rows_shown, stands_rows}
use Rattle.kcr_print.proofs.Common.{BreaksIf, OfHistory, OfRows, OfRowsOver, OfRowsShown, OnlyReads, row_of_ceremony, Stops, IsPrinted, IsOfPlanned}
use Rattle.kcr_print.proofs.Common.{Prints, PrintsPart, PrintsCeremonyPart, PrintsPlanned, CountsWriteFaults, Writes, PrintFault, Refused, Write}
use Rattle.std.specs.Prelude.{Bool, true, false}
use Rattle.std.proofs.lemmas.Result.{IfErr-weaker, IfOk-from_err, MatchResult-weaker, on_ok_weaker}
use Rattle.kcr_base.specs.declared.refusal.Refusal.TheVariants as Refusals
use Rattle.kcr_history.specs.Tables as machine
use Rattle.kcr_store.specs.{Rows.MayHaveNoRow, Rows.IsNotPlanned, Rows.NamesCeremony, ShownBy.HasNoRowBy, ShownBy.IsNotPlannedBy, ShownBy.IsRowBy}
use Rattle.kcr_print.proofs.WrittenLemmas.{appends_both, appends_nothing, front_both, front_longer}

-- WHY IT STOPS

-- denied for another reason
stops_denied : {D E : Refusal → Type 0} → ((refusal : Refusal) → D refusal → E refusal) → (fault : PrintFault) → Stops D fault → Stops E fault
stops_denied f (Refused refusal) (inl fault) = inl fault
stops_denied f (Refused refusal) (inr why) = inr (f refusal why)
stops_denied f Write h = tt

-- what stops a part that nothing denies stops any
stops_weaker : (M : Refusal → Type 0) (fault : PrintFault) → Stops (λ _. ⊥) fault → Stops M fault
stops_weaker M = stops_denied (λ _ no. absurd no)

-- a part that nothing denies is not stopped by a refusal that names a ceremony
not_named : (ceremony : ℕ) (e : PrintFault) (refusal : Refusal) → Stops (λ _. ⊥) e → NamesCeremony ceremony refusal → e ≡ Refused refusal → ⊥
not_named ceremony (Refused other) refusal (inl (inl memory)) names is = cc
not_named ceremony (Refused other) refusal (inl (inr disk)) names is = cc
not_named ceremony (Refused other) refusal (inr none) names is = none
not_named ceremony Write refusal h names is = cc

-- a result that can only be this error has it
pub err_is : (r : Result ⊤ PrintFault) (e f : PrintFault) → IsErrAnd r (λ fault. fault ≡ e) → r ≡ Err f → e ≡ f
err_is (Ok v) e f is eq = absurd is
err_is (Err g) e f is eq = let same : g ≡ f = cc in sym is ∙ same

-- WHERE IT IS WHOLE

on_ok : {T E : Type 0} (r : Result T E) (P : Type 0) → P → OnOk r P
on_ok (Ok v) P p = p
on_ok (Err e) P p = tt

-- THE ROW OF A CEREMONY OF A HISTORY

some_if_tells : (b : Bool) (row : CeremonyRow) → is_some (some_if b row) ≡ b
some_if_tells true row = refl
some_if_tells false row = refl

row_tells : (A : History) (ceremony : ℕ) → is_some (row_of_ceremony ceremony (tables A)) ≡ is_ceremony A ceremony
row_tells A ceremony = ap is_some (planned_row A ceremony) ∙ some_if_tells (is_ceremony A ceremony) (ceremony_row A ceremony)

-- THE BYTES

-- nothing is a prefix of any text
printed_none : (D : Refusal → Type 0) (r : Result ⊤ PrintFault) (a b : Option (List ℕ)) (x : List ℕ) → OnOk r ⊥ → IsPrinted D [] r a b → IsPrinted D x r a b
printed_none D (Ok v) a b x never p = absurd never
printed_none D (Err e) a b x never p = (front_longer a b [] x p.0, p.1)

printed_then : (D : Refusal → Type 0) (r : Result ⊤ PrintFault) (a b c : Option (List ℕ)) (x y : List ℕ) → Appends a b x → IsPrinted D y r b c
    → IsPrinted D (x ++ y) r a c
printed_then D r a b c x y p q = MatchResult-weaker r q (λ _. appends_both a b c x y p) (λ _ f. (front_both a b c x y p f.0, f.1))

printed_of : (D : Refusal → Type 0) (r : Result ⊤ PrintFault) (a b : Option (List ℕ)) (x : List ℕ) → Writes r a b x → IfErr r (Stops (λ _. ⊥))
    → IsPrinted D x r a b
printed_of D (Ok v) a b x p q = p
printed_of D (Err e) a b x p q = (p, stops_weaker D e q)

-- failed writes are told of a text after one that was written whole, and so of both
pub told_then : {W : Type 0} (x y z : Counted W) (r : Result ⊤ PrintFault) → CountsWriteFaults x y (Ok tt) → CountsWriteFaults y z r → CountsWriteFaults x z r
told_then x y z r p q =
    let still : failures_of y ≡ failures_of x = p.calm (λ e. cc e) in
    record {
      calm = λ ne. q.calm ne ∙ still;
      fault = λ e. subst (λ n. n < failures_of z) still (q.fault e);
    }

-- PARTS

-- what the row of a ceremony was by whatever rows there were
pub row_read : {S : Type 0} (g : Ghosts S) {a b : Held S} {ceremony : ℕ} {row : CeremonyRow} → OnlyReads g (MayHaveNoRow ceremony) a b (Ok row)
    → OfRowsOver g a b (λ m. IsRowBy m ceremony row) → OfRowsShown g a b (λ m. row_of_ceremony ceremony m ≡ Some row)
row_read g {a} {b} {ceremony} {row} peeks is = rows_shown g a b (λ m. IsRowBy m ceremony row) peeks.clean is

module _ {S W : Type 0} {g : Ghosts S} {contents : W → Option (List ℕ)} {D : machine.Tables → Refusal → Type 0} {M : Refusal → Type 0} where
  -- one part, and then another
  pub puts_then : {a b c : Held S} {x y z : Counted W} {r : Result ⊤ PrintFault} {t u : machine.Tables → List ℕ}
      → PrintsPart g contents a b x y (Ok tt) D M t → PrintsPart g contents b c y z r D M u → PrintsPart g contents a c x z r D M (λ m. t m ++ u m)
  puts_then {x = x} {y} {z} {r} {t} {u} p q = record {
    printed = λ clean m has.
        printed_then (D m) r _ _ _ (t m) (u m) (p.printed (q.reads.clean clean) m has) (q.printed clean m (p.reads.rows m has));
    reads = reads_then p.reads q.reads;
    told = told_then x y z r p.told q.told;
  }

  -- the same call, of which other things are printed and denied
  puts_as : {a b : Held S} {x y : Counted W} {r : Result ⊤ PrintFault} {E : machine.Tables → Refusal → Type 0} {N : Refusal → Type 0}
      {t u : machine.Tables → List ℕ} → OfRowsShown g a b (λ m. IsPrinted (D m) (u m) r (contents (inner_of x)) (contents (inner_of y)))
      → IfErr r (Stops M) → PrintsPart g contents a b x y r E N t → PrintsPart g contents a b x y r D M u
  puts_as {b = b} printed cause p = record { printed = printed; reads = reads_then p.reads (reads_nothing b cause); told = p.told }

  -- a part that stops, and what would have followed
  pub puts_more : {a b : Held S} {x y : Counted W} {e : PrintFault} {t : machine.Tables → List ℕ} (u : machine.Tables → List ℕ)
      → PrintsPart g contents a b x y (Err e) D M t → PrintsPart g contents a b x y (Err e) D M (λ m. t m ++ u m)
  puts_more {x = x} {y} {t = t} u p =
      puts_as
      (λ clean m has.
      let front = p.printed clean m has in
      (front_longer (contents (inner_of x)) (contents (inner_of y)) (t m) (u m) front.0, front.1)) p.reads.cause p

  -- a part that left the connection so
  pub puts_at : {a b c : Held S} {x y : Counted W} {r : Result ⊤ PrintFault} {t : machine.Tables → List ℕ} → c ≡ b
      → PrintsPart g contents a b x y r D M t → PrintsPart g contents a c x y r D M t
  puts_at {a} {x = x} {y} {r} {t} same = subst (λ (h : Held S). PrintsPart g contents a h x y r D M t) (sym same)

  -- the error that is handed on
  pub puts_err : {a b : Held S} {x y : Counted W} {t : machine.Tables → List ℕ} (r : Result ⊤ PrintFault) (e : PrintFault) → IsErrAnd r (λ fault. fault ≡ e)
      → PrintsPart g contents a b x y (Err e) D M t → PrintsPart g contents a b x y r D M t
  puts_err (Ok v) e is p = absurd is
  puts_err {a} {b} {x} {y} {t} (Err f) e is p = subst (λ (o : PrintFault). PrintsPart g contents a b x y (Err o) D M t) (sym is) p

  -- a part that nothing denies
  pub puts_weaker : {a b : Held S} {x y : Counted W} {r : Result ⊤ PrintFault} {t : machine.Tables → List ℕ}
      → PrintsPart g contents a b x y r (λ _ _. ⊥) (λ _. ⊥) t → PrintsPart g contents a b x y r D M t
  puts_weaker {r = r} {t} p =
      puts_as (λ clean m has. MatchResult-weaker r (p.printed clean m has) (λ _ q. q) (λ e q. (q.0, stops_weaker (D m) e q.1)))
      (IfErr-weaker r _ _ (stops_weaker M) p.reads.cause) p

  -- the same part, its text told otherwise
  pub puts_text : {a b : Held S} {x y : Counted W} {r : Result ⊤ PrintFault} {t : machine.Tables → List ℕ} (u : machine.Tables → List ℕ)
      → PrintsPart g contents a b x y r D M t → OfRowsShown g a b (λ m. t m ≡ u m) → PrintsPart g contents a b x y r D M u
  puts_text {x = x} {y} {r} u p same =
      puts_as (λ clean m has. subst (λ (text : List ℕ). IsPrinted (D m) text r (contents (inner_of x)) (contents (inner_of y)))
      (same clean m has) (p.printed clean m has)) p.reads.cause p

module _ {S W : Type 0} {g : Ghosts S} {contents : W → Option (List ℕ)} where
  -- a call on the register, and then a text that is written
  pub puts_line : {D : machine.Tables → Refusal → Type 0} {M : Refusal → Type 0} {A E : Type 0} {N : E → Type 0} {q : Result A E} {a b : Held S}
      {x y : Counted W} {r : Result ⊤ PrintFault} (line : List ℕ) → OnlyReads g N a b q
      → Writes r (contents (inner_of x)) (contents (inner_of y)) line → IfErr r (Stops (λ _. ⊥)) → CountsWriteFaults x y r
      → PrintsPart g contents a b x y r D M (λ _. line)
  puts_line {D} {M} {b = b} {r = r} line peeks written cause told = record {
    printed = λ now m has. printed_of (D m) r _ _ line written cause;
    reads = reads_then peeks (reads_nothing b (IfErr-weaker r _ _ (stops_weaker M) cause));
    told = told;
  }

  -- a part, and then a text that is written
  pub puts_last : {D : machine.Tables → Refusal → Type 0} {M : Refusal → Type 0} {a b : Held S} {x y z : Counted W} {r : Result ⊤ PrintFault}
      {t : machine.Tables → List ℕ} (line : List ℕ) → PrintsPart g contents a b x y (Ok tt) D M t
      → Writes r (contents (inner_of y)) (contents (inner_of z)) line → IfErr r (Stops (λ _. ⊥)) → CountsWriteFaults y z r
      → PrintsPart g contents a b x z r D M (λ m. t m ++ line)
  puts_last {b = b} line p written cause told = puts_then p (puts_line line (reads_nothing {A = ⊤} {M = Stops (λ _. ⊥)} {r = Ok tt} b tt) written cause told)

  -- a call on the register that was refused before anything was written
  puts_nothing : {D : machine.Tables → Refusal → Type 0} {M : Refusal → Type 0} {A E : Type 0} {N : E → Type 0} {q : Result A E} {a b : Held S} {x : Counted W}
      {refusal : Refusal} {t : machine.Tables → List ℕ} → OfRowsShown g a b (λ m. IsFault refusal ⊎ D m refusal) → (IsFault refusal ⊎ M refusal) → OnlyReads g N a b q
      → PrintsPart g contents a b x x (Err (Refused refusal)) D M t
  puts_nothing {b = b} {x} why cause peeks = record {
    printed = λ now m has. ((0, appends_nothing (contents (inner_of x))), why now m has);
    reads = reads_then peeks (reads_nothing b cause);
    told = record { calm = λ _. refl; fault = λ e. cc e };
  }

  -- rows that a reading gives from its start
  pub puts_all : {a b : Held S} {x y : Counted W} {r : Result ⊤ PrintFault} {Row : Type 0} {to_come : machine.Tables → List Row}
      (lines : Row → List ℕ) (all : machine.Tables → List Row) → ((m : machine.Tables) → to_come m ≡ all m)
      → PrintsPart g contents a b x y r (λ _ _. ⊥) (λ _. ⊥) (λ m. flat_map lines (to_come m))
      → PrintsPart g contents a b x y r (λ _ _. ⊥) (λ _. ⊥) (λ m. flat_map lines (all m))
  puts_all lines all starts p = puts_text (λ m. flat_map lines (all m)) p (λ _ m _. ap (flat_map lines) (starts m))

  -- and from its start at a ceremony
  pub puts_reading : {D : machine.Tables → Refusal → Type 0} {M : Refusal → Type 0} {a b : Held S} {x y : Counted W} {r : Result ⊤ PrintFault}
      {Row : Type 0} {to_come : machine.Tables → List Row} {number ceremony : ℕ} (lines : Row → List ℕ) (first : ℕ → machine.Tables → List Row)
      → ((m : machine.Tables) → to_come m ≡ first number m) → number ≡ ceremony
      → PrintsPart g contents a b x y r (λ _ _. ⊥) (λ _. ⊥) (λ m. flat_map lines (to_come m))
      → PrintsPart g contents a b x y r D M (λ m. flat_map lines (first ceremony m))
  puts_reading {ceremony = ceremony} lines first starts same p = puts_weaker (puts_all lines (first ceremony) (λ m. starts m ∙ ap (λ k. first k m) same) p)

  -- THE REPORT OF A CEREMONY

  -- one that stops is not whole, so nothing is said of its ceremony
  pub stops_planned : {a b : Held S} {x y : Counted W} {report_by : machine.Tables → ℕ → List ℕ} {ceremony : ℕ} (r : Result ⊤ PrintFault) {e : PrintFault}
      → IsErr r → IsErrAnd r (λ fault. fault ≡ e) → Stops (λ _. ⊥) e
      → PrintsPart g contents a b x y (Err e) (λ m. IsNotPlannedBy m ceremony) (NamesCeremony ceremony) (λ m. report_by m ceremony)
      → PrintsCeremonyPart report_by ceremony g contents a b x y r
  stops_planned {ceremony = ceremony} r {e} err is cause p = record {
    puts = puts_err r e is p;
    row = λ clean m has. IfOk-from_err r _ err;
    unwritten = λ refusal names eq. absurd (not_named ceremony e refusal cause names (err_is r e (Refused refusal) is eq));
  }

  -- likewise one that stops before anything is written
  pub denied_planned : {a b : Held S} {x : Counted W} {report_by : machine.Tables → ℕ → List ℕ} {ceremony : ℕ} (r : Result ⊤ PrintFault) {e : PrintFault}
      → IsErr r → IsErrAnd r (λ fault. fault ≡ e)
      → PrintsPart g contents a b x x (Err e) (λ m. IsNotPlannedBy m ceremony) (NamesCeremony ceremony) (λ m. report_by m ceremony)
      → PrintsCeremonyPart report_by ceremony g contents a b x x r
  denied_planned r {e} err is p =
      record { puts = puts_err r e is p; row = λ clean m has. IfOk-from_err r _ err; unwritten = λ refusal names eq. refl }

  -- one that is whole is of a ceremony whose row was read
  pub ends_planned : {a c : Held S} {x y : Counted W} {report_by : machine.Tables → ℕ → List ℕ} {ceremony : ℕ} {r : Result ⊤ PrintFault} {row : CeremonyRow}
      (b : Held S) → OfRowsShown g a b (λ m. row_of_ceremony ceremony m ≡ Some row) → (HasCleanDisk (state g c) → HasCleanDisk (state g b))
      → IfErr r (Stops (λ _. ⊥))
      → PrintsPart g contents a c x y r (λ m. IsNotPlannedBy m ceremony) (NamesCeremony ceremony) (λ m. report_by m ceremony)
      → PrintsCeremonyPart report_by ceremony g contents a c x y r
  ends_planned {ceremony = ceremony} {r = r} b row clean cause p = record {
    puts = p;
    row = λ now m has. on_ok r _ (ap is_some (row (clean now) m has));
    unwritten = λ refusal names eq. absurd (not_named ceremony (Refused refusal) refusal (rw eq at cause) names refl);
  }

  -- the row of the ceremony was refused, and nothing was written
  pub no_planned : {a b : Held S} {x : Counted W} {ceremony : ℕ} {refusal : Refusal} {t : machine.Tables → List ℕ}
      → OnlyReads {A = CeremonyRow} g (MayHaveNoRow ceremony) a b (Err refusal) → OfRowsOver g a b (λ m. HasNoRowBy m ceremony refusal)
      → PrintsPart g contents a b x x (Err (Refused refusal)) (λ m. IsNotPlannedBy m ceremony) (NamesCeremony ceremony) t
  no_planned {a} {b} {ceremony = ceremony} {refusal} peeks why =
      puts_nothing (rows_shown g a b (λ m. HasNoRowBy m ceremony refusal) peeks.clean why) peeks.cause peeks

-- OVER ANY REGISTER

-- what a register is that an I/O error may have broken since
clean_then : {S : Type 0} (g : Ghosts S) {Came : Type 0} {mid after : RegisterState S} → BreaksIf Came mid after
    → HasCleanDisk (state g after.conn) → HasCleanDisk (state g mid.conn)
clean_then {S} g settled = subst (λ (conn : Held S). HasCleanDisk (state g conn)) (conn_after settled)

-- what is said of its rows over its connection
pub rows_told : {S : Type 0} (g : Ghosts S) (before : RegisterState S) {after : RegisterState S} {conn : Held S} {Came : Type 0} (Says : machine.Tables → Type 0)
    → BreaksIf Came (record before { conn = conn }) after → OfRowsShown g before.conn conn Says → OfRows g before after Says
rows_told g before Says settled says clean _ = says (clean_then g settled clean)

module _ {S W : Type 0} (g : Ghosts S) {contents : W → Option (List ℕ)} {before after : RegisterState S} {conn : Held S} {x y : Counted W} {r : Result ⊤ PrintFault}
    (intact : before.is_broken ≡ false) (kept : IsConsistent g before) (settled : BreaksIf (r ≡ Err (Refused Refusals.Disk)) (record before { conn = conn }) after) where
  -- a part that is the whole report, its text told of the history
  report_told : {D : machine.Tables → Refusal → Type 0} {M : Refusal → Type 0} {t : machine.Tables → List ℕ} {Denies : History → Refusal → Type 0}
      (text : History → List ℕ) → PrintsPart g contents before.conn conn x y r D M t
      → OfHistory g before (record before { conn = conn }) (λ A. IsPrinted (Denies A) (text A) r (contents (inner_of x)) (contents (inner_of y)))
      → Prints g contents before after x y r Denies M text
  report_told text p printed =
      let left = left_by intact kept p.reads settled in
      record {
        broken = λ yes. absurd (true≢false (sym yes ∙ intact));
        printed = λ clean. printed (clean_then g settled clean);
        cause = λ _. p.reads.cause;
        leaves = record { nothing = left.nothing; breaks = λ _. left.breaks; stands = left.stands };
        clean = left.clean;
        kept = left.kept;
        told = p.told;
      }

  -- a report that nothing denies
  pub text_told : {M : Refusal → Type 0} {t : machine.Tables → List ℕ} (text : History → List ℕ)
      → PrintsPart g contents before.conn conn x y r (λ _ _. ⊥) M t → OfHistory g before (record before { conn = conn }) (λ A. t (tables A) ≡ text A)
      → Prints g contents before after x y r (λ _ _. ⊥) M text
  text_told text p is =
      report_told text p
      (λ clean A at. subst (λ (text : List ℕ). IsPrinted (λ _. ⊥) text r (contents (inner_of x)) (contents (inner_of y)))
      (is clean A at) (p.printed clean (tables A) (stands_rows at)))

  -- the report of a ceremony
  pub planned_told : {report_by : machine.Tables → ℕ → List ℕ} {ceremony : ℕ} (report : History → ℕ → List ℕ)
      → PrintsCeremonyPart report_by ceremony g contents before.conn conn x y r
      → OfHistory g before (record before { conn = conn })
      (λ A. ((is_ceremony A ceremony ≡ false) × (report_by (tables A) ceremony ≡ [])) ⊎ (report_by (tables A) ceremony ≡ report A ceremony))
      → PrintsPlanned report report_by ceremony g contents before after x y r
  planned_told {report_by} {ceremony} report part texts = record {
    prints = report_told (λ A. report A ceremony) part.puts printed;
    planned = λ clean. planned (clean_then g settled clean);
    by_rows = rows_told g before _ settled part.puts.printed;
    row = rows_told g before _ settled part.row;
    unwritten = part.unwritten;
  }
    where
      planned : IsOfPlanned g before (record before { conn = conn }) r ceremony
      planned clean A at = on_ok_weaker r (λ some. sym (row_tells A ceremony) ∙ some) (part.row clean (tables A) (stands_rows at))

      printed : OfHistory g before (record before { conn = conn })
          (λ A. IsPrinted (IsNotPlanned A ceremony) (report A ceremony) r (contents (inner_of x)) (contents (inner_of y)))
      printed clean A at =
          let h : IsPrinted (IsNotPlanned A ceremony) (report_by (tables A) ceremony) r (contents (inner_of x)) (contents (inner_of y)) =
          MatchResult-weaker r (part.puts.printed clean (tables A) (stands_rows at)) (λ _ p. p)
          (λ e p. (p.0, stops_denied (λ refusal h. (sym (row_tells A ceremony) ∙ ap is_some h.0, h.1)) e p.1)) in
          elim (texts clean A at) [
            | inr same ↦ rw same at h
            | inl none ↦ printed_none (IsNotPlanned A ceremony) r _ _ (report A ceremony)
                (on_ok_weaker r (λ yes. true≢false (sym yes ∙ none.0)) (planned clean A at)) (rw none.1 at h)
          ]

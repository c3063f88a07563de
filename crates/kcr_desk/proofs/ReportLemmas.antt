-- What a report that was printed into memory is told.
use Rattle.kcr_desk.proofs.Common.{arith, report_response, RespondsOrMemory, AnswersReading, ResponseValue}
use Rattle.kcr_desk.proofs.Common.{◌≡◌, ◌∙◌, ℕ, List, [], false, refl, sym, subst, inr, false_from_ne_true, ⊤, Option, Result, Err}
use Rattle.kcr_desk.proofs.Common.{IfErr, Ghosts, inner_of, Counted, Refusal, History, Tables, IsConsistent, RegisterRows}
use Rattle.kcr_desk.proofs.Common.{RegisterState, StandsAt, ReadsHistory, OfHistory, left_at, looked, reads_nothing, IsReported, IsReportedByRows}
use Rattle.kcr_desk.proofs.Common.{IsText, IsFeed, IsFeedByRows, no_command, MayBeFed, MayBeReported, MayBeText, outcome_of}
use Rattle.std.proofs.Common.{Bool}
use Rattle.std.specs.Prelude.{◌+◌, ◌⊎◌, ◌<◌, ◌≤◌, Some}
use Rattle.kcr_tables.specs.Refusals.{IsFault}
use Rattle.kcr_store.specs.Rows.{MayHaveNoRow, NamesCeremony}
use Rattle.kcr_print.specs.Reports.{IsPrinted, Prints, PrintsPlanned, PrintsRows}
use Rattle.kcr_print.specs.{Requests.Exports, declared.fault.PrintFault.PrintFault, declared.fault.PrintFault.TheVariants.Write}
use Rattle.kcr_desk.specs.declared.response.MediaType.{MediaType}
use Rattle.kcr_desk.proofs.AnswerLemmas.{OfShown, reading_answered}

-- what was printed into memory, of which this can be said
module _ {S W : Type 0} (g : Ghosts S) {contents : W → Option (List ℕ)} {before after : RegisterState S} {x y : Counted W} {outcome : Result ⊤ PrintFault}
    (told : ResponseValue) (kind : MediaType) (text : List ℕ) where
  says_answered : {D : History → Refusal → Type 0} {t : History → List ℕ} (MayDeny MayFail : Refusal → Type 0) (Says : History → Result (List ℕ) Refusal → Type 0)
      (SaysBy : RegisterRows → Result (List ℕ) Refusal → Type 0) → ((r : Refusal) → IsFault r ⊎ MayDeny r → MayFail r) → Prints g contents before after x y outcome D MayDeny t
      → OfHistory g before after (λ A. Says A (outcome_of outcome text)) → OfShown g before after (λ t. SaysBy t (outcome_of outcome text))
      → RespondsOrMemory (report_response kind) (outcome_of outcome text) told
      → AnswersReading g before told after (report_response kind) (λ result. IfErr result MayFail) Says SaysBy
  says_answered MayDeny MayFail Says SaysBy may prints says says_by =
      let looks : ReadsHistory g MayFail before after (outcome_of outcome text) =
      grind (arith, may, prints.broken, prints.cause, prints.leaves.breaks, prints.leaves.stands) in
      reading_answered g before after told (report_response kind) (λ r. refl) (outcome_of outcome text) looks Says SaysBy
      (λ result. IfErr result MayFail) looks.cause says says_by

  -- a report of a ceremony
  pub report_answered : (report : History → ℕ → List ℕ) (report_by : Tables → ℕ → List ℕ) (ceremony : ℕ)
      → PrintsPlanned report report_by ceremony g contents before after x y outcome
      → contents (inner_of x) ≡ Some [] → contents (inner_of y) ≡ Some text → RespondsOrMemory (report_response kind) (outcome_of outcome text) told
      → AnswersReading g before told after (report_response kind) (MayBeReported ceremony) (IsReported report ceremony)
      (λ t. IsReportedByRows report_by ceremony t.rows)
  report_answered report report_by ceremony e blank is =
      says_answered (NamesCeremony ceremony) (MayHaveNoRow ceremony) (IsReported report ceremony) (λ t. IsReportedByRows report_by ceremony t.rows)
      (λ r h. h) e.prints
      (λ c A at. let printed = e.prints.printed c A at in let planned = e.planned c A at in grind arith)
      (λ whole c t at.
      let had = at.shows (sym at.broken ∙ whole) in let printed = e.by_rows c whole t.rows had in let row = e.row c whole t.rows had in grind arith)

  -- a report of the whole register
  pub text_answered : (text_of : History → List ℕ) (text_by : Tables → List ℕ)
      → Prints g contents before after x y outcome (λ _ _. ⊥) (λ _. ⊥) text_of → PrintsRows g contents before after x y outcome (λ _ _. ⊥) text_by
      → contents (inner_of x) ≡ Some [] → contents (inner_of y) ≡ Some text → RespondsOrMemory (report_response kind) (outcome_of outcome text) told
      → AnswersReading g before told after (report_response kind) MayBeText (IsText text_of) (λ t. IsText text_by t.rows)
  text_answered text_of text_by prints by_rows blank is =
      let told_text : (t : List ℕ) → IsPrinted (λ _. ⊥) t outcome (contents (inner_of x)) (contents (inner_of y))
      → IsText (λ t. t) t (outcome_of outcome text) = λ t p. grind arith in
      says_answered (λ _. ⊥) IsFault (IsText text_of) (λ t. IsText text_by t.rows) (λ r h. grind arith) prints
      (λ c A at. told_text (text_of A) (prints.printed c A at))
      (λ whole c t at. told_text (text_by t.rows) (by_rows c whole t.rows (at.shows (sym at.broken ∙ whole))))

  -- the feed
  pub feed_answered : (number count : ℕ) → 0 < count → count ≤ 1000 → Exports g contents before after x y outcome number (number + count)
      → (before.is_broken ≡ false → number ≤ before.last_number)
      → contents (inner_of x) ≡ Some [] → contents (inner_of y) ≡ Some text → RespondsOrMemory (report_response kind) (outcome_of outcome text) told
      → AnswersReading g before told after (report_response kind) (MayBeFed number) (IsFeed number) (IsFeedByRows number)
  feed_answered number count some most exports enough blank is =
      says_answered (λ _. ⊥) (λ refusal. IsFault refusal ⊎ (refusal ≡ no_command number)) (IsFeed number)
      (IsFeedByRows number) (λ r h. grind arith) exports.prints
      (λ c A at values.
      let counts = (at.shows refl).counts (exports.prints.clean c) in
      let printed = exports.requests c A at values in let le = enough at.broken in grind arith)
      (λ whole c t at.
      let printed = exports.by_rows c whole t.rows (at.shows (sym at.broken ∙ whole)) in let le = enough whole in let same = at.number in grind arith)

-- after an export of which the writer did not take all, a register answers as it would have before
module _ {S W Value : Type 0} (g : Ghosts S) {contents : W → Option (List ℕ)} {before between after : RegisterState S} {x y : Counted W} {outcome : Result ⊤ PrintFault} where
  -- what answers a reading after the export answers it before the export
  pub answered_again : {D : History → Refusal → Type 0} {MayDeny : Refusal → Type 0} {t : History → List ℕ} (told : ResponseValue)
      (told_by : Result Value Refusal → ResponseValue) (MayBe : Result Value Refusal → Type 0) (Says : History → Result Value Refusal → Type 0)
      (SaysBy : RegisterRows → Result Value Refusal → Type 0) → Prints g contents before between x y outcome D MayDeny t → outcome ≡ Err Write
      → AnswersReading g between told after told_by MayBe Says SaysBy → AnswersReading g before told after told_by MayBe Says SaysBy
  answered_again told told_by MayBe Says SaysBy prints ended answers =
      let whole : before.is_broken ≡ false = false_from_ne_true before.is_broken (λ yes. cc (ended, (prints.broken yes).0)) in
      let still : between.is_broken ≡ false = false_from_ne_true between.is_broken (λ yes. cc (ended, (prints.leaves.breaks whole).0 yes)) in
      record {
        clean = λ now. prints.clean (answers.clean now);
        reply = rw (whole ∙ sym still) answers.reply;
        answer = λ now s at. answers.answer now s (subst (λ (b : Bool). StandsAt g (left_at b s) between) still (prints.leaves.stands s at));
        rows = λ now t at.
            let rows = prints.leaves.nothing.rows t.rows in
            let number = prints.leaves.nothing.number ∙ at.number in
            answers.rows now t (record { broken = still ∙ sym whole ∙ at.broken; number = number; shows = λ calm. rows (at.shows calm) });
      }

-- the number that a feed begins behind is none of a command
pub unknown_answered : {S : Type 0} (g : Ghosts S) (register : RegisterState S) (told : ResponseValue) (kind : MediaType) (number : ℕ)
    → IsConsistent g register → register.is_broken ≡ false → register.last_number < number
    → RespondsOrMemory (report_response kind) (Err (no_command number)) told
    → AnswersReading g register told register (report_response kind) (MayBeFed number) (IsFeed number) (IsFeedByRows number)
unknown_answered g register told kind number kept unbroken few =
    let MayFail : Refusal → Type 0 = λ refusal. IsFault refusal ⊎ (refusal ≡ no_command number) in
    let unknown : Result (List ℕ) Refusal = Err (no_command number) in
    let looks : ReadsHistory g MayFail register register unknown =
    looked unbroken kept (reads_nothing register.conn (inr refl)) (inr ((λ is. cc is), refl)) in
    reading_answered g register register told (report_response kind) (λ r. refl) unknown looks (IsFeed number) (IsFeedByRows number) (MayBeFed number)
    looks.cause (λ clean A at values. let counts = (at.shows refl).counts clean in grind arith)
    (λ whole clean t at. let same = at.number in grind arith)

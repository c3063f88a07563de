use Rattle.kcr_desk.proofs.Common.{◌≡◌, ◌∙◌, ap, false, inl, inr, refl, sym, Result, Ok, Err, Ghosts, Refusal, ReadsHistory, RegisterState}
use Rattle.kcr_desk.proofs.Common.{MayBeShown, json_response, shown_response}
use Rattle.kcr_history.specs.declared.questions.{Question.Question, Shown.Shown}
use Rattle.kcr_store.specs.{Frame.OfRowsOver, ShownBy.IsQuestionResultBy}
use Rattle.kcr_desk.proofs.AnswerLemmas.{OfShown, refused_or_memory, reading_answered}
use Rattle.kcr_desk.proofs.answer.answer_question.Goals as goal

-- what is shown of the rows that the connection held is so of those that the register shows
shown_rows : {S : Type 0} (g : Ghosts S) {before after : RegisterState S} {result : Result Shown Refusal} {MayFail : Refusal → Type 0} (question : Question)
    → ReadsHistory g MayFail before after result
    → (before.is_broken ≡ false → OfRowsOver g before.conn after.conn (λ m. IsQuestionResultBy m question result))
    → OfShown g before after (λ t. IsQuestionResultBy t.rows question result)
shown_rows g question looks says whole clean t at = says whole clean t.rows (λ live. (at.shows (sym at.broken ∙ whole) (looks.clean clean) live).now)

pub returns-in-Ok-write_shown : goal.returns-in-Ok-write_shown
returns-in-Ok-write_shown g c =
    let e = c.in-Ok.ensures in
    reading_answered g.S.Store _ _ _ _ (λ r. refl) (Ok c.in-Ok.shown) e.looks _ _ (MayBeShown c.args.question.now) (λ _. e.by_rows) e.shown
    (shown_rows g.S.Store c.args.question.now e.looks e.rows) (inl (c.json_response.ensures ∙ ap json_response c.in-Ok-write_shown.ensures))

pub returns-in-Ok : goal.returns-in-Ok
returns-in-Ok g c =
    let e = c.in-Ok.ensures in
    reading_answered g.S.Store _ _ _ _ (λ r. refl) (Ok c.in-Ok.shown) e.looks _ _ (MayBeShown c.args.question.now) (λ _. e.by_rows) e.shown
    (shown_rows g.S.Store c.args.question.now e.looks e.rows) (inr (c.memory_response.ensures, (λ is. cc), (λ is. cc)))

pub returns : goal.returns
returns g c =
    let e = c.in-Err.ensures in
    reading_answered g.S.Store _ _ _ _ (λ r. refl) (Err c.in-Err.refusal) e.looks _ _ (MayBeShown c.args.question.now) e.looks.cause e.shown
    (shown_rows g.S.Store c.args.question.now e.looks e.rows) (refused_or_memory shown_response _ c.in-Err.refusal refl c.refusal_response.ensures)

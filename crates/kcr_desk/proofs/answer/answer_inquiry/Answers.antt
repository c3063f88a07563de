use Rattle.kcr_desk.proofs.{Common.sym, AnswerLemmas.refused_answered}
use Rattle.kcr_desk.proofs.answer.answer_inquiry.Goals as goal

pub returns-in-Ok : goal.returns-in-Ok
returns-in-Ok g c = rw (← c.asked.view_is, ← c.in-Ok.ensures.question) c.answer_get.ensures

pub returns-in-Err : goal.returns-in-Err
returns-in-Err g c =
    rw (← c.asked.view_is) (refused_answered g.S.Store _ _ _ _ _ _ _ c.in-Err.unread.refusal (λ _. sym c.in-Err.ensures.question)
    (rw c.in-Err.ensures.allow at c.unread_response.ensures))

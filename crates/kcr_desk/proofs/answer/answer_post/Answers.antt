use Rattle.kcr_desk.proofs.AnswerLemmas.{refused_answered}
use Rattle.kcr_desk.proofs.answer.answer_post.Goals as goal

pub returns-in-Ok : goal.returns-in-Ok
returns-in-Ok g c = rw (← c.asked.view_is, c.in-Ok.ensures.command) c.answer_command.ensures

pub returns-in-Err : goal.returns-in-Err
returns-in-Err g c =
    rw (← c.asked.view_is) (refused_answered g.S.Store _ _ _ _ _ _ _ c.in-Err.unread.refusal c.in-Err.ensures.command
    (rw c.in-Err.ensures.allow at c.unread_response.ensures))

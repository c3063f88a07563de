use Rattle.kcr_desk.proofs.Common.{inl, inr}
use Rattle.kcr_desk.proofs.answer.refusal_response.Goals as goal

pub returns-in-Some : goal.returns-in-Some
returns-in-Some c = inl (cc (c.refusal_heading-heading.ensures, c.in-Some.ensures))

pub returns-in-Ok : goal.returns-in-Ok
returns-in-Ok c = inl (cc (c.refusal_heading-heading.ensures, c.in-Ok.ensures))

pub returns-in-Err : goal.returns-in-Err
returns-in-Err c = inr (c.in_default.ensures, c.memory_response.ensures)

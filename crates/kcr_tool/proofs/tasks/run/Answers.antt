use Rattle.kcr_tool.proofs.Common.{inl, inr, refl, whole}
use Rattle.kcr_tool.proofs.tasks.run.Goals as goal

pub returns-in-Ok-clause-ends : goal.returns-in-Ok-clause-ends
returns-in-Ok-clause-ends g c =
    inl (refl, (c.serve.new.register.is_broken, c.in-Ok.field-0.requests, rw c.requires at c.in-Ok.ensures.replied))

pub returns-in-Err-clause-ends : goal.returns-in-Err-clause-ends
returns-in-Err-clause-ends g c = inr (c.serve.new.register.is_broken, rw c.requires at c.in-Err.ensures.replied)

pub returns-in-Ok-clause-own : goal.returns-in-Ok-clause-own
returns-in-Ok-clause-own g c clean A at =
    let end = c.in-Ok.ensures.answered clean (whole A) at in (refl, (end.0, c.in-Ok.field-0.requests, end.2))

pub returns-in-Err-clause-own : goal.returns-in-Err-clause-own
returns-in-Err-clause-own g c clean A at =
    let end = c.in-Err.ensures.answered clean (whole A) at in inr (end.0, end.2)

pub returns-in-Ok-clause-led : goal.returns-in-Ok-clause-led
returns-in-Ok-clause-led g c clean s at =
    let end = c.in-Ok.ensures.answered clean s at in (end.0, end.1, (refl, (c.in-Ok.field-0.requests, end.2)))

pub returns-in-Err-clause-led : goal.returns-in-Err-clause-led
returns-in-Err-clause-led g c clean s at = c.in-Err.ensures.answered clean s at

pub returns-in-Err-clause-cause : goal.returns-in-Err-clause-cause
returns-in-Err-clause-cause g c = (refl, c.in-Err.ensures.cause)

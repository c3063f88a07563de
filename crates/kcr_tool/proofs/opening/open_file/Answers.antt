use Rattle.kcr_tool.proofs.Common.{IfOk-weaker}
use Rattle.kcr_tool.proofs.opening.open_file.Goals as goal

pub returns-in-Ok-clause-stands : goal.returns-in-Ok-clause-stands
returns-in-Ok-clause-stands g c =
    IfOk-weaker c.take.result _ _ (λ r stands A held. stands A (c.in-Ok.ensures.founded A held)) c.take.ensures.stands

use Rattle.kcr_rules.proofs.Unless.{refused, refuses}
use Rattle.kcr_rules.proofs.context.DecisionContext.release.Goals as goal

pub returns-in_err-ended : goal.returns-in_err-ended
returns-in_err-ended c =
    let by = c.roster.ensures in
    rw (← by.appointments, ← by.settled, ← by.is_full)
    (refuses _ _ _ c.from_residual.result (refused _ _ c.release.result _ c.release.ensures c.in_err-ended.was) c.from_residual.ensures.1)

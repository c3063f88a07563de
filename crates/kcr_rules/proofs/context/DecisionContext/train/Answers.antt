use Rattle.kcr_rules.proofs.Unless.{refused, refuses}
use Rattle.kcr_rules.proofs.context.DecisionContext.train.Goals as goal

pub returns-in_err-row : goal.returns-in_err-row
returns-in_err-row c =
    let by = c.roster.ensures in
    rw (← by.people, ← by.trainings, ← by.appointments, ← by.is_full)
    (refuses _ _ _ c.from_residual.result (refused _ _ c.train.result _ c.train.ensures c.in_err-row.was) c.from_residual.ensures.1)

use Rattle.kcr_rules.proofs.Common.{[], ◌∷◌, ap, ◌∙◌, PutAppointment}
use Rattle.kcr_rules.proofs.Unless.{refused, accepted, refuses}
use Rattle.kcr_rules.proofs.context.DecisionContext.replace.Goals as goal

pub returns-in_err-ended : goal.returns-in_err-ended
returns-in_err-ended c =
    let by = c.roster.ensures in
    rw (← by.people, ← by.trainings, ← by.appointments, ← by.settled, ← by.is_full)
    (refuses _ _ _ c.from_residual.result (refused _ _ c.replace.result _ c.replace.ensures c.in_err-ended.was) c.from_residual.ensures.1)

pub returns : goal.returns
returns c =
    let by = c.roster.ensures in
    rw (← by.people, ← by.trainings, ← by.appointments, ← by.settled, ← by.is_full)
    (let a = accepted _ _ c.replace.result _ c.replace.ensures c.in_ok-ended.was in
    (a.0, c.in_ok-both.ensures ∙ ap (λ rows. PutAppointment rows.0 ∷ PutAppointment rows.1 ∷ []) a.1))

use Rattle.kcr_rules.proofs.Common.{[], ◌∷◌, ap, ◌∙◌, PutBox}
use Rattle.kcr_rules.proofs.Unless.{refused, accepted, refuses}
use Rattle.kcr_rules.proofs.context.DecisionContext.add_box.Goals as goal

pub returns-in_err-row : goal.returns-in_err-row
returns-in_err-row c =
    rw (← c.deref.ensures.value)
    (refuses _ _ _ c.from_residual.result (refused _ _ c.add_box.result _ c.add_box.ensures c.in_err-row.was) c.from_residual.ensures.1)

pub returns : goal.returns
returns c =
    rw (← c.deref.ensures.value)
    (let a = accepted _ _ c.add_box.result _ c.add_box.ensures c.in_ok-row.was in
    (a.0, c.in_ok-only.ensures ∙ ap (λ row. PutBox row ∷ []) a.1))

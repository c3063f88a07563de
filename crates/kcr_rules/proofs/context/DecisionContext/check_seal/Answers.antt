use Rattle.kcr_rules.proofs.Common.{refl, subst, IsTestResult, seal_refusal, Ceremony, Seal}
use Rattle.kcr_rules.proofs.Checked.{checked}
use Rattle.kcr_rules.proofs.context.DecisionContext.check_seal.Goals as goal

pub returns : goal.returns
returns c =
    let a = c.args in
    checked a.self.now.view.now a.self.now.is_full (Ceremony a.ceremony a.at (Seal a.serial a.items.now)) c.check_seal.result refl
    (subst (λ o. IsTestResult o c.check_seal.result)
    (λ i. seal_refusal (c.ceremony_status-status.ensures i) (c.deref.ensures.value i) (c.deref-2.ensures.value i) a.serial (c.as_slice.ensures.value i))
    c.check_seal.ensures)

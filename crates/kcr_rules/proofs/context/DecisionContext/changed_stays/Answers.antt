use Rattle.kcr_rules.proofs.Common.{rules}
use Rattle.kcr_rules.proofs.context.DecisionContext.changed_stays.Goals as goal

pub returns : goal.returns
returns c = rw (← c.deref.ensures.value) (search rules)

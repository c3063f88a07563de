use Rattle.kcr_rules.proofs.{Common.rules, OwnRefusals.effect-kind, NotFull.not-full-result}
use Rattle.kcr_rules.proofs.effects.evaluate.Goals as goal

pub returns-clause-not_full : goal.returns-clause-not_full
returns-clause-not_full c = search (rules, not-full-result)

pub returns-clause-kind : goal.returns-clause-kind
returns-clause-kind c = search (rules, effect-kind)

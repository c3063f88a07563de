use Rattle.kcr_machine.proofs.{Common.arith, KeyRows.key-seen, KeyRows.none-seen, Decided.repeat-kind, Decided.new-kind}
use Rattle.kcr_machine.proofs.whole.decide.Goals as goal

-- the key has a row
pub returns-then-has_key-clause-step : goal.returns-then-has_key-clause-step
returns-then-has_key-clause-step c = grind (arith, key-seen)

-- the key is new
pub returns-clause-step : goal.returns-clause-step
returns-clause-step c = grind (arith, none-seen)

-- a refusal is one of a command of this kind
pub returns-then-has_key-clause-kind : goal.returns-then-has_key-clause-kind
returns-then-has_key-clause-kind c = repeat-kind c.args.command.now _ c.decide_repeat.result c.decide_repeat.ensures.by_row

pub returns-clause-kind : goal.returns-clause-kind
returns-clause-kind c = new-kind c.args.command.now c.decide_new.result c.decide_new.ensures.kind

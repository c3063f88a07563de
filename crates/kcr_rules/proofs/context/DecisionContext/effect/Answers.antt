use Rattle.kcr_rules.proofs.{Common.rules, Plain.plain_acts}
use Rattle.kcr_rules.proofs.context.DecisionContext.effect.Goals as goal

pub returns-in-Enter : goal.returns-in-Enter
returns-in-Enter c = rw c.in-Enter.is (search (rules, plain_acts c.args.self.now))

pub returns-in-Train : goal.returns-in-Train
returns-in-Train c = rw c.in-Train.is (search (rules, plain_acts c.args.self.now))

pub returns-in-Withdraw : goal.returns-in-Withdraw
returns-in-Withdraw c = rw c.in-Withdraw.is (search (rules, plain_acts c.args.self.now))

pub returns-in-Appoint : goal.returns-in-Appoint
returns-in-Appoint c = rw c.in-Appoint.is (search (rules, plain_acts c.args.self.now))

pub returns-in-Replace : goal.returns-in-Replace
returns-in-Replace c = rw c.in-Replace.is (search (rules, plain_acts c.args.self.now))

pub returns-in-Release : goal.returns-in-Release
returns-in-Release c = rw c.in-Release.is (search (rules, plain_acts c.args.self.now))

pub returns-in-AddBox : goal.returns-in-AddBox
returns-in-AddBox c = rw (c.in-AddBox.is, ← c.get.ensures.value) (search (rules, plain_acts c.args.self.now))

pub returns-in-Plan : goal.returns-in-Plan
returns-in-Plan c = rw (c.in-Plan.is, ← c.get-in-Plan.ensures.value) (search (rules, plain_acts c.args.self.now))

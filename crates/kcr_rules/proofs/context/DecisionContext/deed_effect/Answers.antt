use Rattle.kcr_rules.proofs.{Common.rules, Plain.plain_acts}
use Rattle.kcr_rules.proofs.context.DecisionContext.deed_effect.Goals as goal

pub returns-in-Open : goal.returns-in-Open
returns-in-Open c = rw c.in-Open.is (search (rules, plain_acts c.args.self.now))

pub returns-in-Close : goal.returns-in-Close
returns-in-Close c = rw c.in-Close.is (search (rules, plain_acts c.args.self.now))

pub returns-in-AddItem : goal.returns-in-AddItem
returns-in-AddItem c = rw c.in-AddItem.is (search (rules, plain_acts c.args.self.now))

pub returns-in-SetSafe : goal.returns-in-SetSafe
returns-in-SetSafe c = rw c.in-SetSafe.is (search (rules, plain_acts c.args.self.now))

pub returns-in-Seal : goal.returns-in-Seal
returns-in-Seal c = rw c.in-Seal.is (search (rules, plain_acts c.args.self.now))

pub returns-in-Take : goal.returns-in-Take
returns-in-Take c = rw c.in-Take.is (search (rules, plain_acts c.args.self.now))

pub returns-in-Put : goal.returns-in-Put
returns-in-Put c = rw c.in-Put.is (search (rules, plain_acts c.args.self.now))

pub returns-in-Cut : goal.returns-in-Cut
returns-in-Cut c = rw c.in-Cut.is (search (rules, plain_acts c.args.self.now))

pub returns-in-RecordSheet : goal.returns-in-RecordSheet
returns-in-RecordSheet c = rw (c.in-RecordSheet.is, ← c.as_slice.ensures.value) (search (rules, plain_acts c.args.self.now))

use Rattle.kcr_rules.proofs.{Common.rules, Common.refl, Common.RecordSheet, Checked.checked-steps, OwnRefusals.check_kind}
use Rattle.kcr_rules.proofs.context.DecisionContext.check_deed.Goals as goal

pub returns-in-RecordException-clause-told : goal.returns-in-RecordException-clause-told
returns-in-RecordException-clause-told c =
    let first = c.check_exception.ensures.first c.in-RecordException.text in
    rw c.in-RecordException.is (search (rules, checked-steps))

pub returns-in-RecordException-clause-kind : goal.returns-in-RecordException-clause-kind
returns-in-RecordException-clause-kind c =
    let kind = c.check_exception.ensures.kind c.in-RecordException.text in
    search rules

pub returns-in-Close-clause-kind : goal.returns-in-Close-clause-kind
returns-in-Close-clause-kind c = rw c.in-Close.is (search (rules, check_kind))

pub returns-in-AddItem-clause-kind : goal.returns-in-AddItem-clause-kind
returns-in-AddItem-clause-kind c = rw c.in-AddItem.is (search (rules, check_kind))

pub returns-in-SetSafe-clause-kind : goal.returns-in-SetSafe-clause-kind
returns-in-SetSafe-clause-kind c = rw c.in-SetSafe.is (search (rules, check_kind))

pub returns-in-Seal-clause-kind : goal.returns-in-Seal-clause-kind
returns-in-Seal-clause-kind c = rw c.in-Seal.is (search (rules, check_kind))

pub returns-in-Take-clause-kind : goal.returns-in-Take-clause-kind
returns-in-Take-clause-kind c = rw c.in-Take.is (search (rules, check_kind))

pub returns-in-Put-clause-kind : goal.returns-in-Put-clause-kind
returns-in-Put-clause-kind c = rw c.in-Put.is (search (rules, check_kind))

pub returns-in-Cut-clause-kind : goal.returns-in-Cut-clause-kind
returns-in-Cut-clause-kind c = rw c.in-Cut.is (search (rules, check_kind))

pub returns-in-RecordSheet-clause-kind : goal.returns-in-RecordSheet-clause-kind
returns-in-RecordSheet-clause-kind c =
    let a = c.args in
    let e = c.in-RecordSheet in
    rw e.is (check_kind a.self.now.view.now a.self.now.is_full a.ceremony a.at (RecordSheet e.way e.who) c.check_request.result refl
    (rw c.as_slice.ensures.value at c.check_request.ensures))

use Rattle.kcr_audit.proofs.Passing.{passing}
use Rattle.kcr_store.proofs.StoreLemmas.{none_found}
use Rattle.kcr_store.proofs.full_view.audit_database.Goals as goal

pub returns-clause-found : goal.returns-clause-found
returns-clause-found g c clean m held = (c.in_ok-view.view, (c.in_ok-view.ensures.rows clean m held).same, c.in_ok-audit.ensures)

pub returns-clause-nothing : goal.returns-clause-nothing
returns-clause-nothing g c accepted was clean =
    let v = c.in_ok-view.ensures.register accepted was clean in
    none_found c.in_ok-view.view c.in_ok-audit.field-0 (passing accepted v.0 c.in_ok-view.view v.1.same) c.in_ok-audit.ensures

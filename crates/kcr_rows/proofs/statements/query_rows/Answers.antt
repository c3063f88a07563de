use Rattle.kcr_rows.proofs.Common.{rules}
use Rattle.kcr_rows.proofs.FailLemmas.{on_ok, shown_same, shown_opened, shown_inside, shown_keeps, failed_query_keeps}
use Rattle.kcr_rows.proofs.statements.query_rows.Goals as goal

pub returns-in-Err-clause-frame : goal.returns-in-Err-clause-frame
returns-in-Err-clause-frame g c = search (rules, failed_query_keeps)

pub returns-in-Ok-clause-same : goal.returns-in-Ok-clause-same
returns-in-Ok-clause-same g c clean plain = search (rules, on_ok, shown_same)

pub returns-in-Ok-clause-opened : goal.returns-in-Ok-clause-opened
returns-in-Ok-clause-opened g c clean = search (rules, on_ok, shown_opened)

pub returns-in-Ok-clause-frame : goal.returns-in-Ok-clause-frame
returns-in-Ok-clause-frame g c = search (rules, on_ok, shown_inside, shown_keeps)

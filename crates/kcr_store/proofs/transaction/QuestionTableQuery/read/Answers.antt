use Rattle.kcr_store.proofs.Common.{[], refl, tables, held_of}
use Rattle.kcr_audit.specs.Views.{tables_of}
use Rattle.kcr_store.proofs.StoreLemmas.{held_in, listed}
use Rattle.kcr_store.proofs.transaction.QuestionTableQuery.read.Goals as goal

pub returns-in_ok-read_custodians-in-Custodians-clause-answer : goal.returns-in_ok-read_custodians-in-Custodians-clause-answer
returns-in_ok-read_custodians-in-Custodians-clause-answer g c clean A had =
    rw c.in-Custodians.is (c.in_ok-read_custodians-in-Custodians.ensures.shown clean A had)

pub returns-in_ok-read_custodians-in-Custodians-clause-rows : goal.returns-in_ok-read_custodians-in-Custodians-clause-rows
returns-in_ok-read_custodians-in-Custodians-clause-rows g c clean m had =
    rw c.in-Custodians.is (c.in_ok-read_custodians-in-Custodians.ensures.rows clean m had)

pub returns-in_ok-read_steps-in-Steps-clause-by_rows : goal.returns-in_ok-read_steps-in-Steps-clause-by_rows
returns-in_ok-read_steps-in-Steps-clause-by_rows g c = rw c.in-Steps.is (tables [], tt)

pub returns-in_ok-read_sheet-in-Sheet-clause-by_rows : goal.returns-in_ok-read_sheet-in-Sheet-clause-by_rows
returns-in_ok-read_sheet-in-Sheet-clause-by_rows g c = rw c.in-Sheet.is (tables [], tt)

pub returns-in_ok-read_custody-in-Custody-clause-by_rows : goal.returns-in_ok-read_custody-in-Custody-clause-by_rows
returns-in_ok-read_custody-in-Custody-clause-by_rows g c = rw c.in-Custody.is (tables [], tt)

pub returns-in_ok-read_full_view-in-All-clause-rows : goal.returns-in_ok-read_full_view-in-All-clause-rows
returns-in_ok-read_full_view-in-All-clause-rows g c clean m had =
    let all = c.in_ok-read_full_view-in-All.ensures in
    let held = had (all.opened clean) in
    rw c.in-All.is (listed held.tables.kept held.tables.stands (all.rows clean held.tables.t (held_of m _ held)))

pub returns-in_ok-read_full_view-in-All-clause-answer : goal.returns-in_ok-read_full_view-in-All-clause-answer
returns-in_ok-read_full_view-in-All-clause-answer g c clean A had =
    let by = returns-in_ok-read_full_view-in-All-clause-rows g c clean (tables A) (λ live. held_in A _ (had live)) in
    rw c.in-All.is (rw c.in-All.is at by)

pub returns-in_ok-read_full_view-in-All-clause-by_rows : goal.returns-in_ok-read_full_view-in-All-clause-by_rows
returns-in_ok-read_full_view-in-All-clause-by_rows g c = rw c.in-All.is (tables_of c.in_ok-read_full_view-in-All.field-0, refl)

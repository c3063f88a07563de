use Rattle.kcr_store.proofs.Common.{◌∙◌, sym, true≢false}
use Rattle.kcr_store.proofs.WholeLemmas.{conn_after, counted_at, looked}
use Rattle.kcr_store.proofs.register.Register.look.Goals as goal

pub returns-clause-looks : goal.returns-clause-looks
returns-clause-looks g c =
    let lent = c.in_ok-lent.ensures in
    rw c.note_disk_fault.ensures.same
    (looked lent.broken lent.kept (rw (c.lent.view_is ∙ lent.begun) at c.run_query-shown.ensures.frame) c.note_disk_fault.ensures.settled)

pub returns-clause-by_rows : goal.returns-clause-by_rows
returns-clause-by_rows g c = rw c.note_disk_fault.ensures.same c.run_query-shown.ensures.by_rows

pub returns-clause-rows : goal.returns-clause-rows
returns-clause-rows g c calm clean m had =
    let said = rw (c.lent.view_is ∙ c.in_ok-lent.ensures.begun) at c.run_query-shown.ensures.rows in
    rw c.note_disk_fault.ensures.same (said (rw (conn_after c.note_disk_fault.ensures.settled) at clean) m had)

pub returns-clause-shown : goal.returns-clause-shown
returns-clause-shown g c clean A at =
    let lent = c.in_ok-lent.ensures in
    let said = rw (c.lent.view_is ∙ lent.begun) at c.run_query-shown.ensures.answer in
    rw c.note_disk_fault.ensures.same (said A (counted_at lent.broken at).whole (rw (conn_after c.note_disk_fault.ensures.settled) at clean))

pub returns-in_err-lent-clause-rows : goal.returns-in_err-lent-clause-rows
returns-in_err-lent-clause-rows g c calm = absurd (true≢false (sym c.in_err-lent.ensures.broken.1 ∙ calm))

pub returns-in_err-lent-clause-shown : goal.returns-in_err-lent-clause-shown
returns-in_err-lent-clause-shown g c clean A at = absurd (true≢false (sym c.in_err-lent.ensures.broken.1 ∙ at.broken))

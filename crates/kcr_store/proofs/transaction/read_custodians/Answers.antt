use Rattle.kcr_store.proofs.Common.{[], tables, held_of}
use Rattle.kcr_store.proofs.{QuestionLemmas.custodians_of_history, QuestionLemmas.holders_by, StoreLemmas.held_in}
use Rattle.kcr_store.proofs.transaction.read_custodians.Goals as goal

pub returns-clause-rows : goal.returns-clause-rows
returns-clause-rows g c clean m had =
    let held = had (c.in_ok-appointments.ensures.opened clean) in
    let rows = c.in_ok-appointments.ensures.rows clean held.tables.t (held_of m _ held) in
    holders_by m held.tables.t.rows held.tables.stands.rows c.args.day _ c.in_ok-appointments.appointments.items rows c.in_ok-custodians_shown.ensures.day
    (rw c.deref.ensures.value at c.in_ok-custodians_shown.ensures.holders)

pub returns-clause-shown : goal.returns-clause-shown
returns-clause-shown g c clean accepted had =
    let was = had (c.in_ok-appointments.ensures.opened clean) in
    custodians_of_history accepted was.tables.register c.args.day _
    (returns-clause-rows g c clean (tables accepted) (λ live. held_in accepted _ (had live)))

pub returns-clause-by_rows : goal.returns-clause-by_rows
returns-clause-by_rows g c =
    let holders = rw c.deref.ensures.value at c.in_ok-custodians_shown.ensures.holders in
    let day = c.in_ok-custodians_shown.ensures.day in
    (record (tables []) { appointments = c.in_ok-appointments.appointments.items }, record { day = day; holders = holders })

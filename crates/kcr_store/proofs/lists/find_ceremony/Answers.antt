use Rattle.kcr_store.proofs.{Common.rules, Common.ok_or, QuestionLemmas.found_of_history, QuestionLemmas.row_by, StoreLemmas.held_in}
use Rattle.kcr_base.specs.declared.refusal.Thing.TheVariants as Things
use Rattle.kcr_store.proofs.lists.find_ceremony.Goals as goal

pub returns-clause-rows : goal.returns-clause-rows
returns-clause-rows g c clean m had =
    let found = c.in_ok-find_row.ensures.row clean m (had (c.in_ok-find_row.ensures.opened clean)) in
    rw (c.ok_or.ensures.value, found, c.get-number.ensures.value) (row_by m c.args.ceremony)

pub returns-clause-row : goal.returns-clause-row
returns-clause-row g c clean accepted had = search (rules, held_in, found_of_history, returns-clause-rows g c)

use Rattle.kcr_store.proofs.{Common.rules, Common.was_clean, ByRows.begun_had, WholeLemmas.read_back, WholeLemmas.undone_outside}
use Rattle.kcr_store.proofs.transaction.run_query.Goals as goal

pub returns-clause-rows : goal.returns-clause-rows
returns-clause-rows g c clean m had = search (rules, was_clean, begun_had)

pub returns-clause-survives : goal.returns-clause-survives
returns-clause-survives g c = search (rules, undone_outside)

pub returns-clause-frame : goal.returns-clause-frame
returns-clause-frame g c =
    let left = read_back g.S.Store c.args.conn.now c.rollback.new.self.0 c.read-answer.ensures.frame c.transaction-tx.ensures.begun
    c.rollback.ensures.survives c.rollback.ensures.undone c.rollback.ensures.ended in
    search rules

pub returns-clause-answer : goal.returns-clause-answer
returns-clause-answer g c accepted was clean =
    let said = rw c.transaction-tx.ensures.begun at c.read-answer.ensures.answer in
    said (was_clean _ _ _ c.rollback.ensures.survives (search rules)) accepted (λ live. (was.shows ((returns-clause-frame g c).clean clean) live).now)

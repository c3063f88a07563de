use Rattle.kcr_store.proofs.{Common.rules, Common.was_clean, RowLemmas.reverted, RowLemmas.within}
use Rattle.kcr_store.proofs.WholeLemmas.{synced_back, undone_outside}
use Rattle.kcr_store.proofs.open.read_count.Goals as goal

pub returns-clause-answer : goal.returns-clause-answer
returns-clause-answer g c clean = let said = rw c.transaction-tx.ensures.begun at c.count_in-count.ensures.answer in search (rules, was_clean, said)

pub returns-clause-count : goal.returns-clause-count
returns-clause-count g c clean accepted shows =
    let said = rw c.transaction-tx.ensures.begun at c.count_in-count.ensures.count in
    said (was_clean _ _ _ c.rollback.ensures.survives (search rules)) accepted (λ live. (shows live).now)

pub returns-clause-shows : goal.returns-clause-shows
returns-clause-shows g c clean accepted shows =
    let w = within g.S.Store c.args.conn.now c.count_in-count.ensures.frame c.transaction-tx.ensures.begun in
    let back = synced_back w (reverted _ _ c.rollback.ensures.survives c.rollback.ensures.undone (search rules)) (λ _. shows) in
    search rules

pub returns-clause-frame : goal.returns-clause-frame
returns-clause-frame g c = search (rules, undone_outside)

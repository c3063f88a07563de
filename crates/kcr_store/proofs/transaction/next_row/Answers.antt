use Rattle.kcr_store.proofs.{Common.rules, Common.was_clean, ByRows.begun_had, WholeLemmas.read_back}
use Rattle.kcr_store.proofs.transaction.next_row.Goals as goal

pub returns-clause-rows : goal.returns-clause-rows
returns-clause-rows g c clean m had = search (rules, was_clean, begun_had)

pub returns-clause-frame : goal.returns-clause-frame
returns-clause-frame g c =
    let left = read_back g.S.Store c.args.conn.now c.rollback.new.self.0 c.next-row.ensures.frame.within c.transaction-tx.ensures.begun
    c.rollback.ensures.survives c.rollback.ensures.undone c.rollback.ensures.ended in
    search rules

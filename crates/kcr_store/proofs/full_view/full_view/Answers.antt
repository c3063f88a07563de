use Rattle.kcr_store.proofs.Common.{rules, held_of, was_clean, IfOk-weaker, IsListed}
use Rattle.kcr_store.proofs.{StoreLemmas.listed, WholeLemmas.of_durable, WholeLemmas.read_back}
use Rattle.kcr_store.proofs.full_view.full_view.Goals as goal

pub returns-clause-rows : goal.returns-clause-rows
returns-clause-rows g c clean m held =
    let said = rw c.transaction-tx.ensures.begun at c.read_full_view-view.ensures.rows in
    IfOk-weaker c.read_full_view-view.result _ _ (λ view. listed held.tables.kept held.tables.stands)
    (said (was_clean _ _ _ c.rollback.ensures.survives (search rules)) _ (held_of m _ held))

pub returns-clause-frame : goal.returns-clause-frame
returns-clause-frame g c =
    let left = read_back g.S.Store c.args.conn.now c.rollback.new.self.0 c.read_full_view-view.ensures.frame.within c.transaction-tx.ensures.begun
    c.rollback.ensures.survives c.rollback.ensures.undone c.rollback.ensures.ended in
    search rules

pub returns-clause-register : goal.returns-clause-register
returns-clause-register g c =
    let opened = rw c.transaction-tx.ensures.begun at c.read_full_view-view.ensures.opened in
    of_durable IsListed (returns-clause-frame g c) (returns-clause-rows g c)
    (λ clean. opened (was_clean _ _ _ c.rollback.ensures.survives (search rules)))

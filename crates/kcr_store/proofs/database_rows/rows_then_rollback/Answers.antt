use Rattle.kcr_store.proofs.{Common.rules, WholeLemmas.undone_outside}
use Rattle.kcr_store.proofs.database_rows.rows_then_rollback.Goals as goal

pub returns-clause-frame : goal.returns-clause-frame
returns-clause-frame g c =
    let left = undone_outside g.S.Store c.args.conn.now _ c.transaction-tx.ensures.begun _ c.rows_as-rows.ensures.frame.survives
    c.rollback.new.self.0 c.rollback.ensures.survives c.rollback.ensures.ended in
    search rules

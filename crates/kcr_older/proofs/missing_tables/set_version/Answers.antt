use Rattle.kcr_older.proofs.{Common.state, Common.on_ok_then, Update.sets}
use Rattle.kcr_older.proofs.missing_tables.set_version.Goals as goal

pub returns-clause-holds : goal.returns-clause-holds
returns-clause-holds g c clean number t one held =
    let old = state g.S.Store c.args.tx.now.conn.now in
    let new = state g.S.Store c.run_statement.new.tx.conn.now in
    on_ok_then _ _ (λ h. sets number old new h.0 t one held h.1) c.run_statement.result (c.run_statement.ensures.runs clean)

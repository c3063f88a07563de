use Rattle.kcr_older.proofs.Common.{state, on_ok_then, withdrawals, makes_withdrawals}
use Rattle.kcr_older.proofs.Grown.{creates_over}
use Rattle.kcr_older.proofs.missing_tables.create_withdrawals.Goals as goal

pub returns-clause-gains : goal.returns-clause-gains
returns-clause-gains g c clean has =
    let old = state g.S.Store c.args.tx.now.conn.now in
    let new = state g.S.Store c.run_statement.new.tx.conn.now in
    on_ok_then _ _ (λ h. creates_over 16 withdrawals makes_withdrawals old new h.0 has h.1) c.run_statement.result (rw c.create_table_sql-text.ensures at (c.run_statement.ensures.runs clean))

use Rattle.kcr_tables.proofs.Common.{ap, length, state, params_are, on_ok_then}
use Rattle.kcr_tables.proofs.StatementLemmas.{row_put, put_holds}
use Rattle.kcr_tables.proofs.table.insert_row.Goals as goal

pub returns-clause-holds : goal.returns-clause-holds
returns-clause-holds g c clean t held =
    let T = g.T.TableRow.table in
    let row_of = g.T.FromRow.row_of in
    let x = c.args.row.now in
    let old = state g.S.Store c.args.tx.now.conn.now in
    let new = state g.S.Store c.run_statement.new.tx.conn.now in
    let params = params_are _ _ _ _ _ c.values-values.ensures (ap length c.kinds.ensures.kinds) c.requires.cells in
    on_ok_then _ _ (λ h.
    let it = row_put c.args.sql.now T.place row_of x old new h.0 held.schema h.1 c.requires.inserts in
    put_holds T row_of g.T.FromRow.is_read g.met.T.TableRow.table_laws x c.requires.stored old new it t held) c.run_statement.result
    (rw params at (c.run_statement.ensures.runs clean))

use Rattle.kcr_tables.proofs.Common.{rules, ◌≡◌, ap, length, subst, state, params_are, on_ok_then, Updated, row_changed, changes_then, clean_before}
use Rattle.kcr_tables.proofs.{Common.register_schema, StatementLemmas.row_put, StatementLemmas.row_updated, StatementLemmas.put_holds}
use Rattle.kcr_tables.proofs.table.update_or_insert_row.Goals as goal

pub returns-then-branch-eq0-clause-holds : goal.returns-then-branch-eq0-clause-holds
returns-then-branch-eq0-clause-holds g c clean t held =
    let T = g.T.TableRow.table in
    let row_of = g.T.FromRow.row_of in
    let x = c.args.row.now in
    let params = params_are _ _ _ _ _ c.values-values.ensures (ap length c.kinds.ensures.kinds) c.requires.cells in
    let old = state g.S.Store c.args.tx.now.conn.now in
    let mid = state g.S.Store c.execute.new.tx.conn.now in
    let new = state g.S.Store c.run_statement.new.tx.conn.now in
    let tried = rw params at (c.in_ok-execute.ensures.runs (clean_before c.run_statement.ensures.frame clean)) in
    let is = row_updated c.args.update_sql.now T.place row_of x old mid c.in_ok-execute.field-0 held.schema tried c.requires.updates in
    let none : c.in_ok-execute.field-0 ≡ 0 = search rules in
    let stays = subst (Updated T.place register_schema (row_of x) old.now.trees mid.now.trees) none is.1 in
    on_ok_then _ _ (λ h.
    let it = row_put c.args.insert_sql.now T.place row_of x mid new h.0 is.0 h.1 c.requires.inserts in
    let put = changes_then T.place register_schema (row_of x) old.now.trees mid.now.trees new.now.trees stays it.1 in
    put_holds T row_of g.T.FromRow.is_read g.met.T.TableRow.table_laws x c.requires.stored old new (it.0, put) t held) c.run_statement.result
    (rw params at (c.run_statement.ensures.runs clean))

pub returns-else-branch-eq0-clause-holds : goal.returns-else-branch-eq0-clause-holds
returns-else-branch-eq0-clause-holds g c clean t held =
    let T = g.T.TableRow.table in
    let row_of = g.T.FromRow.row_of in
    let x = c.args.row.now in
    let count = c.in_ok-execute.field-0 in
    let old = state g.S.Store c.args.tx.now.conn.now in
    let new = state g.S.Store c.execute.new.tx.conn.now in
    let params = params_are _ _ _ _ _ c.values-values.ensures (ap length c.kinds.ensures.kinds) c.requires.cells in
    let ran = rw params at (c.in_ok-execute.ensures.runs clean) in
    let is = row_updated c.args.update_sql.now T.place row_of x old new count held.schema ran c.requires.updates in
    put_holds T row_of g.T.FromRow.is_read g.met.T.TableRow.table_laws x c.requires.stored old new
    (is.0, row_changed T.place register_schema (row_of x) old.now.trees new.now.trees count (search rules) is.1) t held

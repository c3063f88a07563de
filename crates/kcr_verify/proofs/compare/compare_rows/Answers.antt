use Rattle.kcr_verify.proofs.{Common.IfOk-weaker, Common.tables, FirstRowLemmas.compared_rows}
use Rattle.kcr_verify.proofs.compare.compare_rows.Goals as goal

pub returns-clause-rows : goal.returns-clause-rows
returns-clause-rows g c clean A at =
    let table = g.R.TableRow.table in
    let own = (c.in_ok-own.ensures.shown clean A at).1 in
    IfOk-weaker c.first_row.result _ _
    (compared_rows table g.R.Columns.kinds g.R.FromRow.row_of g.R.FromRow.is_read g.met.R.TableRow.table_laws (tables A) _ c.args.rows.now
    (rw c.deref.ensures.value own))
    c.first_row.ensures.row

pub returns-clause-register : goal.returns-clause-register
returns-clause-register g c clean A at =
    IfOk-weaker c.first_row.result _ _ (λ found _. (c.in_ok-own.ensures.shown clean A at).0) c.first_row.ensures.row

use Rattle.kcr_reading.proofs.Common.{state, if_both, is_plain, register_schema, reads_by}
use Rattle.sqlite.specs.Values.{bound}
use Rattle.kcr_reading.proofs.FirstLemmas.{shown_first}
use Rattle.kcr_reading.proofs.seek.first_rows.Goals as goal

pub returns-clause-rows : goal.returns-clause-rows
returns-clause-rows g c count choice shows clean t held =
    let T = g.T.TableRow.table in
    let laws = g.met.T.TableRow.table_laws in
    let old = state g.S.Store c.args.tx.now.conn.now in
    let new = state g.S.Store c.query_rows.new.tx.conn.now in
    if_both _ _ _ (λ all shown read.
    shown_first count c.args.sql.now T.place (bound c.args.params.now) choice shows g.T.FromRow.row_of g.T.FromRow.is_read T.is_stored laws.one_value old new all.items
    held.schema shown read (T.rows_in t) (laws.stores old.now.trees t held.kept) (laws.keeps old.now.trees t held.kept))
    c.query_rows.result (c.query_rows.ensures.shown clean) c.query_rows.ensures.read

pub returns-clause-frame : goal.returns-clause-frame
returns-clause-frame g c count choice shows =
    let did = c.query_rows.ensures in
    reads_by c.args.sql.now (is_plain register_schema c.args.sql.now _ shows.means) did.same did.frame

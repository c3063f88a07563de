use Rattle.kcr_tables.proofs.Common.{state, HasCleanDisk, if_both, if_ok}
use Rattle.kcr_tables.proofs.{FrameLemmas.reads_by, QueryLemmas.changes_nothing, QueryLemmas.rows_told, QueryLemmas.values_told}
use Rattle.kcr_tables.proofs.table.shown_rows.Goals as goal

pub returns : goal.returns
returns g c q text params =
    let T = g.T.TableRow.table in
    let row_of = g.T.FromRow.row_of in
    let laws = g.met.T.TableRow.table_laws in
    let old = state g.S.Store c.args.tx.now.conn.now in
    let new = state g.S.Store c.query_rows.new.tx.conn.now in
    let did = c.query_rows.ensures in
    let shown = λ (clean : HasCleanDisk new). rw (text, params) at (did.shown clean) in record {
      rows = λ clean t held. if_both _ _ _ (λ all h read.
          values_told row_of q.sql T.place q.params q.passes g.T.FromRow.is_read T.is_stored laws.one_value q.test q.same q.which q.selects old new all.items
          (T.rows_in t) held.schema h read (laws.stores old.now.trees t held.kept) (laws.keeps old.now.trees t held.kept))
          c.query_rows.result (shown clean) did.read;
      exact = λ clean has. if_ok _ _ (λ all h. rows_told row_of q.sql T.place q.params q.passes q.which q.selects old new all.items has h)
          c.query_rows.result (shown clean);
      opened = did.opened;
      frame = reads_by q.sql (changes_nothing row_of q.sql T.place q.params q.passes q.which q.selects)
          (rw text at did.same) did.frame;
    }

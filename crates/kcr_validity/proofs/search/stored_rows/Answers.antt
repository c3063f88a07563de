use Rattle.std.proofs.Common.{true, [], map, subst, IsPermutation}
use Rattle.kcr_rows.proofs.{FailLemmas.if_ok, TextLemmas.is_plain, TableLemmas.filter_every}
use Rattle.kcr_tables.specs.{Schema.register_schema, Exact.rows_at}
use Rattle.kcr_tables.proofs.{FrameLemmas.reads_by, StatementLemmas.every_row}
use Rattle.sqlite.specs.Held.{state}
use Rattle.kcr_validity.specs.Stored.{cells_of}
use Rattle.kcr_validity.proofs.search.stored_rows.Goals as goal

pub returns : goal.returns
returns g c =
    let T = g.T.TableRow.table in
    let lists = g.met.T.TableRow.table_laws.lists in
    let old = state g.S.Store c.args.tx.now.conn.now in
    let new = state g.S.Store c.query_rows.new.tx.conn.now in
    let did = rw c.select_all_sql.ensures at c.query_rows.ensures in
    record {
      rows = λ clean has. if_ok _ _ (λ all h.
          subst (λ l. IsPermutation l (map cells_of all.items)) (filter_every (rows_at T.place old.now.trees))
          (every_row T.all_sql T.place [] (λ _. true) lists cells_of old new all.items has h)) c.query_rows.result (did.shown clean);
      frame = reads_by T.all_sql (is_plain register_schema T.all_sql _ lists.means) did.same did.frame;
    }

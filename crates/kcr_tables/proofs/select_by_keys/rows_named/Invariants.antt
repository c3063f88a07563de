use Rattle.kcr_tables.proofs.Common.{◌≡◌, Ok, take, filter, IsPermutation, state, HasCleanDisk, is_under_any, rows_at, has_key, Reads}
use Rattle.kcr_tables.proofs.{Common.register_schema, Common.StoredTables, Common.Holds, ExactLemmas.EachAreShown}
use Rattle.kcr_tables.proofs.select_by_keys.rows_named.Given as goal

abbrev pub invariant-loop-at : goal.invariant-loop-at
invariant-loop-at g l =
    let old = state g.S.Store l.fn.tx.conn.now in
    let now = state g.S.Store l.tx.conn.now in record {
      frame : Reads {A = Unit {0}} g.S.Store l.fn.tx l.tx (Ok tt);
      rows : HasCleanDisk now → (t : StoredTables) → Holds old.now t
          → IsPermutation (filter (is_under_any g.T.LookupBy.lookup_spec.is_under (take l.at l.keys)) (g.T.TableRow.table.rows_in t)) l.rows.items;
      exact : HasCleanDisk now → old.now.schema ≡ register_schema
          → EachAreShown g.T.FromRow.row_of (has_key g.T.LookupBy.lookup_spec.column g.K.AsCell.value_of) (rows_at g.T.TableRow.table.place old.now.trees) l.rows.items
          (take l.at l.keys);
    }

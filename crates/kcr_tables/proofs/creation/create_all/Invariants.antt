use Rattle.kcr_tables.proofs.Common.{◌≡◌, ◌<◌, Ok, state, HasCleanDisk, IsSound, IsFault, StaysInTransaction, schema_prefix, HasEmptyTables}
use Rattle.kcr_tables.proofs.creation.create_all.Given as goal

abbrev pub invariant-loop-at : goal.invariant-loop-at
invariant-loop-at g l =
    let old = state g.S.Store l.fn.tx.conn.now in
    let now = state g.S.Store l.tx.conn.now in record {
      frame : StaysInTransaction {A = Unit {0}} g.S.Store IsFault l.fn.tx l.tx (Ok tt);
      built : HasCleanDisk now → old.now.schema ≡ schema_prefix 0 → HasEmptyTables l.at now.now
          × (0 < l.at → IsSound (schema_prefix l.at) now.now.trees);
    }

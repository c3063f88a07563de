use Rattle.kcr_tables.proofs.Common.{◌≡◌, Ok, take, filter, state, HasCleanDisk, Reads, stay_reaches, stay_row, rows_at, is_stay_row, AreShown}
use Rattle.kcr_tables.proofs.Common.{register_schema, stays_place, StoredTables, Holds}
use Rattle.kcr_tables.proofs.StayLemmas.{Gathered}
use Rattle.kcr_tables.proofs.select_stays.stays_and_last.Given as goal

abbrev pub invariant-loop-who : goal.invariant-loop-who
invariant-loop-who g l =
    let old = state g.S.Store l.fn.tx.conn.now in
    let now = state g.S.Store l.tx.conn.now in record {
      frame : Reads {A = Unit {0}} g.S.Store l.fn.tx l.tx (Ok tt);
      rows : HasCleanDisk now → (t : StoredTables) → Holds old.now t → Gathered (stay_reaches l.asked.ceremony l.asked.at) (take l.who-index l.people) t.rows.stays l.rows.items;
      exact : HasCleanDisk now → old.now.schema ≡ register_schema
          → AreShown stay_row l.rows.items (filter (is_stay_row l.asked) (rows_at stays_place old.now.trees));
    }

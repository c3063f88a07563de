use Rattle.kcr_reading.proofs.Common.{◌≡◌, ◌++◌, Ok, state, HasCleanDisk, Reads, HoldsTables}
use Rattle.kcr_history.specs.Tables as machine
use Rattle.kcr_reading.proofs.remaining.remaining_rows.Given as goal

-- the rows so far, and those that are left, are all
abbrev pub invariant-loop : goal.invariant-loop
invariant-loop g l =
    let old = state g.S.Store l.fn.tx.conn.now in
    let now = state g.S.Store l.tx.conn.now in record {
      frame : Reads {A = Unit {0}} g.S.Store l.fn.tx l.tx (Ok tt);
      rows : HasCleanDisk now → (m : machine.Tables) → HoldsTables m old.now
          → l.rows.items ++ g.R.Cursor.to_come l.left m ≡ g.R.Cursor.to_come l.fn.reading m;
    }

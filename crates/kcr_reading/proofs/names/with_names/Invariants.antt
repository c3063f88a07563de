use Rattle.kcr_reading.proofs.Common.{◌≡◌, Ok, map, take, state, HasCleanDisk, Reads, HoldsTables}
use Rattle.kcr_history.specs.Tables as machine
use Rattle.kcr_reading.proofs.names.with_names.Given as goal

-- the rows so far have their names
abbrev pub invariant-loop-row : goal.invariant-loop-row
invariant-loop-row g l =
    let old = state g.S.Store l.fn.tx.conn.now in
    let now = state g.S.Store l.tx.conn.now in record {
      frame : Reads {A = Unit {0}} g.S.Store l.fn.tx l.tx (Ok tt);
      names : HasCleanDisk now → (m : machine.Tables) → HoldsTables m old.now → l.all.items ≡ map (g.T.NamesPerson.named m.people) (take l.row-index l.rows);
    }

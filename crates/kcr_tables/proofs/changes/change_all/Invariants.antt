use Rattle.kcr_tables.proofs.Common.{Ok, take, IsFault, StaysInTransaction, ChangesTables, changed_all}
use Rattle.kcr_tables.proofs.changes.change_all.Given as goal

abbrev pub invariant-loop-change : goal.invariant-loop-change
invariant-loop-change g l =
    record {
      frame : StaysInTransaction {A = Unit {0}} g.S.Store IsFault l.fn.tx l.tx (Ok tt);
      built : ChangesTables {A = Unit {0}} g.S.Store l.fn.tx l.tx (Ok tt) (changed_all (take l.change-index l.changes));
    }

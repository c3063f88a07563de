use Rattle.kcr_verify.proofs.Common.{Ok}
use Rattle.kcr_tables.specs.Frame.{Reads}
use Rattle.kcr_verify.proofs.invalid.search_tables.Given as goal

abbrev pub invariant-loop-table : goal.invariant-loop-table
invariant-loop-table g l = Reads {A = Unit {0}} g.S.Store l.fn.tx l.tx (Ok tt)

use Rattle.std.proofs.Common.{zero}
use Rattle.kcr_edges.proofs.Waits.{none_offered, read_before, read_after}
use Rattle.kcr_edges.proofs.patience.TimedWriterWrite.write.Goals as goal

pub returns-in_err-began-clause-waits : goal.returns-in_err-began-clause-waits
returns-in_err-began-clause-waits g c = (zero, none_offered c.passed.result _ _ _ c.in_err-began.was c.passed.ensures)

pub returns-in_err-count-clause-waits : goal.returns-in_err-count-clause-waits
returns-in_err-count-clause-waits g c = (_, read_before c.passed.result _ _ _ _ c.passed.ensures c.write_after.ensures.waits)

pub returns-in_err-passed-clause-waits : goal.returns-in_err-passed-clause-waits
returns-in_err-passed-clause-waits g c =
    (_, read_after c.passed-2.result _ _ _ _ (read_before c.passed.result _ _ _ _ c.passed.ensures c.write_after.ensures.waits) c.passed-2.ensures)

pub returns-clause-waits : goal.returns-clause-waits
returns-clause-waits g c =
    (_, read_after c.passed-2.result _ _ _ _ (read_before c.passed.result _ _ _ _ c.passed.ensures c.write_after.ensures.waits) c.passed-2.ensures)

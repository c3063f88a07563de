use Rattle.kcr_verify.proofs.Common.{rules}
use Rattle.kcr_tables.proofs.FrameLemmas.{fails_as, reads_none, reads_on, reads_to}
use Rattle.kcr_verify.proofs.invalid.search_tables.Goals as goal

pub loop-table-init : goal.loop-table-init
loop-table-init g c = reads_none c.args.tx.now tt (search rules)

pub loop-table-preserved : goal.loop-table-preserved
loop-table-preserved g c = reads_to tt (reads_on c.loop-table.invariant c.in_ok-found.ensures.frame)

pub returns-in_err-found-clause-frame : goal.returns-in_err-found-clause-frame
returns-in_err-found-clause-frame g c =
    reads_on c.loop-table.invariant (fails_as c.from_residual.ensures.1 c.in_err-found.ensures.frame)

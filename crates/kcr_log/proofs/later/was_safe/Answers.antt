use Rattle.std.proofs.Common.{sym, arith}
use Rattle.kcr_log.proofs.Safe.{none-safe}
use Rattle.kcr_log.proofs.later.was_safe.Goals as goal

pub returns-then-i-count : goal.returns-then-i-count
returns-then-i-count c =
    sym (none-safe c.args.header.now c.args.log.now c.args.i (omega (arith, c.count.ensures, c.if-i-count.true)))

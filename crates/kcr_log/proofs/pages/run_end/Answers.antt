use Rattle.std.proofs.Common.{arith}
use Rattle.kcr_log.proofs.Judging.{not-there}
use Rattle.kcr_log.proofs.pages.run_end.Goals as goal

pub returns-clause-run : goal.returns-clause-run
returns-clause-run c = record {
  some = omega arith;
  carried = λ i low high. c.loop-i.invariant i low (omega arith);
  stop = not-there c.args.header.now c.args.log.now c.count-count.result (omega arith);
}

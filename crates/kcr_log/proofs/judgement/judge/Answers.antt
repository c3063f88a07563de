use Rattle.kcr_log.proofs.Refuting.{sound-short}
use Rattle.kcr_log.proofs.judgement.judge.Goals as goal

pub returns-then-log-lt56-clause-judged : goal.returns-then-log-lt56-clause-judged
returns-then-log-lt56-clause-judged c = sound-short c.args.file.now c.args.log.now c.if-log-lt56.true

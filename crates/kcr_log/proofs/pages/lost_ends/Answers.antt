use Rattle.std.proofs.Common.{arith}
use Rattle.kcr_log.specs.Pages.{by_second}
use Rattle.kcr_log.proofs.Runs.{few-lost}
use Rattle.kcr_log.proofs.pages.lost_ends.Goals as goal

pub returns-then-count-lt2 : goal.returns-then-count-lt2
returns-then-count-lt2 c =
    few-lost (by_second c.args.told.now c.args.log.now) c.args.file.now c.args.log.now (omega (arith, c.count.ensures, c.if-count-lt2.true))

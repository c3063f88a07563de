use Rattle.std.proofs.Common.{◌≡◌, ◌+◌, suc, arith, ap}
use Rattle.kcr_log.specs.Frames.{start_of}
use Rattle.kcr_log.proofs.frames.Header.start_of.Goals as goal

pub loop-j-preserved : goal.loop-j-preserved
unfolding start_of
loop-j-preserved c =
    let next : c.loop-j.j + 1 ≡ suc c.loop-j.j = omega arith in grind (arith, ap (start_of c.args.self.now c.args.log.now) next)

use Rattle.std.proofs.Common.{◌≡◌, ◌+◌, ◌-◌, suc, arith}
use Rattle.kcr_log.specs.Frames.{frame_count, begins_in}
use Rattle.kcr_log.proofs.frames.Header.begins_from.Goals as goal

pub loop-i-preserved : goal.loop-i-preserved
unfolding begins_in
loop-i-preserved c =
    let count = frame_count c.args.self.now c.args.log.now in
    let next : count - c.loop-i.i ≡ suc (count - (c.loop-i.i + 1)) = omega (arith, c.count-i-end.ensures) in
    grind (arith, rw next at c.loop-i.invariant)

use Rattle.kcr_history.proofs.Common.{◌≡◌, ◌<◌, length, ap, arith}
use Rattle.kcr_history.proofs.Listed.{first_position, next_position}
use Rattle.kcr_history.proofs.refusals.listed.Goals as goal
use Rattle.kcr_history.proofs.refusals.listed.Goals.{then-i-gt0+in_ok-push_str, else-i-gt0}

pub loop-i-preserved : goal.loop-i-preserved
loop-i-preserved c =
    let same = c.as_slice-seat-items.ensures.value in
    let lt : c.loop-i.i < length c.args.seats = omega (arith, ap length same) in
    let pushed = c.in_ok-push_str-2.ensures.bytes in
    elim c.if-i-gt0.branch [
      | then-i-gt0+in_ok-push_str w ↦
          let step = next_position c.args.seats c.loop-i.i w.if-i-gt0.true lt in
          cc (step, pushed, same, w.in_ok-push_str.ensures.bytes, w.text-is, c.format.ensures.text, c.loop-i.invariant)
      | else-i-gt0 w ↦
          let none : c.loop-i.i ≡ 0 = omega arith in
          let step = first_position c.args.seats c.loop-i.i none lt in
          cc (step, pushed, same, w.text-is, c.format.ensures.text, c.loop-i.invariant)
    ]

use Rattle.kcr_script.proofs.SeatLemmas.{step_none, step_some}
use Rattle.kcr_script.proofs.seats.next_item.Goals as goal

pub returns-in_err-seat : goal.returns-in_err-seat
returns-in_err-seat c = rw c.from_residual.ensures
    (step_none c.args.text.now c.split_item.result.0.now c.split_item.result.1 c.split_item.ensures.free c.split_item.ensures.whole c.in_err-seat.ensures.only)

pub returns : goal.returns
returns c =
    let found = c.in_ok-seat.ensures.found in
    step_some c.args.text.now c.split_item.result.0.now c.split_item.result.1 c.in_ok-seat.seat c.in_ok-seat.count c.split_item.ensures.free c.split_item.ensures.whole found.0 found.1
    c.in_ok-seat.ensures.only

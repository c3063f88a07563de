use Rattle.std.proofs.Common.{◌+◌, arith}
use Rattle.kcr_seats.specs.{Matrix.people_of, Matrix.seats_of, Search.lower_steps}
use Rattle.kcr_seats.proofs.{First.first_more, Turns.in_loop}
use Rattle.kcr_seats.proofs.search.make_first.Goals as goal

pub loop-seat-preserved : goal.loop-seat-preserved
loop-seat-preserved g c = record { first = first_more c.loop-seat.invariant.first c.in_ok-assign_lowest.ensures.lowered; cost = omega arith }

pub returns-in_err-assign_lowest-clause-cost : goal.returns-in_err-assign_lowest-clause-cost
returns-in_err-assign_lowest-clause-cost g c =
    let seats = seats_of c.args.table.now in
    omega (arith, in_loop seats c.loop-seat.seat (1 + lower_steps seats (people_of c.args.table.now)) (omega arith))

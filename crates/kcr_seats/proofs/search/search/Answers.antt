use Rattle.std.proofs.Common.{ap, length, arith, length-append}
use Rattle.kcr_seats.proofs.{Least.least, Turns.in_improve, Turns.in_turn}
use Rattle.kcr_seats.specs.Matrix.{seats_of, people_of}
use Rattle.kcr_seats.proofs.search.search.Goals as goal

pub returns-in-Stuck-clause-answer : goal.returns-in-Stuck-clause-answer
returns-in-Stuck-clause-answer g c =
    let told = rw c.in-Stuck.is at c.in_ok-marked.ensures.tried in
    let e = told.1 in
    least e.seated e.reached e.marks e.stuck (rw c.deref.ensures.value at c.in_ok-marked_seats.ensures.listed)
    (omega (arith, c.loop-root.invariant.seating.each_seat, simp length-append at (ap length c.in_ok-push.ensures.items)))

pub returns-in_err-push-clause-cost : goal.returns-in_err-push-clause-cost
returns-in_err-push-clause-cost g c = omega (arith, in_turn (seats_of c.args.table.now) (people_of c.args.table.now) c.loop-root.root (omega arith))

pub returns-in_err-marked-clause-cost : goal.returns-in_err-marked-clause-cost
returns-in_err-marked-clause-cost g c = omega (arith, in_turn (seats_of c.args.table.now) (people_of c.args.table.now) c.loop-root.root (omega arith))

pub returns-in_err-marked_seats-clause-cost : goal.returns-in_err-marked_seats-clause-cost
returns-in_err-marked_seats-clause-cost g c =
    let told = rw c.in-Stuck.is at c.in_ok-marked.ensures.tried in
    omega (
      arith,
      in_turn (seats_of c.args.table.now) (people_of c.args.table.now) c.loop-root.root (omega arith),
      told.1.marks.table,
      simp length-append at (ap length c.in_ok-push.ensures.items),
      c.loop-root.invariant.seating.each_seat,
      ap length c.deref.ensures.value,
    )

pub returns-in-Stuck-clause-cost : goal.returns-in-Stuck-clause-cost
returns-in-Stuck-clause-cost g c =
    let told = rw c.in-Stuck.is at c.in_ok-marked.ensures.tried in
    omega (
      arith,
      in_turn (seats_of c.args.table.now) (people_of c.args.table.now) c.loop-root.root (omega arith),
      told.1.marks.table,
      simp length-append at (ap length c.in_ok-push.ensures.items),
      c.loop-root.invariant.seating.each_seat,
      ap length c.deref.ensures.value,
    )

pub returns-in_err-make_first-clause-cost : goal.returns-in_err-make_first-clause-cost
returns-in_err-make_first-clause-cost g c = omega (arith, in_improve (seats_of c.args.table.now) (people_of c.args.table.now) c.loop-root.root (omega arith))

pub returns-clause-cost : goal.returns-clause-cost
returns-clause-cost g c = omega (arith, in_improve (seats_of c.args.table.now) (people_of c.args.table.now) c.loop-root.root (omega arith))

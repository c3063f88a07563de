use Rattle.kcr_script.proofs.Common.{List, ◌++◌, length, replicate, Some, None, ap, arith, length-append, length-replicate, Seat, Spells, StandsFor}
use Rattle.kcr_script.proofs.SeatLemmas.{step_front, more_than, on_step, back_step, last_step, stands_are_seats}
use Rattle.kcr_script.proofs.SeatReading.{seats_are}
use Rattle.kcr_script.proofs.seats.read_seats.Goals as goal

pub returns-in_default-clause-only : goal.returns-in_default-clause-only
returns-in_default-clause-only c seats h =
    let b = c.loop-seat.invariant.back seats h.spells in
    absurd (c.in_default.ensures b.0 b.1)

pub returns-then-len-count-gt16-clause-only : goal.returns-then-len-count-gt16-clause-only
returns-then-len-count-gt16-clause-only c seats h =
    let b = c.loop-seat.invariant.back seats h.spells in
    let f = step_front c.loop-seat.rest.now c.in-Some.seat c.in-Some.count c.in-Some.more c.in-Some.ensures b.0 b.1 in
    absurd (omega (arith, h.sixteen, more_than seats c.loop-seat.seats.items b.0 f.0 c.in-Some.seat c.in-Some.count b.2 f.1))

pub loop-seat-preserved : goal.loop-seat-preserved
loop-seat-preserved c =
    let e = c.in_ok-push_seats.ensures in
    let leads = rw c.in-Some-more.is at c.in-Some.ensures in
    record {
      on = on_step _ _ _ _ _ _ e _ c.loop-seat.invariant.on leads;
      back = back_step _ _ _ _ _ _ e _ c.loop-seat.invariant.back leads;
      sixteen = omega (arith, ap length e, length-append {A = Seat}, length-replicate {A = Seat});
    }

pub returns-in-None-clause-only : goal.returns-in-None-clause-only
returns-in-None-clause-only c seats h =
    let last = rw c.in-None.is at c.in-Some.ensures in
    ap (λ (xs : List Seat). Some xs) (last_step _ _ _ _ _ _ c.in_ok-push_seats.ensures c.loop-seat.invariant.back last seats h.spells)

stands : (c : goal.In-None) → StandsFor c.args.text.now c.push_seats.new.seats.items
stands c =
    let e = c.in_ok-push_seats.ensures in
    let last = rw c.in-None.is at c.in-Some.ensures in
    let whole : Spells c.args.text.now (c.loop-seat.seats.items ++ replicate c.in-Some.count c.in-Some.seat) =
    c.loop-seat.invariant.on (replicate c.in-Some.count c.in-Some.seat) last.spells in
    record {
      spells = rw e whole;
      sixteen = omega (arith, ap length e, length-append {A = Seat}, length-replicate {A = Seat});
    }

pub invariant_of-result : goal.invariant_of-result
invariant_of-result c = stands_are_seats c.args.text.now c.push_seats.new.seats.items (stands c)

pub returns-in_default-clause-value : goal.returns-in_default-clause-value
returns-in_default-clause-value c = seats_are c.args.text.now None tt (returns-in_default-clause-only c)

pub returns-then-len-count-gt16-clause-value : goal.returns-then-len-count-gt16-clause-value
returns-then-len-count-gt16-clause-value c = seats_are c.args.text.now None tt (returns-then-len-count-gt16-clause-only c)

pub returns-in-None-clause-value : goal.returns-in-None-clause-value
returns-in-None-clause-value c = seats_are c.args.text.now (Some c.push_seats.new.seats.items) (stands c) (returns-in-None-clause-only c)

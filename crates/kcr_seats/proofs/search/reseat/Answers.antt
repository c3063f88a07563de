use Rattle.std.proofs.Common.{◌+◌, ◌<◌, ◌≤◌, sym, arith, ap, ◌∙◌, length}
use Rattle.std.proofs.lemmas.List.{get_or_read, length-set}
use Rattle.kcr_seats.proofs.SearchLemmas.{way_back, way_same, order_short, placed, read_before, read_inside}
use Rattle.kcr_seats.proofs.Turns.{in_search}
use Rattle.kcr_seats.specs.Matrix.{seats_of}
use Rattle.kcr_seats.proofs.search.reseat.Goals as goal

pub shift-preserved : goal.shift-preserved
shift-preserved g c =
    let way = c.shift.invariant.way in
    let reached = c.in_ok-reached.ensures.reached in
    let long = c.shift.invariant.long ∙ ap length (sym c.deref.ensures.value) in
    let order = c.in_ok-reached.reached.order.items in
    let from = c.in_ok-reached.reached.from.items in
    let seat = get_or_read order c.shift.index c.index-seat.result.now way.inside c.index-seat.ensures 0 in
    let before = get_or_read from c.shift.index c.index-index.result.now (omega (arith, reached.linked, way.inside)) c.index-index.ensures 0 in
    let old = get_or_read c.shift.seating.items c.index-seat.result.now c.index-old.result.now
    (read_inside way reached long c.index-seat.ensures) c.index-old.ensures 0 in
    record {
      cost = omega (arith, before, way.before c.shift.index (omega arith) (omega arith));
      way = way_back way reached long (omega arith) before seat old;
      long = length-set c.shift.seating.items c.index-seat.result.now c.shift.person ∙ c.shift.invariant.long;
      same = λ k l. way_same way reached seat k l ∙ c.shift.invariant.same k l;
    }

pub returns-in_err-reached-clause-cost : goal.returns-in_err-reached-clause-cost
returns-in_err-reached-clause-cost g c =
    let all = in_search c.requires.seated (seats_of c.args.table.now) 0 (let ok = c.args.seating.now.ok in omega arith) (omega arith) in
    omega (arith, rw (← c.deref.ensures.value) at all)

pub returns-in_default-clause-cost : goal.returns-in_default-clause-cost
returns-in_default-clause-cost g c =
    let all = in_search c.requires.seated (seats_of c.args.table.now) (length c.in_ok-reached.reached.order.items)
    (let ok = c.args.seating.now.ok in omega arith) (rw c.deref.ensures.value at (order_short c.in_ok-reached.ensures.reached)) in
    omega (arith, rw (← c.deref.ensures.value) at all, ap length c.deref-2.ensures.value, ap length c.deref-3.ensures.value, ap length c.deref.ensures.value)

pub returns-clause-cost : goal.returns-clause-cost
returns-clause-cost g c =
    let all = in_search c.requires.seated (seats_of c.args.table.now) (length c.in_ok-reached.reached.order.items)
    (let ok = c.args.seating.now.ok in omega arith) (rw c.deref.ensures.value at (order_short c.in_ok-reached.ensures.reached)) in
    let inside : c.in-Some.index < length c.deref-3.result.now = c.in-Some.ensures.index in
    let shifted : c.shift.turns + c.shift.index ≤ c.free_person.new.turns + c.in-Some.index = c.shift.invariant.cost in
    let spent = rw (← c.deref.ensures.value) at all in
    let short = order_short c.in_ok-reached.ensures.reached in
    omega (arith, spent, short, ap length c.deref-2.ensures.value, ap length c.deref-3.ensures.value, ap length c.deref.ensures.value)

pub returns-clause-tried : goal.returns-clause-tried
returns-clause-tried g c =
    placed c.shift.invariant.way (omega arith) c.in_ok-reached.ensures.reached.starts c.requires.fixed c.shift.invariant.long c.shift.invariant.same

pub index-old-requires : goal.index-old-requires
index-old-requires g c =
    let long = c.shift.invariant.long ∙ ap length (sym c.deref.ensures.value) in
    omega (arith, read_inside c.shift.invariant.way c.in_ok-reached.ensures.reached long c.index-seat.ensures)

pub index_mut-requires : goal.index_mut-requires
index_mut-requires g c =
    let long = c.shift.invariant.long ∙ ap length (sym c.deref.ensures.value) in
    omega (arith, read_inside c.shift.invariant.way c.in_ok-reached.ensures.reached long c.index-seat.ensures)

pub shift-smaller : goal.shift-smaller
shift-smaller g c = read_before c.shift.invariant.way c.in_ok-reached.ensures.reached (omega arith) c.index-index.ensures

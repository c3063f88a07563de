use Rattle.std.proofs.Common.{◌+◌, ◌≤◌}
use Rattle.kcr_seats.specs.Search.{IsListed}
use Rattle.kcr_seats.proofs.search.marked_seats.Given as goal

abbrev pub invariant-loop-seat : goal.invariant-loop-seat
invariant-loop-seat g l = record {
  listed : IsListed l.marked l.seat l.seats.items;
  cost : l.turns ≤ l.fn.turns + l.seat;
}

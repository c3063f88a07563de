use Rattle.std.proofs.Common.{◌≢◌, ℕ, ◌<◌, get_or, ◌+◌, ◌≤◌}
use Rattle.kcr_seats.proofs.search.seat_of.Given as goal

abbrev pub invariant-loop-seat : goal.invariant-loop-seat
invariant-loop-seat g l = record {
  none : (k : ℕ) → k < l.seat → get_or l.seating k 0 ≢ l.person;
  cost : l.turns ≤ l.fn.turns + l.seat;
}

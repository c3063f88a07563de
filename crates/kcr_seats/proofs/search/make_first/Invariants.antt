use Rattle.std.proofs.Common.{◌+◌, ◌*◌, ◌≤◌}
use Rattle.kcr_seats.specs.{Search.lower_steps, Matrix.fits_of, Matrix.seats_of, Matrix.people_of}
use Rattle.kcr_seats.proofs.Between.{IsFirstBelow}
use Rattle.kcr_seats.proofs.search.make_first.Given as goal

abbrev pub invariant-loop-seat : goal.invariant-loop-seat
invariant-loop-seat g l = record {
  first : IsFirstBelow (fits_of l.table) (seats_of l.table) (people_of l.table) l.seat l.seating.items;
  cost : l.turns ≤ l.fn.turns + l.seat * (1 + lower_steps (seats_of l.table) (people_of l.table));
}

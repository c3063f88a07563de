use Rattle.std.proofs.Common.{◌+◌, ◌*◌, ◌≤◌}
use Rattle.kcr_seats.specs.{Search.search_steps, Seating.IsSeating, Matrix.fits_of, Matrix.seats_of, Matrix.people_of}
use Rattle.kcr_seats.proofs.search.search.Given as goal

abbrev pub invariant-loop-root : goal.invariant-loop-root
invariant-loop-root g l = record {
  seating : IsSeating (fits_of l.table) l.root (people_of l.table) l.seating.items;
  cost : l.turns ≤ l.fn.turns + l.root * (1 + search_steps (seats_of l.table) (people_of l.table));
}

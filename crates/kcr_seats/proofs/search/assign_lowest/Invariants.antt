use Rattle.std.proofs.Common.{◌≡◌, ℕ, ◌<◌, ◌≤◌, List, get_or, ◌+◌, ◌*◌}
use Rattle.kcr_seats.specs.{Search.search_steps, Seating.IsSeating, Matrix.fits_of, Matrix.seats_of, Matrix.people_of}
use Rattle.kcr_seats.proofs.search.assign_lowest.Given as goal

abbrev pub invariant-loop-person : goal.invariant-loop-person
invariant-loop-person g l = record {
  same : l.seating.items ≡ l.initial.seating.items;
  reached : (v : List ℕ) → IsSeating (fits_of l.table) (seats_of l.table) (people_of l.table) v
      → ((k : ℕ) → k < l.seat → get_or v k 0 ≡ get_or l.initial.seating.items k 0) → l.person ≤ get_or v l.seat 0;
  cost : l.turns ≤ l.fn.turns + l.person * (1 + seats_of l.table + search_steps (seats_of l.table) (people_of l.table));
}

use Rattle.std.proofs.Common.{◌≡◌, ℕ, ◌+◌, ◌<◌, ◌≤◌, length, get_or}
use Rattle.kcr_seats.proofs.Between.{IsAlternatingPath}
use Rattle.kcr_seats.specs.Matrix.{fits_of, people_of}
use Rattle.kcr_seats.proofs.search.reseat.Given as goal

abbrev pub invariant-shift : goal.invariant-shift
invariant-shift g l = record {
  way : IsAlternatingPath (fits_of l.table) (people_of l.table) l.root l.index l.person l.seating.items l.order.items l.from.items;
  long : length l.seating.items ≡ length l.initial.seating.items;
  same : (k : ℕ) → k < l.fixed → get_or l.seating.items k 0 ≡ get_or l.initial.seating.items k 0;
  cost : l.turns + l.index ≤ l.initial.turns + l.initial.index;
}

abbrev pub decreases-shift : goal.decreases-shift
decreases-shift g l = l.index

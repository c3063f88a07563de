use Rattle.std.proofs.Common.{◌≡◌, ℕ, ◌+◌, ◌<◌, ◌≤◌, true, get_or}
use Rattle.kcr_seats.specs.{People.contains, Matrix.fits_of}
use Rattle.kcr_seats.proofs.search.free_person.Given as goal

abbrev pub invariant-loop-index : goal.invariant-loop-index
invariant-loop-index g l = record {
  busy : (i person : ℕ) → i < l.index → fits_of l.table (get_or l.order i 0) person ≡ true → contains l.busy person ≡ true;
  cost : l.turns ≤ l.fn.turns + l.index;
}

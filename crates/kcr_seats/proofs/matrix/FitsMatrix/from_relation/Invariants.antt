use Rattle.std.proofs.Common.{◌≡◌, ℕ, ◌+◌, ◌*◌, ◌<◌, ◌≤◌, true, length, get_or}
use Rattle.kcr_seats.specs.People.{contains, nobody}
use Rattle.kcr_seats.proofs.matrix.FitsMatrix.from_relation.Given as goal

abbrev pub invariant-loop-seat : goal.invariant-loop-seat
invariant-loop-seat g l = record {
  long : length l.rows.items ≡ l.seat;
  in_range : (i person : ℕ) → i < l.seat → contains (get_or l.rows.items i nobody) person ≡ true → person < g.F.Fits.person_count l.fits;
  each : (i person : ℕ) → i < l.seat → person < g.F.Fits.person_count l.fits
      → contains (get_or l.rows.items i nobody) person ≡ g.F.Fits.relation l.fits i person;
  all : l.steps.all ≤ l.fn.steps.all + l.seat * (1 + 2 * g.F.Fits.person_count l.fits);
  fits_calls : l.steps.fits_calls ≤ l.fn.steps.fits_calls + l.seat * g.F.Fits.person_count l.fits;
}

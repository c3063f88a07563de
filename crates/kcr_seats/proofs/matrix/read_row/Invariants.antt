use Rattle.std.proofs.Common.{◌≡◌, ℕ, ◌+◌, ◌*◌, ◌<◌, true}
use Rattle.kcr_seats.specs.People.{contains}
use Rattle.kcr_seats.proofs.matrix.read_row.Given as goal

abbrev pub invariant-loop-person : goal.invariant-loop-person
invariant-loop-person g l = record {
  in_range : (person : ℕ) → contains l.row person ≡ true → person < l.person;
  each : (person : ℕ) → person < l.person → contains l.row person ≡ g.F.Fits.relation l.fits l.seat person;
  all : l.steps.all ≡ l.fn.steps.all + 2 * l.person;
  fits_calls : l.steps.fits_calls ≡ l.fn.steps.fits_calls + l.person;
}

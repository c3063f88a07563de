use Rattle.std.proofs.Common.{◌≡◌, ◌≤◌}
use Rattle.kcr_seats.specs.Seating.{can_take, count_below}
use Rattle.kcr_seats.proofs.check.able_count.Given as goal

abbrev pub invariant-loop-person : goal.invariant-loop-person
invariant-loop-person g l = (l.count ≡ count_below (can_take (g.F.Fits.relation l.fits) l.seats) l.person) × (l.count ≤ l.person)

use Rattle.kcr_seats.proofs.Between.{IsGoodBelow}
use Rattle.kcr_seats.proofs.check.is_seating.Given as goal

abbrev pub invariant-loop-seat : goal.invariant-loop-seat
invariant-loop-seat g l = IsGoodBelow (g.F.Fits.relation l.fits) (g.F.Fits.person_count l.fits) l.seat l.seating

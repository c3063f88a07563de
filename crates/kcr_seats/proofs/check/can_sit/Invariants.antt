use Rattle.std.proofs.Common.{◌≡◌, ℕ, ◌<◌, false, get_or}
use Rattle.kcr_seats.proofs.check.can_sit.Given as goal

abbrev pub invariant-loop-index : goal.invariant-loop-index
invariant-loop-index g l = (k : ℕ) → k < l.index → g.F.Fits.relation l.fits (get_or l.seats k 0) l.person ≡ false

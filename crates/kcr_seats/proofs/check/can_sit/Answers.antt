use Rattle.std.proofs.Common.{sym, arith}
use Rattle.kcr_seats.proofs.SearchLemmas.{can_take_none}
use Rattle.kcr_seats.proofs.check.can_sit.Goals as goal

pub returns : goal.returns
returns g c = sym (can_take_none (g.F.Fits.relation c.args.fits.now) c.args.seats.now c.args.person (λ i l. c.loop-index.invariant i (omega arith)))

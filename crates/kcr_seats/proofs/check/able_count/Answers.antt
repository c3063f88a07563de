use Rattle.std.proofs.{Common.sym, Common.arith, lemmas.Bool.Decides.nat_tests}
use Rattle.kcr_seats.specs.Seating.{can_take}
use Rattle.kcr_seats.proofs.{Counting.count_none, Counting.count_next, check.able_count.Goals.then-can_sit, check.able_count.Goals.else-can_sit}
use Rattle.kcr_seats.proofs.check.able_count.Goals as goal

pub loop-person-init : goal.loop-person-init
loop-person-init g c = (sym (count_none (can_take (g.F.Fits.relation c.args.fits.now) c.args.seats.now)), omega arith)

pub loop-person-preserved : goal.loop-person-preserved
loop-person-preserved g c =
    let next = count_next (can_take (g.F.Fits.relation c.args.fits.now) c.args.seats.now) c.loop-person.person in
    elim c.if-can_sit.branch [ then-can_sit w ↦ (grind (arith, nat_tests), omega arith) | else-can_sit w ↦ (grind (arith, nat_tests), omega arith) ]

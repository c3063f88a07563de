use Rattle.std.proofs.{Common.ap, Common.arith, lemmas.Result.IfOk-weaker}
use Rattle.kcr_seats.proofs.{Agree.answer_taken, Turns.in_all}
use Rattle.kcr_seats.proofs.seat.Goals as goal

pub returns-clause-answer : goal.returns-clause-answer
returns-clause-answer g c = IfOk-weaker c.search.result _ _ (answer_taken c.in_ok-table.table c.in_ok-table.ensures.table) c.search.ensures.answer

pub returns-clause-all : goal.returns-clause-all
returns-clause-all g c =
    let table = c.in_ok-table.ensures.table in
    let searched = rw (table.seats_are, table.people_are) at c.search.ensures.cost in
    let before = ap (λ x. x.all) c.steps.view_is in
    let bound = in_all (g.F.Fits.seat_count c.args.fits.now) (g.F.Fits.person_count c.args.fits.now) in
    let taken = c.from_relation.ensures.all in
    omega arith

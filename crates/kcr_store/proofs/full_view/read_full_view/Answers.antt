use Rattle.kcr_store.proofs.Common.{rules, fails_as, reads_to}
use Rattle.kcr_store.proofs.full_view.read_full_view.Goals as goal

pub returns-clause-rows : goal.returns-clause-rows
returns-clause-rows g c clean t held = let (ones, others) = c.in_ok-people.ensures.rows clean t held in search rules

pub returns-in_err-people-clause-frame : goal.returns-in_err-people-clause-frame
returns-in_err-people-clause-frame g c = fails_as c.from_residual.ensures.1 c.in_err-people.ensures.frame

pub returns-clause-frame : goal.returns-clause-frame
returns-clause-frame g c = reads_to tt c.in_ok-people.ensures.frame

use Rattle.kcr_store.proofs.Common.{rules, fails_as, reads_on, reads_to, clean_before}
use Rattle.kcr_store.proofs.full_view.Tuple2ReadAll.read_all.Goals as goal

pub returns-clause-rows : goal.returns-clause-rows
returns-clause-rows g c clean t held = search (rules, clean_before)

pub returns-clause-opened : goal.returns-clause-opened
returns-clause-opened g c clean = c.in_ok-ones.ensures.opened (clean_before c.in_ok-others.ensures.frame.within clean)

pub returns-in_err-ones-clause-frame : goal.returns-in_err-ones-clause-frame
returns-in_err-ones-clause-frame g c = search (rules, fails_as)

pub returns-in_err-others-clause-frame : goal.returns-in_err-others-clause-frame
returns-in_err-others-clause-frame g c = search (rules, reads_on, fails_as)

pub returns-clause-frame : goal.returns-clause-frame
returns-clause-frame g c = reads_to tt (reads_on c.in_ok-ones.ensures.frame c.in_ok-others.ensures.frame)

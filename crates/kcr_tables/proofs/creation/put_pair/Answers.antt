use Rattle.kcr_tables.proofs.Common.{within_then, clean_before}
use Rattle.kcr_tables.proofs.creation.put_pair.Goals as goal

pub returns-clause-holds : goal.returns-clause-holds
returns-clause-holds g c clean t held =
    c.put-2.ensures.holds clean _ (c.in_ok-put.ensures.holds (clean_before c.put-2.ensures.frame clean) t held)

pub returns-clause-frame : goal.returns-clause-frame
returns-clause-frame g c = within_then c.in_ok-put.ensures.frame c.put-2.ensures.frame

use Rattle.kcr_tables.proofs.Common.{rules, clean_before}
use Rattle.kcr_tables.proofs.FrameLemmas.{reads_on, fails_as, reads_to, clean_on, read_later}
use Rattle.kcr_tables.proofs.view.custody_rows.Goals as goal

pub returns-in_err-boxes-clause-frame : goal.returns-in_err-boxes-clause-frame
returns-in_err-boxes-clause-frame g c = search (rules, reads_on, fails_as)

pub returns-in_err-safes-clause-frame : goal.returns-in_err-safes-clause-frame
returns-in_err-safes-clause-frame g c = search (rules, reads_on, fails_as)

pub returns-in_err-bags-clause-frame : goal.returns-in_err-bags-clause-frame
returns-in_err-bags-clause-frame g c = search (rules, reads_on, fails_as)

pub returns-in_err-items-clause-frame : goal.returns-in_err-items-clause-frame
returns-in_err-items-clause-frame g c = search (rules, reads_on, fails_as)

pub returns : goal.returns
returns g c = record {
  boxes = λ clean t held. search (rules, reads_on, clean_before, clean_on);
  safes = λ clean t held. search (rules, reads_on, clean_before, clean_on);
  bags = λ clean t held. search (rules, reads_on, clean_before, clean_on);
  items = λ clean t held. search (rules, reads_on, clean_before, clean_on);
  exact = λ clean has. search (rules, read_later, reads_on, clean_before, clean_on);
  frame = reads_to tt (reads_on c.in_ok-boxes.ensures.frame
      (reads_on c.in_ok-safes.ensures.frame (reads_on c.in_ok-bags.ensures.frame c.in_ok-items.ensures.frame)));
}

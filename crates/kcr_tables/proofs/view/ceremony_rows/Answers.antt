use Rattle.kcr_tables.proofs.Common.{rules, clean_before}
use Rattle.kcr_tables.proofs.FrameLemmas.{reads_on, fails_as, reads_to, clean_on, read_later}
use Rattle.kcr_tables.proofs.view.ceremony_rows.Goals as goal

pub returns-in_err-ceremonies-clause-frame : goal.returns-in_err-ceremonies-clause-frame
returns-in_err-ceremonies-clause-frame g c = search (rules, reads_on, fails_as)

pub returns-in_err-marks-clause-frame : goal.returns-in_err-marks-clause-frame
returns-in_err-marks-clause-frame g c = search (rules, reads_on, fails_as)

pub returns-in_err-script-clause-frame : goal.returns-in_err-script-clause-frame
returns-in_err-script-clause-frame g c = search (rules, reads_on, fails_as)

pub returns-in_err-exceptions-clause-frame : goal.returns-in_err-exceptions-clause-frame
returns-in_err-exceptions-clause-frame g c = search (rules, reads_on, fails_as)

pub returns : goal.returns
returns g c = record {
  ceremonies = λ clean t held. search (rules, reads_on, clean_before, clean_on);
  marks = λ clean t held. search (rules, reads_on, clean_before, clean_on);
  steps = λ clean t held. search (rules, reads_on, clean_before, clean_on);
  exceptions = λ clean t held. search (rules, reads_on, clean_before, clean_on);
  exact = λ clean has. search (rules, read_later, reads_on, clean_before, clean_on);
  frame = reads_to tt (reads_on c.in_ok-ceremonies.ensures.frame
      (reads_on c.in_ok-marks.ensures.frame (reads_on c.in_ok-script.ensures.frame c.in_ok-exceptions.ensures.frame)));
}

use Rattle.kcr_tables.proofs.Common.{rules, clean_before}
use Rattle.kcr_tables.proofs.FrameLemmas.{reads_on, fails_as, reads_to, clean_on, read_later}
use Rattle.kcr_tables.proofs.view.staff_rows.Goals as goal

pub returns-in_err-trainings-clause-frame : goal.returns-in_err-trainings-clause-frame
returns-in_err-trainings-clause-frame g c = search (rules, reads_on, fails_as)

pub returns-in_err-withdrawals-clause-frame : goal.returns-in_err-withdrawals-clause-frame
returns-in_err-withdrawals-clause-frame g c = search (rules, reads_on, fails_as)

pub returns-in_err-appointments-clause-frame : goal.returns-in_err-appointments-clause-frame
returns-in_err-appointments-clause-frame g c = search (rules, reads_on, fails_as)

pub returns : goal.returns
returns g c = record {
  trainings = λ clean t held. search (rules, reads_on, clean_before, clean_on);
  withdrawals = λ clean t held. search (rules, reads_on, clean_before, clean_on);
  appointments = λ clean t held. search (rules, reads_on, clean_before, clean_on);
  exact = λ clean has. search (rules, read_later, reads_on, clean_before, clean_on);
  frame = reads_to tt (reads_on c.in_ok-trainings.ensures.frame (reads_on c.in_ok-withdrawals.ensures.frame c.in_ok-appointments.ensures.frame));
}

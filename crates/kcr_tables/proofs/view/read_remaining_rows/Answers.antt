use Rattle.kcr_tables.proofs.Common.{refl, rules, state, is_training_asked, is_withdrawal_of, clean_before}
use Rattle.kcr_tables.proofs.{AppointmentLemmas.appointments_shown, HoldLemmas.held_of, ViewLemmas.shows_on, ViewLemmas.asked_shows}
use Rattle.kcr_tables.proofs.FrameLemmas.{reads_on, fails_as, reads_to, clean_on, read_later}
use Rattle.kcr_tables.proofs.StayLemmas.{stays_shown, entries_shown, apart_of}
use Rattle.kcr_tables.proofs.view.read_remaining_rows.Goals as goal

pub returns-in_err-staff-clause-frame : goal.returns-in_err-staff-clause-frame
returns-in_err-staff-clause-frame g c = search (rules, fails_as)

pub returns-in_err-stays-clause-frame : goal.returns-in_err-stays-clause-frame
returns-in_err-stays-clause-frame g c = search (rules, reads_on, fails_as)

pub returns-in_err-entries-clause-frame : goal.returns-in_err-entries-clause-frame
returns-in_err-entries-clause-frame g c = search (rules, reads_on, fails_as)

pub returns : goal.returns
returns g c = record {
  view = λ clean m h front.
      let asks = c.args.asks.now in
      let s = h.tables.stands.rows in
      let held = held_of m (state g.S.Store c.args.tx.now.conn.now).now h in
      let apart = apart_of h.tables.t.rows.stays h.tables.kept.stays.rising in record {
        people = front.people;
        trainings = shows_on is_training_asked asks.trainings _ _ _ s.trainings (search (rules, reads_on, clean_before, clean_on));
        withdrawals = asked_shows is_withdrawal_of asks.withdrawals _ _ _ s.withdrawals (search (rules, reads_on, clean_before, clean_on));
        appointments = appointments_shown asks.appointments _ _ _ s.appointments (search (rules, reads_on, clean_before, clean_on));
        boxes = front.boxes;
        safes = front.safes;
        bags = front.bags;
        items = front.items;
        ceremonies = front.ceremonies;
        marks = front.marks;
        steps = front.steps;
        exceptions = front.exceptions;
        stays = stays_shown asks.stays _ _ _ apart s.stays (search (rules, reads_on, clean_before, clean_on));
        entries = entries_shown asks.stay_count _ _ _ s.stays (search (rules, reads_on, clean_before, clean_on));
      };
  completes = refl;
  exact = λ clean has front. search (rules, read_later, reads_on, clean_before, clean_on);
  frame = reads_to tt (reads_on c.in_ok-staff.ensures.frame (reads_on c.in_ok-stays.ensures.frame c.in_ok-entries.ensures.frame));
}

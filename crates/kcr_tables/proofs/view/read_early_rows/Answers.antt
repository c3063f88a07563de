use Rattle.kcr_tables.proofs.Common.{rules, state, is_of_people, is_of_serial, is_item_of, is_of_number, is_mark_of, is_exception_of, clean_before}
use Rattle.kcr_tables.proofs.FrameLemmas.{reads_on, fails_as, reads_to, clean_on, read_later}
use Rattle.kcr_tables.proofs.{HoldLemmas.held_of, ScriptLemmas.steps_on, ViewLemmas.shows_on, ViewLemmas.asked_shows, ViewLemmas.all_shows}
use Rattle.kcr_tables.proofs.view.read_early_rows.Goals as goal

pub returns-in_err-people-clause-frame : goal.returns-in_err-people-clause-frame
returns-in_err-people-clause-frame g c = search (rules, fails_as)

pub returns-in_err-custody-clause-frame : goal.returns-in_err-custody-clause-frame
returns-in_err-custody-clause-frame g c = search (rules, reads_on, fails_as)

pub returns-in_err-ceremony-clause-frame : goal.returns-in_err-ceremony-clause-frame
returns-in_err-ceremony-clause-frame g c = search (rules, reads_on, fails_as)

pub returns : goal.returns
returns g c = record {
  view = λ clean m h.
      let asks = c.args.asks.now in
      let s = h.tables.stands.rows in
      let held = held_of m (state g.S.Store c.args.tx.now.conn.now).now h in record {
        people = shows_on is_of_people asks.people _ _ _ s.people (search (rules, reads_on, clean_before, clean_on));
        trainings = tt;
        withdrawals = tt;
        appointments = tt;
        boxes = all_shows asks.boxes _ _ _ s.boxes (search (rules, reads_on, clean_before, clean_on));
        safes = all_shows asks.safes _ _ _ s.safes (search (rules, reads_on, clean_before, clean_on));
        bags = asked_shows is_of_serial asks.bags _ _ _ s.bags (search (rules, reads_on, clean_before, clean_on));
        items = shows_on is_item_of asks.items _ _ _ s.items (search (rules, reads_on, clean_before, clean_on));
        ceremonies = asked_shows is_of_number asks.ceremonies _ _ _ s.ceremonies (search (rules, reads_on, clean_before, clean_on));
        marks = asked_shows is_mark_of asks.marks _ _ _ s.marks (search (rules, reads_on, clean_before, clean_on));
        steps = steps_on asks.steps _ _ _ _ _ _ s.seatings s.steps (search (rules, reads_on, clean_before, clean_on));
        exceptions = asked_shows is_exception_of asks.exceptions _ _ _ s.exceptions (search (rules, reads_on, clean_before, clean_on));
        stays = tt;
        entries = tt;
      };
  exact = λ clean has. search (rules, read_later, reads_on, clean_before, clean_on);
  frame = reads_to tt (reads_on c.in_ok-people.ensures.frame (reads_on c.in_ok-custody.ensures.frame c.in_ok-ceremony.ensures.frame));
}

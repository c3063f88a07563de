use Rattle.kcr_tables.proofs.Common.{rules, arith, ◌≡◌, ◌+◌, ◌++◌, ◌∷◌, [], ◌∙◌, List, ℕ, take, subst, take_all, take_more, stay_reaches}
use Rattle.kcr_tables.proofs.{Common.clean_before, ExactLemmas.are_shown, ExactLemmas.shown_left}
use Rattle.kcr_tables.proofs.FrameLemmas.{reads_to, reads_on, fails_as}
use Rattle.kcr_tables.proofs.StayLemmas.{Gathered, room_gathered, more_gathered, gathered_shows, apart_of}
use Rattle.kcr_tables.proofs.select_stays.stays_and_last.Goals as goal

pub loop-who-init : goal.loop-who-init
loop-who-init g c = search (rules, reads_to, room_gathered, are_shown)

pub loop-who-preserved : goal.loop-who-preserved
loop-who-preserved g c =
    let had = c.loop-who.invariant in
    let step = c.in_ok-last.ensures in record {
      frame = reads_to tt (reads_on had.frame step.frame);
      rows = λ clean t held.
          let before = clean_before step.frame.within clean in
          let i = c.loop-who.who-index in
          let people = c.as_slice-people.result.now in
          let who = c.who-item.result in
          let last = step.rows clean t (had.frame.holds before t held) in
          let more : take (i + 1) people ≡ take i people ++ who ∷ [] = search (rules, take_more) in
          rw (more, c.in_ok-append.ensures.items)
          (more_gathered (stay_reaches c.args.asked.now.ceremony c.args.asked.now.at) (take i people) t.rows.stays c.loop-who.rows.items last.0
          c.in_ok-last.last.items who (had.rows before t held) last.1 last.2);
      exact = λ clean has. search (rules, shown_left, clean_before);
    }

pub returns-clause-rows : goal.returns-clause-rows
returns-clause-rows g c clean t held =
    let people = c.as_slice-people.result.now in
    gathered_shows c.args.asked.now t.rows.stays c.loop-who.rows.items (apart_of t.rows.stays held.kept.stays.rising)
    (subst (λ (ks : List (List ℕ)). Gathered (stay_reaches c.args.asked.now.ceremony c.args.asked.now.at) ks t.rows.stays c.loop-who.rows.items)
    (take_all c.loop-who.who-index people (omega arith) ∙ c.as_slice-people.ensures) (c.loop-who.invariant.rows clean t held))

pub returns-in_err-last-clause-frame : goal.returns-in_err-last-clause-frame
returns-in_err-last-clause-frame g c = search (rules, reads_on, fails_as)

pub returns-in_err-append-clause-frame : goal.returns-in_err-append-clause-frame
returns-in_err-append-clause-frame g c = search (rules, reads_to, reads_on)

pub returns-clause-frame : goal.returns-clause-frame
returns-clause-frame g c = reads_to tt c.loop-who.invariant.frame

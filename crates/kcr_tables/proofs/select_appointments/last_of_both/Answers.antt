use Rattle.kcr_tables.proofs.{Common.rules, Common.map-append, Common.clean_before, AppointmentLemmas.both_shown, FrameLemmas.read_later}
use Rattle.kcr_history.specs.declared.views.AppointmentFilter.TheVariants as Wanted
use Rattle.kcr_tables.proofs.select_appointments.last_of_both.Goals as goal

pub returns-clause-rows : goal.returns-clause-rows
returns-clause-rows g c clean t held =
    let to = c.in_ok-rows.ensures in
    let before = clean_before c.in_ok-behind.ensures.frame.within clean in
    rw c.in_ok-append.ensures.items
    (both_shown c.args.place c.args.who.now t.rows.appointments c.in_ok-rows.rows.items c.in_ok-behind.behind.items (to.rows before t held)
    (c.in_ok-behind.ensures.rows clean t (to.frame.holds before t held)))

pub returns-clause-exact : goal.returns-clause-exact
returns-clause-exact g c clean has = search (rules, clean_before, map-append, read_later)

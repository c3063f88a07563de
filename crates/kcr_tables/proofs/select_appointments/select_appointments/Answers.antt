use Rattle.kcr_tables.proofs.{Common.rules, Common.IncludesAppointments, Common.if_ok, ExactLemmas.are_shown, QueryLemmas.if_asked}
use Rattle.kcr_history.specs.declared.views.AppointmentFilter.TheVariants as Wanted
use Rattle.kcr_tables.proofs.AppointmentLemmas.{last_shown, beyond_shown}
use Rattle.kcr_tables.proofs.select_appointments.select_appointments.Goals as goal

pub returns-in-Matching-Place-clause-rows : goal.returns-in-Matching-Place-clause-rows
returns-in-Matching-Place-clause-rows g c clean t held =
    if_asked (λ q all. IncludesAppointments q t.rows.appointments all.items) (Wanted.Place c.in-Matching-Place.place) c.in-Matching-Place.is (search rules)
    (λ all. last_shown _ t.rows.appointments all.items) c.last_appointment_to.result (c.last_appointment_to.ensures.rows clean t held)

pub returns-in-Matching-Person-clause-rows : goal.returns-in-Matching-Person-clause-rows
returns-in-Matching-Person-clause-rows g c clean t held =
    if_asked (λ q all. IncludesAppointments q t.rows.appointments all.items) (Wanted.Person c.in-Matching-Person.who) c.in-Matching-Person.is (search rules)
    (λ all. last_shown _ t.rows.appointments all.items) c.last_appointment_of.result (c.last_appointment_of.ensures.rows clean t held)

pub returns-in-Matching-EndingAfter-clause-rows : goal.returns-in-Matching-EndingAfter-clause-rows
returns-in-Matching-EndingAfter-clause-rows g c clean t held = search (rules, if_asked, beyond_shown)

pub returns-in-Matching-EndingAfter-clause-exact : goal.returns-in-Matching-EndingAfter-clause-exact
returns-in-Matching-EndingAfter-clause-exact g c clean has = search (rules, if_asked, are_shown)

pub returns-in-All-clause-exact : goal.returns-in-All-clause-exact
returns-in-All-clause-exact g c clean has = search (rules, if_ok, are_shown)

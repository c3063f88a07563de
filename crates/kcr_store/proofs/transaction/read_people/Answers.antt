use Rattle.kcr_store.proofs.Common.{rules, ◌∙◌, [], held_of, kept_rises, tables, clean_before, within_fails, within_then, within_to}
use Rattle.kcr_store.proofs.{ShownLemmas.people_of_history, ShownLemmas.people_shown, StoreLemmas.held_in}
use Rattle.kcr_store.proofs.transaction.read_people.Goals as goal

pub returns-clause-rows : goal.returns-clause-rows
returns-clause-rows g c clean m had =
    let clean2 = clean_before c.in_ok-withdrawals.ensures.frame.within clean in
    let clean1 = clean_before c.in_ok-trainings.ensures.frame.within clean2 in
    let was = had (c.in_ok-people.ensures.opened clean1) in
    let t = was.tables.t in
    let held = held_of m _ was in
    let held1 = c.in_ok-people.ensures.frame.holds clean1 t held in
    let held2 = c.in_ok-trainings.ensures.frame.holds clean2 t held1 in
    let trainings = c.in_ok-trainings.ensures.rows clean2 t held1 in
    let withdrawals = c.in_ok-withdrawals.ensures.rows clean t held2 in
    people_shown m t.rows was.tables.stands.rows (kept_rises _ _ was.tables.kept) c.in_ok-people_shown.field-0.items
    (c.in_ok-people_shown.ensures.people ∙ c.in_ok-people.ensures.rows clean1 _ held)
    (rw (c.deref.ensures.value ∙ trainings, c.deref-2.ensures.value ∙ withdrawals) at c.in_ok-people_shown.ensures.roles)

pub returns-clause-shown : goal.returns-clause-shown
returns-clause-shown g c clean accepted had = search (rules, held_in, people_of_history, returns-clause-rows g c)

pub returns-clause-by_rows : goal.returns-clause-by_rows
returns-clause-by_rows g c =
    let roles = rw (c.deref.ensures.value, c.deref-2.ensures.value) at c.in_ok-people_shown.ensures.roles in (
      record (tables []) {
        people = c.in_ok-people.people.items;
        trainings = c.in_ok-trainings.trainings.items;
        withdrawals = c.in_ok-withdrawals.withdrawals.items;
      },
      record { people = c.in_ok-people_shown.ensures.people; each = roles },
    )

pub returns-clause-frame : goal.returns-clause-frame
returns-clause-frame g c = search (rules, within_to, within_then)

pub returns-in_err-trainings-clause-frame : goal.returns-in_err-trainings-clause-frame
returns-in_err-trainings-clause-frame g c = search (rules, within_then, within_fails)

pub returns-in_err-withdrawals-clause-frame : goal.returns-in_err-withdrawals-clause-frame
returns-in_err-withdrawals-clause-frame g c = search (rules, within_then, within_fails)

use Rattle.kcr_store.proofs.Common.{rules, [], ◌∷◌, ap, refl, is_some, tables, ceremony_row, clean_before, within_fails}
use Rattle.kcr_store.proofs.{Common.within_then, Common.within_to, Common.held_of, StoreLemmas.held_in}
use Rattle.kcr_store.proofs.QuestionLemmas.{one_planned, present_rows, room_of_history}
use Rattle.kcr_store.proofs.transaction.read_room.Goals as goal

pub returns-clause-rows : goal.returns-clause-rows
returns-clause-rows g c clean m had =
    let clean1 = clean_before c.in_ok-stays.ensures.frame.within clean in
    let found = c.in_ok-find_ceremony.ensures in
    let held = found.tables clean1 m (had (found.opened clean1)) in
    let rows = c.in_ok-stays.ensures.rows clean held.tables.t (held_of m _ held) in
    let present = present_rows c.get-number.result c.args.at m.stays held.tables.t.rows.stays
    c.in_ok-stays.stays.items held.tables.stands.rows.stays rows in
    let people = rw (c.deref.ensures.value, present, c.get-number.ensures.value) at c.in_ok-people.ensures in
    record { planned = ap is_some (found.rows clean1 m had); at = refl; people = people }

pub returns-clause-shown : goal.returns-clause-shown
returns-clause-shown g c clean accepted had = search (rules, held_in, room_of_history, returns-clause-rows g c)

pub returns-clause-by_rows : goal.returns-clause-by_rows
returns-clause-by_rows g c =
    let people = rw (c.deref.ensures.value, c.get-number.ensures.value) at c.in_ok-people.ensures in (
      record (tables []) { ceremonies = ceremony_row [] c.args.ceremony ∷ []; stays = c.in_ok-stays.stays.items },
      record { planned = one_planned c.args.ceremony; at = refl; people = people },
    )

pub returns-clause-frame : goal.returns-clause-frame
returns-clause-frame g c = within_to _ tt (within_then c.in_ok-find_ceremony.ensures.frame c.in_ok-stays.ensures.frame.within)

pub returns-in_err-stays-clause-frame : goal.returns-in_err-stays-clause-frame
returns-in_err-stays-clause-frame g c = search (rules, within_then, within_fails)

use Rattle.kcr_reading.proofs.Common.{◌∷◌, [], map, subst, IfOk, Row, state, Shown, if_ok, seating_row, held_of, is_plain, register_schema, reads_by}
use Rattle.kcr_reading.proofs.CeremonyLemmas.{seatings_text, seatings_shown, seated}
use Rattle.kcr_reading.proofs.steps.seatings_within.Goals as goal

pub returns-clause-people : goal.returns-clause-people
returns-clause-people g c clean m h =
    let old = state g.S.Store c.args.tx.now.conn.now in
    let new = state g.S.Store c.query_rows.new.tx.conn.now in
    let shown = subst (λ (v : Row). IfOk c.query_rows.result (λ rows. Shown seatings_text v old new (map seating_row rows.items)))
    (λ i. c.number_cell.ensures i ∷ c.past_cell.ensures i ∷ c.past_cell-2.ensures i ∷ []) (c.query_rows.ensures.shown clean) in
    if_ok _ _ (λ rows is. seated c.args.ceremony c.args.from c.args.until old new rows.items m h.tables.t (held_of m old.now h) h.tables.stands is)
    c.query_rows.result shown

pub returns-clause-frame : goal.returns-clause-frame
returns-clause-frame g c =
    let did = c.query_rows.ensures in
    reads_by seatings_text (is_plain register_schema seatings_text _ (seatings_shown c.args.ceremony c.args.from c.args.until).means) did.same did.frame

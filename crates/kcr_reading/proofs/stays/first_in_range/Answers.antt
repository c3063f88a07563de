use Rattle.kcr_reading.proofs.Common.{◌∷◌, [], arith, ◌∙◌, ap, Text}
use Rattle.kcr_reading.proofs.ChoiceLemmas.{shown_by, by_tables}
use Rattle.kcr_reading.proofs.StayLemmas.{shows_together, shows_later, first_together, first_later}
use Rattle.kcr_reading.proofs.stays.first_in_range.Goals as goal

pub returns-in-SameStart-clause-first : goal.returns-in-SameStart-clause-first
returns-in-SameStart-clause-first g c =
    let last = c.in-SameStart.last in
    let shown = shown_by (shows_together c.args.ceremony last) (λ i. c.number_cell.ensures i ∷ c.number_cell-in-SameStart.ensures i ∷ (c.text_cell.ensures ∙ ap Text c.as_str.ensures.value) i ∷ []) in
    rw c.in-SameStart.is (by_tables c.first_rows.result _ _ (c.first_rows.ensures.rows 16 _ shown)
    (λ m k rows. first_together c.args.ceremony last 16 (omega arith) m k rows.items))

pub returns-in-SameStart-clause-frame : goal.returns-in-SameStart-clause-frame
returns-in-SameStart-clause-frame g c =
    let shown = shown_by (shows_together c.args.ceremony c.in-SameStart.last)
    (λ i. c.number_cell.ensures i ∷ c.number_cell-in-SameStart.ensures i ∷ (c.text_cell.ensures ∙ ap Text c.as_str.ensures.value) i ∷ []) in
    c.first_rows.ensures.frame 16 _ shown

pub returns-in-LaterStart-clause-first : goal.returns-in-LaterStart-clause-first
returns-in-LaterStart-clause-first g c =
    let last = c.in-LaterStart.last in
    let shown = shown_by (shows_later c.args.ceremony last) (λ i. c.number_cell-in-LaterStart.ensures i ∷ c.past_moment.ensures i ∷ []) in
    rw c.in-LaterStart.is (by_tables c.first_rows-in-LaterStart.result _ _ (c.first_rows-in-LaterStart.ensures.rows 16 _ shown)
    (λ m k rows. first_later c.args.ceremony last 16 (omega arith) m k rows.items))

pub returns-in-LaterStart-clause-frame : goal.returns-in-LaterStart-clause-frame
returns-in-LaterStart-clause-frame g c =
    let shown = shown_by (shows_later c.args.ceremony c.in-LaterStart.last) (λ i. c.number_cell-in-LaterStart.ensures i ∷ c.past_moment.ensures i ∷ []) in
    c.first_rows-in-LaterStart.ensures.frame 16 _ shown

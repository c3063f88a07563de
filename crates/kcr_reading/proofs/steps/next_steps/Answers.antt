use Rattle.kcr_reading.proofs.Common.{◌∷◌, [], ◌∙◌, ◌-◌, List, length, slice_get, ap, rules, arith, option_copied, StepRow, fails_as, reads_to}
use Rattle.kcr_reading.proofs.{Common.held_of, ChoiceLemmas.shown_by, steps.next_steps.Goals.in-Some, steps.next_steps.Goals.in_default}
use Rattle.kcr_reading.proofs.CeremonyLemmas.{steps_shown, next_steps, steps_within}
use Rattle.kcr_reading.proofs.steps.next_steps.Goals as goal

pub returns-in_err-rows-clause-frame : goal.returns-in_err-rows-clause-frame
returns-in_err-rows-clause-frame g c =
    let shown = shown_by (steps_shown c.args.ceremony c.args.last.now) (λ i. c.number_cell.ensures i ∷ c.past_cell.ensures i ∷ []) in
    fails_as c.from_residual.ensures.1 (c.in_err-rows.ensures.frame 16 _ shown)

pub returns-clause-gives : goal.returns-clause-gives
returns-clause-gives g c clean m h =
    let shown = shown_by (steps_shown c.args.ceremony c.args.last.now) (λ i. c.number_cell.ensures i ∷ c.past_cell.ensures i ∷ []) in
    let ends = c.last.ensures.value ∙ ap (λ (l : List StepRow). slice_get l (length l - 1)) c.deref.ensures.value in
    let next = next_steps c.args.ceremony c.args.last.now m h.tables c.in_ok-rows.rows.items (option_copied c.last.result) ends 16
    (c.in_ok-rows.ensures.rows 16 _ shown clean h.tables.t (held_of m _ h)) (omega arith) in
    elim c.match-last.branch [ in-Some w ↦ search (rules, next) | in_default w ↦ search (rules, next) ]

pub returns-clause-within : goal.returns-clause-within
returns-clause-within g c clean m h =
    let shown = shown_by (steps_shown c.args.ceremony c.args.last.now) (λ i. c.number_cell.ensures i ∷ c.past_cell.ensures i ∷ []) in
    let ends = c.last.ensures.value ∙ ap (λ (l : List StepRow). slice_get l (length l - 1)) c.deref.ensures.value in
    let within = steps_within c.args.ceremony c.args.last.now m h.tables c.in_ok-rows.rows.items (option_copied c.last.result) ends 16
    (c.in_ok-rows.ensures.rows 16 _ shown clean h.tables.t (held_of m _ h)) in
    elim c.match-last.branch [ in-Some w ↦ search (rules, within) | in_default w ↦ search (rules, within) ]

pub returns-clause-frame : goal.returns-clause-frame
returns-clause-frame g c =
    let shown = shown_by (steps_shown c.args.ceremony c.args.last.now) (λ i. c.number_cell.ensures i ∷ c.past_cell.ensures i ∷ []) in
    reads_to tt (c.in_ok-rows.ensures.frame 16 _ shown)

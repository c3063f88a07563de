use Rattle.kcr_reading.proofs.Common.{◌∷◌, [], rules, fails_as, reads_to, held_of}
use Rattle.kcr_reading.proofs.{ChoiceLemmas.shown_by, CeremonyLemmas.exceptions_shown, CeremonyLemmas.next_exception}
use Rattle.kcr_reading.proofs.exceptions.next_exception.Goals as goal
use Rattle.kcr_reading.proofs.exceptions.next_exception.Goals.{in-Some, in_default}

pub returns-clause-gives : goal.returns-clause-gives
returns-clause-gives g c clean m h =
    let shown = shown_by (exceptions_shown c.args.ceremony c.args.last.now) (λ i. c.number_cell.ensures i ∷ c.past_cell.ensures i ∷ []) in
    let next = next_exception c.args.ceremony c.args.last.now m h.tables c.in_ok-found.found
    (c.in_ok-found.ensures.row _ shown clean h.tables.t (held_of m _ h)) in
    elim c.match-found.branch [ in-Some w ↦ search (rules, next) | in_default w ↦ search (rules, next) ]

pub returns-in_err-found-clause-frame : goal.returns-in_err-found-clause-frame
returns-in_err-found-clause-frame g c =
    let shown = shown_by (exceptions_shown c.args.ceremony c.args.last.now) (λ i. c.number_cell.ensures i ∷ c.past_cell.ensures i ∷ []) in
    fails_as c.from_residual.ensures.1 (c.in_err-found.ensures.frame _ shown)

pub returns-clause-frame : goal.returns-clause-frame
returns-clause-frame g c =
    let shown = shown_by (exceptions_shown c.args.ceremony c.args.last.now) (λ i. c.number_cell.ensures i ∷ c.past_cell.ensures i ∷ []) in
    reads_to tt (c.in_ok-found.ensures.frame _ shown)

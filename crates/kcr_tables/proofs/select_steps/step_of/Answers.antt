use Rattle.kcr_tables.proofs.Common.{rules, ◌≡◌, [], ◌∷◌, refl, step_asked, clean_before}
use Rattle.kcr_tables.proofs.{ExactLemmas.are_shown, ScriptLemmas.step_told, Queries.last_seating, Queries.row_of_step}
use Rattle.kcr_tables.proofs.FrameLemmas.{fails_as, read_later, reads_on, reads_to}
use Rattle.kcr_tables.proofs.select_steps.step_of.Goals as goal

pub returns-in_err-seatings-clause-frame : goal.returns-in_err-seatings-clause-frame
returns-in_err-seatings-clause-frame g c =
    fails_as c.from_residual.ensures.1 (c.in_err-seatings.ensures (last_seating c.args.asked.now.ceremony) refl (λ i. c.number_cell.ensures i ∷ [])).frame

pub returns-in_default-clause-frame : goal.returns-in_default-clause-frame
returns-in_default-clause-frame g c =
    reads_to (search rules) (c.in_ok-seatings.ensures (last_seating c.args.asked.now.ceremony) refl (λ i. c.number_cell.ensures i ∷ [])).frame

pub returns-in_err-steps-clause-frame : goal.returns-in_err-steps-clause-frame
returns-in_err-steps-clause-frame g c =
    let ceremony = c.args.asked.now.ceremony in
    reads_on (c.in_ok-seatings.ensures (last_seating ceremony) refl (λ i. c.number_cell.ensures i ∷ [])).frame
    (fails_as c.from_residual-in_err-steps.ensures.1
    (c.in_err-steps.ensures (row_of_step ceremony c.in-Some.number) refl (λ i. c.number_cell-2.ensures i ∷ c.number_cell-3.ensures i ∷ [])).frame)

pub returns : goal.returns
returns g c =
    let asked = c.args.asked.now in
    let seatings = c.in_ok-seatings.seatings.items in
    let number = c.in-Some.number in
    let is : number ≡ step_asked asked seatings = search rules in
    let last = c.in_ok-seatings.ensures (last_seating asked.ceremony) refl (λ i. c.number_cell.ensures i ∷ []) in
    let found = c.in_ok-steps.ensures (row_of_step asked.ceremony number) refl (λ i. c.number_cell-2.ensures i ∷ c.number_cell-3.ensures i ∷ []) in
    let before = clean_before found.frame.within in record {
      rows = λ clean t held. step_told asked t.rows.seatings seatings t.rows.steps c.in_ok-steps.steps.items number is
          (last.rows (before clean) t held) (found.rows clean t (last.frame.holds (before clean) t held));
      seating = λ clean has. last.exact (before clean) has;
      step = λ clean has. search (rules, read_later, are_shown, clean_before);
      frame = reads_to tt (reads_on last.frame found.frame);
    }

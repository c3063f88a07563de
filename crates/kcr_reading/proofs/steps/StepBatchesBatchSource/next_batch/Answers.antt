use Rattle.kcr_reading.proofs.Common.{◌≡◌, ◌∙◌, [], List, map, sym, ap, eqb-true, nil_from_length, SeatingRow, with_seated, clean_before, with_people}
use Rattle.kcr_reading.proofs.{CeremonyLemmas.people_are, ChoiceLemmas.several_made}
use Rattle.kcr_reading.proofs.steps.StepBatchesBatchSource.next_batch.Goals as goal

pub returns-then-is_empty-clause-gives : goal.returns-then-is_empty-clause-gives
returns-then-is_empty-clause-gives g c clean m live =
    let h = live (c.in_ok-steps.ensures.opened clean) in
    let none : c.in_ok-steps.steps.items ≡ [] =
    nil_from_length _ (sym c.in_ok-steps.steps.ok.0 ∙ eqb-true _ 0 (sym c.is_empty.ensures ∙ c.if-is_empty.true)) in
    several_made (with_seated m.seatings) _ _ _ (c.in_ok-steps.ensures.gives clean m h) _
    (c.new.ensures.items ∙ ap (map (with_seated m.seatings)) (sym none))

pub returns-clause-gives : goal.returns-clause-gives
returns-clause-gives g c clean m live =
    let before = clean_before c.seatings_within.ensures.frame.within clean in
    let h = live (c.in_ok-steps.ensures.opened before) in
    let still = c.in_ok-steps.ensures.frame.tables before m h in
    let steps = c.in_ok-steps.steps.items in
    let given = c.in_ok-steps.ensures.gives before m h in
    let people = people_are c.args.self.now.ceremony c.args.self.now.last c.next_steps.new.last m c.in_ok-rows.rows.items
    (c.in_ok-rows.ensures.people clean m still) steps (c.in_ok-steps.ensures.within before m h) in
    several_made (with_seated m.seatings) _ _ _ given _
    (c.in_ok-with_people.ensures ∙ ap (λ (rows : List SeatingRow). map (with_people rows) steps) c.as_slice.ensures.value ∙ people)

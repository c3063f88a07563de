use Rattle.kcr_reading.proofs.Common.{◌++◌, ◌∙◌, map, ap, filter_every, with_seated, steps_past}
use Rattle.kcr_reading.proofs.steps.StepCursor.new.Goals as goal

pub returns : goal.returns
returns c m =
    (λ i. c.from_source.ensures.ready i ++ steps_past (c.from_source.ensures.source i).last (c.from_source.ensures.source i).ceremony m)
    ∙ ap (map (with_seated m.seatings)) (filter_every _)

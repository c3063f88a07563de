use Rattle.kcr_reading.proofs.Common.{◌++◌, ◌∙◌, map, ap, filter_every, with_name, stays_past}
use Rattle.kcr_reading.proofs.stays.StayCursor.new.Goals as goal

pub returns : goal.returns
returns c m =
    (λ i. c.from_source.ensures.ready i ++ stays_past (c.from_source.ensures.source i).last (c.from_source.ensures.source i).ceremony m)
    ∙ ap (map (with_name m.people)) (filter_every _)

use Rattle.kcr_rules.proofs.Common.{◌≡◌, map, take, trainings_by_person}
use Rattle.kcr_rules.proofs.seating.trainings_of_each.Given as goal

-- what is there is the trainings of the people so far
abbrev pub invariant-loop-who : goal.invariant-loop-who
invariant-loop-who l = map (λ rows. rows.items) l.own.items ≡ trainings_by_person l.trainings (take l.who-index l.people)

use Rattle.kcr_room.proofs.{Common.length, Common.get, Common.same_text, Steps.Told}
use Rattle.kcr_room.proofs.stays.ends_of.Given as goal

abbrev pub invariant-loop-step : goal.invariant-loop-step
invariant-loop-step l = Told l.rows l.initial.steps.items l.steps.items (λ who. get same_text l.next who) l.ends.items

abbrev pub decreases-loop-step : goal.decreases-loop-step
decreases-loop-step l = length l.steps.items

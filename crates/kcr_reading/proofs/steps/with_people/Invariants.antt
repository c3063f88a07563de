use Rattle.kcr_reading.proofs.Common.{◌≡◌, ◌++◌, length, map, into_iter_items, into_iter_len, with_people}
use Rattle.kcr_reading.proofs.steps.with_people.Given as goal

-- the steps so far have their people, and the others are left
abbrev pub invariant-loop-step : goal.invariant-loop-step
invariant-loop-step l = record {
  made : l.all.items ≡ map (with_people l.rows) l.yielded;
  left : l.yielded ++ into_iter_items l.step-iterator ≡ into_iter_items l.initial.step-iterator;
  len : into_iter_len l.step-iterator ≡ length (into_iter_items l.step-iterator);
}

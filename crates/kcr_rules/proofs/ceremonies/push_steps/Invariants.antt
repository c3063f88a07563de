use Rattle.kcr_rules.proofs.Common.{◌≡◌, ◌+◌, ◌++◌, map, drop, PutStep}
use Rattle.kcr_rules.specs.CeremonyRows.{planned_step_rows}
use Rattle.kcr_rules.proofs.ceremonies.push_steps.Given as goal

-- what is there and the rows of the steps that are left are the rows of all; each step has the next number
abbrev pub invariant-loop-step : goal.invariant-loop-step
invariant-loop-step l =
    record {
      rows : l.changes.items ++ map PutStep (planned_step_rows l.ceremony l.number (drop l.step-index l.steps))
          ≡ l.fn.changes.items ++ map PutStep (planned_step_rows l.ceremony 1 l.steps);
      counted : l.number ≡ l.step-index + 1;
    }

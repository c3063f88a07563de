use Rattle.kcr_audit.proofs.Common.{◌≡◌, drop, is_step_wrong}
use Rattle.std.proofs.Common.{find}
use Rattle.kcr_audit.proofs.seating.first_ill_seated.Given as goal

-- none of the steps so far is wrong
abbrev pub invariant-loop-row : goal.invariant-loop-row
invariant-loop-row l = find (is_step_wrong l.view) (drop l.row-index l.view.view.steps.items) ≡ find (is_step_wrong l.view) l.view.view.steps.items

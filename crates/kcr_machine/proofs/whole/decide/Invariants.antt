use Rattle.kcr_machine.proofs.Common.{◌≡◌, drop, row_of_key}
use Rattle.kcr_machine.proofs.whole.decide.Given as goal

-- the row of the key is among those that are left
abbrev pub invariant-loop-row : goal.invariant-loop-row
invariant-loop-row l = row_of_key l.command.key (drop l.row-index l.view.keys.items) ≡ row_of_key l.command.key l.view.keys.items

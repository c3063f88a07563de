use Rattle.kcr_machine.proofs.Common.{◌≡◌, max, drop, greatest_number}
use Rattle.kcr_machine.proofs.whole.greatest_number.Given as goal

-- the greatest so far and of what is left is the greatest
abbrev pub invariant-loop-row : goal.invariant-loop-row
invariant-loop-row l = max l.greatest (greatest_number (drop l.row-index l.rows)) ≡ greatest_number l.rows

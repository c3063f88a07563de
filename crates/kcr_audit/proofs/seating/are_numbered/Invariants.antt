use Rattle.kcr_audit.proofs.Common.{◌≡◌, suc, drop, are_numbered}
use Rattle.kcr_audit.proofs.seating.are_numbered.Given as goal

-- what is left is numbered on if all is numbered from 1
abbrev pub invariant-loop-index : goal.invariant-loop-index
invariant-loop-index l = are_numbered (suc l.index) (drop l.index l.rows) ≡ are_numbered 1 l.rows

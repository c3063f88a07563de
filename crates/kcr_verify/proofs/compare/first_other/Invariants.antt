use Rattle.kcr_verify.proofs.Common.{◌≡◌, take}
use Rattle.kcr_verify.proofs.compare.first_other.Given as goal

abbrev pub invariant-loop-index : goal.invariant-loop-index
invariant-loop-index g l = take l.index l.own ≡ take l.index l.rows

use Rattle.kcr_verify.proofs.Common.{◌≡◌, take, length}
use Rattle.kcr_verify.proofs.compare.same_rows.Given as goal

abbrev pub invariant-loop-index : goal.invariant-loop-index
invariant-loop-index g l = record {
  same : take l.index l.one ≡ take l.index l.other;
  long : length l.one ≡ length l.other;
}

use Rattle.kcr_verify.proofs.Common.{◌≡◌, take, bound, row_text}
use Rattle.kcr_verify.proofs.quoted.joined.Given as goal

abbrev pub invariant-loop-index : goal.invariant-loop-index
invariant-loop-index l = l.line.items ≡ row_text (take l.index l.columns) (bound (take l.index l.values))

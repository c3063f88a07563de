use Rattle.kcr_verify.proofs.Common.{◌≡◌, take, first_cells, row_text}
use Rattle.kcr_verify.proofs.invalid.key_of.Given as goal

abbrev pub invariant-loop-index : goal.invariant-loop-index
invariant-loop-index l = l.line.items ≡ row_text (take l.index l.columns) (first_cells l.index l.row)

use Rattle.std.proofs.Common.{◌≡◌, drop}
use Rattle.kcr_base.specs.Lists.{are_apart}
use Rattle.kcr_base.proofs.lists.are_apart.Given as goal

-- those left are apart if and only if all are
abbrev pub invariant-loop-index : goal.invariant-loop-index
invariant-loop-index g l = are_apart (g.T.ListElement.texts (drop l.index l.list)) ≡ are_apart (g.T.ListElement.texts l.list)

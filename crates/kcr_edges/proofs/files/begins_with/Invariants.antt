use Rattle.std.proofs.Common.{length}
use Rattle.kcr_edges.proofs.files.begins_with.Given as goal

abbrev pub decreases-loop-rest : goal.decreases-loop-rest
decreases-loop-rest l = length l.rest

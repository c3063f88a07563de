use Rattle.kcr_print.proofs.Common.{◌≡◌, ◌≤◌, ◌-◌, length, take, Appends}
use Rattle.kcr_print.proofs.writing.write_whole.Given as goal

abbrev pub invariant-loop-at : goal.invariant-loop-at
invariant-loop-at g l = record {
  within : l.at ≤ length l.piece;
  calm : l.writer.failed.count ≡ l.initial.writer.failed.count;
  written : Appends (g.W.Write.contents l.initial.writer.inner) (g.W.Write.contents l.writer.inner) (take l.at l.piece);
}

abbrev pub decreases-loop-at : goal.decreases-loop-at
decreases-loop-at g l = length l.piece - l.at

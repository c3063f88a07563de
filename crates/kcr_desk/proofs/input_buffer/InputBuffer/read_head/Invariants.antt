use Rattle.kcr_desk.proofs.Common.{◌-◌}
use Rattle.kcr_desk.proofs.TakingLemmas.{TakesSoFar}
use Rattle.kcr_desk.proofs.input_buffer.InputBuffer.read_head.Given as goal

abbrev pub invariant-head : goal.invariant-head
invariant-head g l =
    TakesSoFar g.R.Read.remaining g.W.Write.contents l.initial.self l.self l.initial.reader l.reader l.initial.writer l.writer
    l.initial.queue.items l.queue.items

abbrev pub decreases-head : goal.decreases-head
decreases-head g l = 1000000 - l.self.reads

use Rattle.kcr_desk.proofs.Common.{◌≡◌, ◌-◌, ◌++◌, List, ℕ, unread}
use Rattle.kcr_desk.proofs.TakingLemmas.{TakesSoFar}
use Rattle.kcr_desk.proofs.input_buffer.InputBuffer.read_body.Given as goal

abbrev pub invariant-body : goal.invariant-body
invariant-body g l = record {
  taken : TakesSoFar g.R.Read.remaining g.W.Write.contents l.initial.self l.self l.initial.reader l.reader l.initial.writer l.writer
      l.initial.queue.items l.queue.items;
  grown : (bytes : List ℕ) × (unread l.self ≡ unread l.initial.self ++ bytes);
}

abbrev pub decreases-body : goal.decreases-body
decreases-body g l = 1000000 - l.self.reads

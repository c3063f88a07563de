use Rattle.kcr_desk.proofs.Common.{◌≡◌, ◌≤◌, ◌-◌, ◌+◌, ◌*◌, length, prepend_known, unread}
use Rattle.kcr_desk.proofs.ServeLemmas.{Serving}
use Rattle.kcr_desk.proofs.stream.serve_stream.Given as goal

abbrev pub invariant-messages : goal.invariant-messages
invariant-messages g l = record {
  serving : Serving g.G.Responder.step (g.R.Read.remaining l.initial.reader.inner)
      (prepend_known (unread l.intake) (g.R.Read.remaining l.reader.inner))
      (g.W.Write.contents l.initial.writer.inner) (g.W.Write.contents l.writer.inner) l.queue.items l.initial.responder l.responder l.requests;
  room : l.requests + length (unread l.intake) ≤ 4096 * l.intake.reads;
  calm_reader : l.reader.failed.count ≡ l.initial.reader.failed.count;
  calm_writer : l.writer.failed.count ≡ l.initial.writer.failed.count;
  counted : l.reader.nonempty_reads.count ≡ l.initial.reader.nonempty_reads.count + l.intake.reads;
}

abbrev pub decreases-messages : goal.decreases-messages
decreases-messages g l = 4096000000 - l.requests

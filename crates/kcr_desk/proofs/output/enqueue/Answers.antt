use Rattle.kcr_desk.proofs.{Common.rules, Common.writes_then, WaitingLemmas.gathers_written}
use Rattle.kcr_desk.proofs.output.enqueue.Goals as goal

pub returns-then-piece-gt-OUTPUT_BUFFER_SIZE : goal.returns-then-piece-gt-OUTPUT_BUFFER_SIZE
returns-then-piece-gt-OUTPUT_BUFFER_SIZE g c =
    let before = c.in_ok-flush.ensures.written in
    let written = writes_then c.put.result _ _ _ c.args.queue.now.items c.args.piece.now before.written c.put.ensures.written in
    let gathered = rw (← c.in_ok-flush.ensures.sent) at (gathers_written c.put.result _ _ _ written) in
    search (rules, gathered)

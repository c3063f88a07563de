use Rattle.kcr_desk.proofs.Common.{rules, ◌≡◌, ◌++◌, append_assoc, response_value}
use Rattle.kcr_desk.specs.Texts.{answer}
use Rattle.kcr_desk.proofs.WaitingLemmas.{with_more, gathers_on}
use Rattle.kcr_desk.proofs.response.enqueue_response.Goals as goal

pub returns : goal.returns
unfolding answer
returns g c =
    let text = answer c.args.head_only c.args.closes (response_value c.args.reply.now) in
    let pieces : c.add_head.new.page.items ++ c.sent_body.result.now ≡ c.reserve.new.queue.items ++ text =
    simp (c.add_head.ensures, c.sent_body.ensures, c.bytes-body.ensures, append_assoc) in
    let front = with_more text c.in_ok-reserve.ensures.queued.gathered in
    let gathered = gathers_on c.enqueue.result _ c.enqueue.new.queue.items front (rw pieces at c.enqueue.ensures.gathered) in
    search (rules, gathered)

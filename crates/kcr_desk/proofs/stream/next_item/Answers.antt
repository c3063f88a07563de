use Rattle.kcr_desk.proofs.Common.{MatchResult-from_err, MatchResult-weaker, unread, refused, Ended}
use Rattle.kcr_desk.proofs.TurnLemmas.{breaks_at_once, breaks_ending, turn_later, breaks_later}
use Rattle.kcr_desk.proofs.stream.next_item.Goals as goal

pub returns-in_err-read_head-clause-turn : goal.returns-in_err-read_head-clause-turn
returns-in_err-read_head-clause-turn g c =
    MatchResult-from_err _ _ _ c.from_residual.ensures.0 (λ _. breaks_at_once _ _ _ c.in_err-read_head.ensures.gathered)

pub returns-in_err-enqueue_refusal-in-Refused-clause-turn : goal.returns-in_err-enqueue_refusal-in-Refused-clause-turn
returns-in_err-enqueue_refusal-in-Refused-clause-turn g c =
    let found = rw c.in-Refused.is at c.in_ok-read_head.ensures.found in
    MatchResult-from_err _ _ _ c.from_residual-in_err-enqueue_refusal-in-Refused.ensures.0
    (λ _. breaks_later _ c.in_ok-read_head.ensures.takes.kept c.in_ok-read_head.ensures.gathered
    (breaks_ending (refused c.in-Refused.refusal c.in-Refused.head_only) found.0 c.in_err-enqueue_refusal-in-Refused.ensures.gathered))

pub returns-in_ok-enqueue_refusal-in-Refused-clause-turn : goal.returns-in_ok-enqueue_refusal-in-Refused-clause-turn
returns-in_ok-enqueue_refusal-in-Refused-clause-turn g c =
    let found = rw c.in-Refused.is at c.in_ok-read_head.ensures.found in
    let e = refused c.in-Refused.refusal c.in-Refused.head_only in
    turn_later (unread c.read_head.new.self) _ _ c.in_ok-read_head.ensures.takes.kept c.in_ok-read_head.ensures.gathered Ended
    (e, found.0, c.in_ok-enqueue_refusal-in-Refused.ensures.gathered)

pub returns-in-Whole-clause-turn : goal.returns-in-Whole-clause-turn
returns-in-Whole-clause-turn g c =
    let stays = c.in_ok-read_head.ensures.takes.kept in
    let gathered = c.in_ok-read_head.ensures.gathered in
    MatchResult-weaker c.read_message.result c.read_message.ensures.turn
    (turn_later (unread c.read_message.new.intake) _ _ stays gathered) (λ _. breaks_later _ stays gathered)

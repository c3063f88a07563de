use Rattle.kcr_desk.proofs.Common.{◌++◌, prepend_known, MatchResult-from_err, cut_off, EndsAs, unread, ℕ, List, continue_text, IsQueued}
use Rattle.kcr_desk.proofs.WaitingLemmas.{with_more_behind, sent_front, sent_on}
use Rattle.kcr_desk.proofs.TurnLemmas.{ends_before, breaks_ending, breaks_continue, plan_more, cut_ends}
use Rattle.kcr_desk.proofs.stream.read_message.{Given.Over, Goals.After-enqueue_refusal}
use Rattle.kcr_desk.proofs.stream.read_message.Goals as goal

pub returns-in_err-enqueue_continue-clause-turn : goal.returns-in_err-enqueue_continue-clause-turn
returns-in_err-enqueue_continue-clause-turn g c =
    MatchResult-from_err _ _ _ c.from_residual.ensures.0
    (λ _. breaks_continue (g.R.Read.remaining c.args.reader.now.inner) c.requires (λ bytes is. is) c.in_err-enqueue_continue.ensures.gathered)

pub returns-in_err-read_body-clause-turn : goal.returns-in_err-read_body-clause-turn
returns-in_err-read_body-clause-turn g c =
    MatchResult-from_err _ _ _ c.from_residual-in_err-read_body.ensures.0
    (λ _. breaks_continue (g.R.Read.remaining c.args.reader.now.inner) c.requires (λ bytes is. is)
    (sent_front _ c.in_ok-enqueue_continue.ensures.gathered c.in_err-read_body.ensures.gathered))

pub returns-then-branch-clause-turn : goal.returns-then-branch-clause-turn
returns-then-branch-clause-turn g c =
    let grown = c.in_ok-read_body.ensures.grown in (
      record { front = plan_more grown.0 c.requires grown.1; enough = c.in_ok-read_body.ensures.enough c.if-branch.true },
      sent_on c.in_ok-enqueue_continue.ensures.gathered c.in_ok-read_body.ensures.gathered,
    )

-- what the end of a stream inside a body is
cut_at_end : (g : Over) (c : After-enqueue_refusal g)
    → EndsAs (prepend_known (unread c.args.intake.now) (g.R.Read.remaining c.args.reader.now.inner)) (cut_off c.args.plan c.is_head_method-head_only.result)
cut_at_end g c =
    let grown = c.in_ok-read_body.ensures.grown in
    let ended = c.in_ok-read_body.ensures.ended c.if-branch.false in
    let cut = cut_ends _ (plan_more grown.0 c.requires grown.1) ended.0 ended.1 in
    ends_before _ _ _ c.in_ok-read_body.ensures.takes.kept (rw (c.is_head_method-head_only.ensures, c.of.ensures, c.unread.ensures) cut)

-- what was written and what waits, with the answer behind it
so_far : (g : Over) (c : After-enqueue_refusal g) (z : List ℕ) → IsQueued (g.W.Write.contents c.args.writer.now.inner)
    (g.W.Write.contents c.read_body.new.writer.inner) (c.args.queue.now.items ++ (continue_text c.args.plan ++ z)) (c.read_body.new.queue.items ++ z)
so_far g c z = with_more_behind c.args.queue.now.items _ z (sent_on c.in_ok-enqueue_continue.ensures.gathered c.in_ok-read_body.ensures.gathered)

pub returns-in_err-enqueue_refusal-clause-turn : goal.returns-in_err-enqueue_refusal-clause-turn
returns-in_err-enqueue_refusal-clause-turn g c =
    let at = (goal.at.returns-in_err-enqueue_refusal-clause-turn g c).After-enqueue_refusal in
    MatchResult-from_err _ _ _ c.from_residual-in_err-enqueue_refusal.ensures.0
    (λ _. breaks_ending (cut_off _ _) (cut_at_end g at) (sent_front _ (so_far g at _) c.in_err-enqueue_refusal.ensures.gathered))

pub returns-clause-turn : goal.returns-clause-turn
returns-clause-turn g c =
    let at = (goal.at.returns-clause-turn g c).After-enqueue_refusal in
    (cut_off _ _, cut_at_end g at, sent_on (so_far g at _) c.in_ok-enqueue_refusal.ensures.gathered)

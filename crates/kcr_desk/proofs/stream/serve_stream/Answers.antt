use Rattle.kcr_desk.proofs.Common.{◌<◌, ◌∙◌, length, refl, ap, arith, MatchResult-from_err, MatchResult-weaker}
use Rattle.kcr_desk.proofs.ServeLemmas.{serving_first, ended_served, turn_broken, serving_then, closed_served, closed_broken}
use Rattle.kcr_desk.proofs.{TurnLemmas.breaks_ending, WaitingLemmas.gathered_nothing, WaitingLemmas.sent_front}
use Rattle.kcr_desk.proofs.stream.serve_stream.Goals as goal

pub returns-in_err-next_item-clause-served : goal.returns-in_err-next_item-clause-served
returns-in_err-next_item-clause-served g c =
    MatchResult-from_err _ _ _ c.from_residual.ensures.0 (λ _. turn_broken c.messages.invariant.serving c.in_err-next_item.ensures.turn)

pub messages-preserved : goal.messages-preserved
messages-preserved g c =
    let turn = rw c.in-Message.is at c.in_ok-next_item.ensures.turn in
    let told = c.in_ok-answer_front-in-Message.ensures.answered in
    let there = serving_then c.messages.invariant.serving turn.0 _ c.in_ok-next_item.ensures.takes.kept told.0 _ told.1 _ _ turn.1 c.if-plan.false
    told.2.gathered in
    let some : 0 < c.in-Message.spans.len = turn.0.front.whole.some in
    record {
      serving = rw c.consume.ensures.held there;
      room = rw c.consume.ensures.reads (omega (arith, c.in_ok-next_item.ensures.takes.room, c.messages.invariant.room, c.consume.ensures.len));
      calm_reader = c.in_ok-next_item.ensures.takes.calm ∙ c.messages.invariant.calm_reader;
      calm_writer = told.2.calm ∙ c.in_ok-next_item.ensures.takes.calm_writer ∙ c.messages.invariant.calm_writer;
      counted = rw c.consume.ensures.reads (omega (arith, c.next_item.ensures.takes.counted, c.messages.invariant.counted));
    }

pub returns-in-Ended-clause-served : goal.returns-in-Ended-clause-served
returns-in-Ended-clause-served g c =
    let turn = rw c.in-Ended.is at c.in_ok-next_item.ensures.turn in
    MatchResult-weaker c.finish.result c.finish.ensures.ended
    (λ served is. rw is.0 (ended_served c.messages.invariant.serving turn.0 _ _ turn.1 turn.2 is.1))
    (λ _ is. turn_broken c.messages.invariant.serving (breaks_ending turn.0 turn.1 (sent_front _ turn.2 is)))

pub returns-in_err-answer_front-in-Message-clause-served : goal.returns-in_err-answer_front-in-Message-clause-served
returns-in_err-answer_front-in-Message-clause-served g c =
    let turn = rw c.in-Message.is at c.in_ok-next_item.ensures.turn in
    let told = c.in_err-answer_front-in-Message.ensures.answered in
    MatchResult-from_err _ _ _ c.from_residual-in_err-answer_front-in-Message.ensures.0
    (λ _. closed_broken c.messages.invariant.serving turn.0 _ c.in_ok-next_item.ensures.takes.kept told.0 _ told.1 _ _ turn.1 _
    (gathered_nothing _ _) told.2.gathered)

pub returns-then-plan-clause-served : goal.returns-then-plan-clause-served
returns-then-plan-clause-served g c =
    let turn = rw c.in-Message.is at c.in_ok-next_item.ensures.turn in
    let told = c.in_ok-answer_front-in-Message.ensures.answered in
    MatchResult-weaker c.finish-then-plan.result c.finish-then-plan.ensures.ended
    (λ served is. rw is.0 (closed_served c.messages.invariant.serving turn.0 _ c.in_ok-next_item.ensures.takes.kept told.0 _ told.1 _ _ turn.1 _
    c.if-plan.true told.2.gathered is.1))
    (λ _. closed_broken c.messages.invariant.serving turn.0 _ c.in_ok-next_item.ensures.takes.kept told.0 _ told.1 _ _ turn.1 _ told.2.gathered)

pub messages-init : goal.messages-init
messages-init g c = record {
  serving = rw (c.new-intake.ensures.held, c.new-queue.ensures) (serving_first _ _ _ c.args.responder.now);
  room = omega (arith, ap length c.new-intake.ensures.held);
  calm_reader = refl;
  calm_writer = refl;
  counted = omega (arith, c.new-intake.ensures.reads);
}

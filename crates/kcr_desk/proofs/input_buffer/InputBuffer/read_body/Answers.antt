use Rattle.kcr_desk.proofs.{Common.rules, Common.MatchResult-from_err, WaitingLemmas.sent_front, WaitingLemmas.sent_on}
use Rattle.kcr_desk.proofs.input_buffer.InputBuffer.read_body.Goals as goal

pub returns-in_err-fill-clause-gathered : goal.returns-in_err-fill-clause-gathered
returns-in_err-fill-clause-gathered g c =
    MatchResult-from_err _ _ _ c.from_residual.ensures.0 (λ _. sent_front _ c.body.invariant.taken.gathered c.in_err-fill.ensures.gathered)

pub returns-then-not-branch-clause-gathered : goal.returns-then-not-branch-clause-gathered
returns-then-not-branch-clause-gathered g c = search (rules, sent_on)

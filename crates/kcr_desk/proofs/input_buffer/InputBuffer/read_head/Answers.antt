use Rattle.kcr_desk.proofs.Common.{refl, sym, ◌∙◌, subst, unread, IsHopeless, HasNoHead, IsBlankRest, is_blank_rest, no_head, MatchResult-from_err}
use Rattle.kcr_desk.proofs.{FoundLemmas.ends_all, FoundLemmas.ends_here, FoundLemmas.failed_ends, WaitingLemmas.sent_front}
use Rattle.kcr_desk.proofs.input_buffer.InputBuffer.read_head.Goals as goal

pub returns-in-Whole-default-Err-clause-found : goal.returns-in-Whole-default-Err-clause-found
returns-in-Whole-default-Err-clause-found g c =
    let w = rw c.in-Whole-default-Err.field-1-is at c.in-Whole-default-Err.ensures in
    let ends = failed_ends (unread c.head.self) (g.R.Read.remaining c.head.reader.inner) _ w.0 _ (rw c.unread.ensures at w.1) w.2 in
    (rw (c.is_head_method-head_only.ensures, c.of.ensures, c.unread-in-Whole-default-Err.ensures) ends, w.4)

pub returns-in-Nothing-clause-found : goal.returns-in-Nothing-clause-found
returns-in-Nothing-clause-found g c =
    let none = subst IsHopeless c.unread.ensures c.in-Nothing.ensures in
    (ends_all (unread c.head.self) _ _ (λ u. no_head (none.no_head u) (none.not_quiet u)), refl)

pub returns-then-is_blank_rest-clause-found : goal.returns-then-is_blank_rest-clause-found
returns-then-is_blank_rest-clause-found g c =
    ends_here (unread c.fill.new.self) _ _ (c.in_ok-fill.ensures.ended c.if-not-branch.true).2
    (is_blank_rest (subst IsBlankRest c.unread-then-not-branch.ensures (c.is_blank_rest.ensures.0 c.if-is_blank_rest.true)))

pub returns-then-not-branch-clause-found : goal.returns-then-not-branch-clause-found
returns-then-not-branch-clause-found g c =
    let ended = c.in_ok-fill.ensures.ended c.if-not-branch.true in
    let loud : ¬ (IsBlankRest (unread c.fill.new.self)) =
    λ q. cc (c.is_blank_rest.ensures.1 (rw (← c.unread-then-not-branch.ensures) at q), c.if-is_blank_rest.false) in
    (ends_here (unread c.fill.new.self) _ _ ended.2 (no_head (subst HasNoHead (c.unread.ensures ∙ sym ended.1) c.in-More.ensures) loud), refl)

pub returns-in_err-fill-clause-gathered : goal.returns-in_err-fill-clause-gathered
returns-in_err-fill-clause-gathered g c =
    MatchResult-from_err _ _ _ c.from_residual.ensures.0 (λ _. sent_front _ c.head.invariant.gathered c.in_err-fill.ensures.gathered)

use Rattle.kcr_reading.proofs.Common.{◌≡◌, ◌==◌, ◌∙◌, [], length, true≢false, sym, ap, eqb-true, nil_from_length, if_ok, clean_before}
use Rattle.kcr_reading.proofs.StayLemmas.{first_with, first_after}
use Rattle.kcr_reading.proofs.stays.stays_after.Goals as goal

pub returns-in-None-clause-first : goal.returns-in-None-clause-first
returns-in-None-clause-first g c clean m h = rw c.in-None.is (c.first_in_range.ensures.first clean m h)

pub returns-then-is_empty-clause-first : goal.returns-then-is_empty-clause-first
returns-then-is_empty-clause-first g c clean m h =
    let met = c.in_ok-together-in-Some in
    let before = clean_before c.first_in_range-then-is_empty.ensures.frame.within clean in
    let still = met.ensures.frame.tables before m h in
    let none : met.together.items ≡ [] = nil_from_length _ (sym met.together.ok.0 ∙ eqb-true _ 0 (sym c.is_empty.ensures ∙ c.if-is_empty.true)) in
    let later = rw c.in-Some.is at (c.first_in_range-then-is_empty.ensures.first clean m still) in
    rw c.in-Some.is (if_ok _ _
    (λ found begin. first_after c.args.ceremony c.in-Some.stay m h.tables met.together.items none (met.ensures.first before m h) found.items begin)
    c.first_in_range-then-is_empty.result later)

pub returns-else-is_empty-clause-first : goal.returns-else-is_empty-clause-first
returns-else-is_empty-clause-first g c clean m h =
    let met = c.in_ok-together-in-Some in
    rw c.in-Some.is (first_with c.args.ceremony c.in-Some.stay m h.tables met.together.items
    (λ none. true≢false (sym (ap (λ n. n == 0) (met.together.ok.0 ∙ ap length none)) ∙ sym c.is_empty.ensures ∙ c.if-is_empty.false))
    (met.ensures.first clean m h))

use Rattle.kcr_script.proofs.Common.{◌≡◌, ℕ, length, get_or, below_more, refl, true≢false, sym, ◌∙◌, arith, ltb-true, get_or_default, kind}
use Rattle.kcr_script.proofs.WrittenLemmas.{run_of}
use Rattle.kcr_script.proofs.seats.run_len.Goals as goal

pub loop-i-preserved : goal.loop-i-preserved
loop-i-preserved c k d h =
    let here = get_or_default c.args.after.now c.loop-i.i d _ (omega arith) ∙ c.if-not-is_same.ensures.0 refl in
    below_more (λ (j : ℕ). get_or c.args.after.now j d ≡ c.args.first) c.loop-i.i (λ j g. c.loop-i.invariant j d g) here k h

pub returns-then-not-is_same-clause-run : goal.returns-then-not-is_same-clause-run
returns-then-not-is_same-clause-run c =
    let low = ltb-true (kind c.args.first) 9 (sym c.if-not-can_repeat.ensures) in
    run_of c.args.after.now c.loop-i.i c.args.first low (omega arith) c.loop-i.invariant
    (λ d h e. true≢false (sym (c.if-not-is_same.ensures.1 (get_or_default c.args.after.now c.loop-i.i _ d h ∙ e))))

pub returns-clause-run : goal.returns-clause-run
returns-clause-run c =
    let low = ltb-true (kind c.args.first) 9 (sym c.if-not-can_repeat.ensures) in
    run_of c.args.after.now (length c.args.after.now) c.args.first low (omega arith) (λ k d h. c.loop-i.invariant k d (omega arith))
    (λ d h. absurd (omega arith))

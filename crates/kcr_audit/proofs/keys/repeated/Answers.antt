use Rattle.kcr_audit.proofs.Common.{subst, arith, contains, not-true, not-false, same_text}
use Rattle.std.proofs.lemmas.List.{take_all}
use Rattle.kcr_audit.proofs.Seen.{Seen, seen-more, seen-again, seen-all}
use Rattle.kcr_audit.proofs.keys.repeated.Goals as goal

pub returns-then-not-branch : goal.returns-then-not-branch
returns-then-not-branch c = grind (arith, seen-again, not-false)

pub loop-row-preserved : goal.loop-row-preserved
loop-row-preserved c = grind (arith, seen-more, not-true)

pub returns : goal.returns
returns c =
    seen-all c.args.rows.now (contains same_text c.loop-row.seen)
    (subst (λ rows. Seen rows (contains same_text c.loop-row.seen)) (take_all c.loop-row.row-index c.args.rows.now c.loop-row-test.false) c.loop-row.invariant)

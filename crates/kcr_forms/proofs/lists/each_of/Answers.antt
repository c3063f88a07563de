use Rattle.std.proofs.Common.{sym, ◌∙◌}
use Rattle.kcr_forms.proofs.Listing.{code_taken, code_missing, codes_end}
use Rattle.kcr_forms.proofs.lists.each_of.Goals as goal

pub returns-in_default : goal.returns-in_default
returns-in_default g c =
    sym (code_missing g.T.Written.form _ _ _ c.loop-code.list.items c.loop-code-test.true (sym c.in_ok-value.ensures.form ∙ c.in_default.is))
    ∙ c.loop-code.invariant

pub loop-code-preserved : goal.loop-code-preserved
loop-code-preserved g c =
    rw c.in_ok-push.ensures.items (code_taken g.T.Written.form _ _ _ c.loop-code.list.items c.in-Some.value c.loop-code-test.true
    (sym c.in_ok-value.ensures.form ∙ c.in-Some.is) ∙ c.loop-code.invariant)

pub returns : goal.returns
returns g c = sym (codes_end g.T.Written.form _ _ c.loop-code.list.items c.loop-code-test.false) ∙ c.loop-code.invariant

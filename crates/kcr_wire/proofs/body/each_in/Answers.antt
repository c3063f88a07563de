use Rattle.kcr_wire.proofs.Common.{sym, ◌∙◌}
use Rattle.kcr_wire.proofs.Lists.{value_taken, value_missing, values_end}
use Rattle.kcr_wire.proofs.body.each_in.Goals as goal

pub returns-in_default : goal.returns-in_default
returns-in_default g c =
    sym (value_missing g.T.Written.form _ _ c.item-item.result c.loop-item.list.items c.loop-item-test.true c.item-item.is
    (sym c.in_ok-value.ensures ∙ c.in_default.is)) ∙ c.loop-item.invariant

pub loop-item-preserved : goal.loop-item-preserved
loop-item-preserved g c =
    rw c.in_ok-push.ensures.items (value_taken g.T.Written.form _ _ c.item-item.result c.loop-item.list.items c.in-Some.value c.loop-item-test.true c.item-item.is
    (sym c.in_ok-value.ensures ∙ c.in-Some.is) ∙ c.loop-item.invariant)

pub returns : goal.returns
returns g c = sym (values_end g.T.Written.form _ _ c.loop-item.list.items c.loop-item-test.false) ∙ c.loop-item.invariant

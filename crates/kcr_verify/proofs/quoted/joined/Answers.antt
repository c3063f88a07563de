use Rattle.kcr_verify.proofs.Common.{inl, inr, refl, take, arith, length-map, length-take, map_more, bound, bound_value}
use Rattle.sqlite.specs.{Value.owned, declared.types.ValueRef.ValueRef}
use Rattle.kcr_verify.proofs.QuotedLemmas.{IsStarted, line_more}
use Rattle.kcr_verify.proofs.quoted.joined.Goals as goal
use Rattle.kcr_verify.proofs.quoted.joined.Goals.{then-index-gt0+in_ok-push, else-index-gt0}

pub loop-index-preserved : goal.loop-index-preserved
loop-index-preserved c =
    let values = c.args.values.now in
    let i = c.loop-index.index in
    let one = λ (v : ValueRef). bound_value (owned v) in
    let started : IsStarted i c.loop-index.line.items c.if-index-gt0.line.items = elim c.if-index-gt0.branch [
      | then-index-gt0+in_ok-push w ↦ inl (w.if-index-gt0.true, rw w.line-is w.in_ok-push.ensures.items)
      | else-index-gt0 w ↦ inr (w.if-index-gt0.false, rw w.line-is refl)
    ] in
    line_more c.args.columns.now (bound (take i values)) _ i _ _ _ (omega arith) (omega (arith, length-map (take i values) one, length-take i values))
    (map_more one values i _ (omega arith)) (λ k. refl) c.loop-index.invariant started c.in_ok-push_value.ensures c.in_ok-push_date_of.ensures

use Rattle.kcr_wire.proofs.Common.{◌≡◌, drop, items_view, after_codes}
use Rattle.kcr_wire.specs.Members.{each_in}
use Rattle.kcr_wire.proofs.body.each_in.Given as goal

abbrev pub invariant-loop-item : goal.invariant-loop-item
invariant-loop-item g l =
    let form = g.T.Written.form in
    after_codes l.list.items (each_in form (items_view (drop l.item-index l.items))) ≡ each_in form (items_view l.items)

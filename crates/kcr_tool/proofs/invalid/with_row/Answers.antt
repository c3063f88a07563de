use Rattle.kcr_tool.proofs.Common.{inl, inr, ◌∙◌, Err, ap, sym}
use Rattle.kcr_tool.proofs.invalid.with_row.Goals as goal

-- the fault stays, or has the row that was found
pub returns-then-is_disk : goal.returns-then-is_disk
returns-then-is_disk g c =
    let was = c.is_disk.ensures c.if-is_disk.true in
    elim c.fault_of_refusal.ensures [ inl same ↦ inl (ap Err same ∙ sym was) | inr named ↦ inr (named.0, was, ap Err named.1) ]

use Rattle.kcr_store.proofs.Common.{◌∙◌}
use Rattle.kcr_store.proofs.WholeLemmas.{looked}
use Rattle.kcr_store.proofs.register.Register.table_rows.Goals as goal

pub returns-clause-looks : goal.returns-clause-looks
returns-clause-looks g c =
    let lent = c.in_ok-lent.ensures in
    rw c.note_disk_fault.ensures.same
    (looked lent.broken lent.kept (rw (c.lent.view_is ∙ lent.begun) at c.read_table-rows.ensures.frame) c.note_disk_fault.ensures.settled)

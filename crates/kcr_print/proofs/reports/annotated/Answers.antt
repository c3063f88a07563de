use Rattle.kcr_print.proofs.{Common.annotated, PartLemmas.planned_told, ReportLemmas.annotated_text}
use Rattle.kcr_print.proofs.reports.annotated.Goals as goal

pub returns : goal.returns
returns g c =
    let note = c.note_disk_fault.ensures in
    let lent = c.in_ok-unbroken.ensures in
    rw note.same
    (planned_told g.S.Store lent.broken lent.kept note.settled annotated (rw lent.begun at c.print_script-outcome.ensures)
    (λ _ A _. annotated_text A c.args.ceremony))

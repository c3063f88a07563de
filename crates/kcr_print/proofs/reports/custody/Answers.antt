use Rattle.kcr_print.proofs.{Common.custody, ReportLemmas.custody_text, PartLemmas.rows_told, PartLemmas.text_told}
use Rattle.kcr_print.proofs.reports.custody.Goals as goal

pub returns : goal.returns
returns g c =
    let note = c.note_disk_fault.ensures in
    let lent = c.in_ok-unbroken.ensures in
    let part = rw lent.begun at c.print_custody-outcome.ensures in
    rw note.same (record {
      prints = text_told g.S.Store lent.broken lent.kept note.settled custody part (λ _ A _. custody_text A);
      by_rows = rows_told g.S.Store c.args.register.now _ note.settled part.printed;
    })

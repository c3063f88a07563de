use Rattle.kcr_print.proofs.Common.{refl, rules, tables, row_journal}
use Rattle.kcr_print.proofs.{JournalLemmas.journal_lines, PartLemmas.rows_told, PartLemmas.text_told}
use Rattle.kcr_print.proofs.reports.journal.Goals as goal

pub returns-in_err-unbroken : goal.returns-in_err-unbroken
returns-in_err-unbroken g c =
    journal_lines g.S.Store c.args.asked (g.met.S.Store.survives c.args.register.now.conn.store) (search rules) (search rules)

pub returns : goal.returns
returns g c =
    let note = c.note_disk_fault.ensures in
    let lent = c.in_ok-unbroken.ensures in
    let before = c.args.register.now in
    let part = rw lent.begun at c.print_journal-outcome.ensures in
    rw note.same
    (journal_lines g.S.Store c.args.asked (g.met.S.Store.survives before.conn.store)
    (text_told g.S.Store lent.broken lent.kept note.settled (λ A. row_journal c.args.asked (tables A)) part (λ _ _ _. refl))
    (rows_told g.S.Store before _ note.settled part.printed))

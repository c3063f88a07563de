use Rattle.kcr_print.proofs.Common.{refl, rules, tables, row_requests}
use Rattle.kcr_print.proofs.{PartLemmas.rows_told, PartLemmas.text_told, RequestLemmas.export_requests}
use Rattle.kcr_print.proofs.reports.export.Goals as goal

pub returns-in_err-unbroken : goal.returns-in_err-unbroken
returns-in_err-unbroken g c =
    export_requests g.S.Store c.args.after c.args.until (g.met.S.Store.survives c.args.register.now.conn.store) (search rules) (search rules) (search rules)

pub returns : goal.returns
returns g c =
    let note = c.note_disk_fault.ensures in
    let lent = c.in_ok-unbroken.ensures in
    let before = c.args.register.now in
    let part = rw lent.begun at c.print_requests-outcome.ensures in
    rw note.same
    (export_requests g.S.Store c.args.after c.args.until (g.met.S.Store.survives before.conn.store)
    (text_told g.S.Store lent.broken lent.kept note.settled (λ A. row_requests c.args.after c.args.until (tables A)) part.prints (λ _ _ _. refl))
    (rows_told g.S.Store before _ note.settled part.prints.printed) (rows_told g.S.Store before _ note.settled part.whole))

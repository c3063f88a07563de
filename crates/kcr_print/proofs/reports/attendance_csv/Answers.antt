use Rattle.kcr_print.proofs.{Common.inr, Common.attendance, PartLemmas.planned_told, ReportLemmas.register_attendance}
use Rattle.kcr_print.proofs.reports.attendance_csv.Goals as goal

pub returns : goal.returns
returns g c =
    let note = c.note_disk_fault.ensures in
    let lent = c.in_ok-unbroken.ensures in
    let part = rw lent.begun at c.print_attendance-outcome.ensures in
    let before = c.args.register.now in
    let left = g.met.S.Store.survives before.conn.store in
    rw note.same
    (planned_told g.S.Store lent.broken lent.kept note.settled attendance part
    (λ clean A at. inr (register_attendance g.S.Store before left (part.puts.reads.clean clean) A at c.args.ceremony)))

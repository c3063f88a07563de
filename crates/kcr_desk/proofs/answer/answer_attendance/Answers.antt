use Rattle.kcr_desk.proofs.{Common.attendance, Common.attendance_by, Common.Csv, ReportLemmas.report_answered}
use Rattle.kcr_desk.proofs.answer.answer_attendance.Goals as goal

pub returns : goal.returns
returns g c =
    report_answered g.S.Store _ Csv c.into_inner-text.result.items attendance attendance_by c.args.ceremony c.attendance_csv-outcome.ensures
    (rw (c.new-page.ensures.inner, c.new.ensures.items)) (rw c.into_inner-text.ensures) c.report_response.ensures

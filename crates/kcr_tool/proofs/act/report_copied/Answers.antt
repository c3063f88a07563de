use Rattle.kcr_tool.proofs.Common.{inr, IfErr, refl, IfErr-weaker, writing, EndsReport, EndsReportBy, StopsCopied}
use Rattle.kcr_tool.proofs.{Copies.never_in_doubt, Notes.noted_weaker, Rows.row_noted, Rows.row_said}
use Rattle.kcr_tool.proofs.act.report_copied.Goals as goal

pub returns-clause-own : goal.returns-clause-own
returns-clause-own g c A held =
    let w = writing g.W.Write.contents c.args.output.now c.write_report-ended.new.output in
    row_said (EndsReportBy c.args.report A w) c.write_report-ended.result c.with_row.result (λ row ends. ends) c.with_row.ensures
    (c.write_report-ended.ensures.own (never_in_doubt (λ _. refl) c.write_report-ended.new.register.conn) A (c.in_ok-register.ensures.stands A held))

pub returns-clause-ends : goal.returns-clause-ends
returns-clause-ends g c =
    let w = writing g.W.Write.contents c.args.output.now c.write_report-ended.new.output in
    row_said (EndsReport c.args.report w) c.write_report-ended.result c.with_row.result (λ row ends. ends) c.with_row.ensures c.write_report-ended.ensures.ends

pub returns-clause-cause : goal.returns-clause-cause
returns-clause-cause g c =
    let w = writing g.W.Write.contents c.args.output.now c.write_report-ended.new.output in
    row_said (λ r. IfErr r (StopsCopied c.args.report w)) c.write_report-ended.result c.with_row.result (λ row stops. stops) c.with_row.ensures
    (IfErr-weaker c.write_report-ended.result _ _ (λ why stops. inr stops) c.write_report-ended.ensures.cause)

pub returns-clause-noted : goal.returns-clause-noted
returns-clause-noted g c =
    let w = writing g.F.Write.contents c.args.faults.now c.note.new.faults in
    noted_weaker _ _ _ w (λ told. row_noted c.args.is_explained _ _ c.with_row.ensures (c.may_note-is_told.ensures told)) c.note.ensures

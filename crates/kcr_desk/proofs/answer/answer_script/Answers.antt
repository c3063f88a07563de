use Rattle.kcr_desk.proofs.{Common.annotated, Common.annotated_by, Common.Text, ReportLemmas.report_answered}
use Rattle.kcr_desk.proofs.answer.answer_script.Goals as goal

pub returns : goal.returns
returns g c =
    report_answered g.S.Store _ Text c.into_inner-text.result.items annotated annotated_by c.args.ceremony c.annotated-outcome.ensures
    (rw (c.new-page.ensures.inner, c.new.ensures.items)) (rw c.into_inner-text.ensures) c.report_response.ensures

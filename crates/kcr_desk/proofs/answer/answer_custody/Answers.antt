use Rattle.kcr_desk.proofs.{Common.custody, Common.custody_by, Common.Text, ReportLemmas.text_answered}
use Rattle.kcr_desk.proofs.answer.answer_custody.Goals as goal

pub returns : goal.returns
returns g c =
    let e = c.custody-outcome.ensures in
    text_answered g.S.Store _ Text c.into_inner-text.result.items custody custody_by e.prints e.by_rows
    (rw (c.new-page.ensures.inner, c.new.ensures.items)) (rw c.into_inner-text.ensures) c.report_response.ensures

use Rattle.kcr_desk.proofs.{Common.Text, ReportLemmas.feed_answered}
use Rattle.kcr_desk.proofs.answer.answer_count.Goals as goal

pub returns : goal.returns
returns g c =
    let e = rw c.get-after.ensures.value at c.export-outcome.ensures in
    feed_answered g.S.Store _ Text c.into_inner-text.result.items c.args.after c.args.count c.requires.some c.requires.most e c.requires.enough
    (rw (c.new-page.ensures.inner, c.new.ensures.items)) (rw c.into_inner-text.ensures) c.report_response.ensures

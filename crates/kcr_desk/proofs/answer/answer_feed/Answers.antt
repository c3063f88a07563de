use Rattle.kcr_desk.proofs.Common.{arith, IsFeed, IsFeedByRows, MayBeFed, report_response, Text}
use Rattle.std.specs.Prelude.{◌<◌, ◌≤◌}
use Rattle.kcr_desk.proofs.ReportLemmas.{answered_again, feed_answered}
use Rattle.kcr_desk.proofs.answer.answer_feed.Goals as goal

some_commands : 0 < 1000
some_commands = omega arith

most_commands : 1000 ≤ 1000
most_commands = omega arith

pub returns-in-Some : goal.returns-in-Some
returns-in-Some g c =
    answered_again g.S.Store _ (report_response Text) (MayBeFed c.args.after) (IsFeed c.args.after) (IsFeedByRows c.args.after)
    c.export-outcome.ensures.prints c.in-Some.ensures.cause c.answer_some.ensures

pub returns-in-None : goal.returns-in-None
returns-in-None g c =
    let e = rw c.get-first.ensures.value at c.export-outcome.ensures in
    feed_answered g.S.Store _ Text c.into_text-text.result.items c.args.after 1000 some_commands most_commands e c.requires.enough
    (rw (c.new-page.ensures.inner, c.new.ensures)) (rw (c.into_text-text.ensures, c.into_inner-page.ensures)) c.report_response.ensures

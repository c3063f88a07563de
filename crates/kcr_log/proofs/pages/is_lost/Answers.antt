use Rattle.std.proofs.Common.{arith}
use Rattle.kcr_log.proofs.Runs.{numbered-by}
use Rattle.kcr_log.proofs.pages.is_lost.Goals as goal

pub has_page-requires-clause-page : goal.has_page-requires-clause-page
has_page-requires-clause-page c = let page = numbered-by c.args.header.now c.args.log.now c.args.i in grind (arith, page)

use Rattle.std.proofs.Common.{rules}
use Rattle.kcr_edges.proofs.noted.CopyFileDisk.set_len.Goals as goal

pub returns-clause-frozen : goal.returns-clause-frozen
returns-clause-frozen c frozen = let stays = c.set_len-outcome.ensures.frozen frozen in (stays.0, search (rules, stays.1))

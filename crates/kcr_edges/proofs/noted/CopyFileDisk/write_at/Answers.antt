use Rattle.std.proofs.Common.{rules}
use Rattle.kcr_edges.proofs.noted.CopyFileDisk.write_at.Goals as goal

pub returns-clause-frozen : goal.returns-clause-frozen
returns-clause-frozen c frozen = let stays = c.write_at-outcome.ensures.frozen frozen in (stays.0, search (rules, stays.1))

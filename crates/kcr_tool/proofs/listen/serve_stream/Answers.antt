use Rattle.kcr_tool.proofs.Common.{connects_unread}
use Rattle.kcr_tool.proofs.listen.serve_stream.Goals as goal

pub returns-in_default-clause-connects : goal.returns-in_default-clause-connects
returns-in_default-clause-connects g c = connects_unread g.S.Store c.args.register.now

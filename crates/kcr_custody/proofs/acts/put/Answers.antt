use Rattle.std.proofs.Common.{arith}
use Rattle.kcr_custody.proofs.acts.put.Goals as goal

pub returns : goal.returns
returns c = grind arith

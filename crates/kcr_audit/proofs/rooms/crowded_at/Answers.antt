use Rattle.kcr_audit.proofs.{Common.arith, Crowds.crowded}
use Rattle.kcr_audit.proofs.rooms.crowded_at.Goals as goal

pub returns : goal.returns
returns c = grind (arith, crowded)

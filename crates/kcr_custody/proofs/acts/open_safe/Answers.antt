use Rattle.kcr_custody.proofs.Tested.{tested}
use Rattle.kcr_custody.proofs.acts.open_safe.Goals as goal

pub returns : goal.returns
returns c = rw (tested _ _ c.check_set_safe.ensures, tested _ _ c.check_operator.ensures) at c.unless_refused.ensures

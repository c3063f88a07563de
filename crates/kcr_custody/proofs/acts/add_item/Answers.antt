use Rattle.kcr_custody.proofs.Tested.{tested}
use Rattle.kcr_custody.proofs.acts.add_item.Goals as goal

pub returns : goal.returns
returns c = rw (tested _ _ c.check_add_item.ensures, tested _ _ c.check_ca.ensures) at c.unless_refused.ensures

use Rattle.kcr_custody.proofs.Tested.{tested}
use Rattle.kcr_custody.proofs.acts.take.Goals as goal

pub returns : goal.returns
returns c = rw (tested _ _ c.check_take.ensures, tested _ _ c.check_keepers.ensures, c.place_for_take-place.ensures) at c.unless_refused.ensures

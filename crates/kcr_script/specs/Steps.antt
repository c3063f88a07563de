-- How many steps a script has.
use Rattle.std.specs.Prelude.{◌≤◌, List, length}
use Rattle.kcr_base.specs.declared.limits.TheConstants.{MAX_STEPS}

-- 1 to `MAX_STEPS` steps
pub record HasSteps {T : Type 0} (steps : List T) : Type 0 where
  pub some_step : 1 ≤ length steps
  pub few : length steps ≤ MAX_STEPS

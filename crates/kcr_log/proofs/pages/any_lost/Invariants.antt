use Rattle.std.proofs.Common.{◌<◌, ℕ}
use Rattle.kcr_log.specs.Pages.{IsLost}
use Rattle.kcr_log.proofs.pages.any_lost.Given as goal

abbrev pub invariant-loop-i : goal.invariant-loop-i
invariant-loop-i l = (j : ℕ) → j < l.i → ¬ IsLost l.header l.file l.log l.end j

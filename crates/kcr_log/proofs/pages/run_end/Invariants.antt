use Rattle.std.proofs.Common.{◌≡◌, ◌<◌, ◌≤◌, ℕ, true}
use Rattle.kcr_log.specs.Frames.{carries}
use Rattle.kcr_log.proofs.pages.run_end.Given as goal

abbrev pub invariant-loop-i : goal.invariant-loop-i
invariant-loop-i l = (j : ℕ) → 1 ≤ j → j < l.i → carries l.header l.log j ≡ true

use Rattle.std.proofs.Common.{◌≡◌, ◌<◌, ℕ, true}
use Rattle.kcr_log.specs.Frames.{checks}
use Rattle.kcr_log.proofs.judgement.first_wrong.Given as goal

abbrev pub invariant-loop-i : goal.invariant-loop-i
invariant-loop-i l = (j : ℕ) → j < l.i → checks l.header l.log j ≡ true

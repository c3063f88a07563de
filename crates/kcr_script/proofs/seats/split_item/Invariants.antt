use Rattle.kcr_script.proofs.Common.{◌≢◌, ℕ, ◌<◌, get_or}
use Rattle.kcr_script.proofs.seats.split_item.Given as goal

abbrev pub invariant-loop-i : goal.invariant-loop-i
invariant-loop-i l = (k d : ℕ) → k < l.i → get_or l.bytes k d ≢ 59

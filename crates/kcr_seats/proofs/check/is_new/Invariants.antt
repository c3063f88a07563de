use Rattle.std.proofs.Common.{◌≢◌, ℕ, ◌<◌, get_or}
use Rattle.kcr_seats.proofs.check.is_new.Given as goal

abbrev pub invariant-loop-other : goal.invariant-loop-other
invariant-loop-other l = (k : ℕ) → k < l.other → get_or l.seating k 0 ≢ get_or l.seating l.seat 0

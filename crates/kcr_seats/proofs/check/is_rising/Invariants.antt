use Rattle.std.proofs.Common.{ℕ, ◌+◌, ◌<◌, get_or}
use Rattle.kcr_seats.proofs.check.is_rising.Given as goal

abbrev pub invariant-loop-index : goal.invariant-loop-index
invariant-loop-index l = ((k : ℕ) → k + 1 < l.index → get_or l.seats k 0 < get_or l.seats (k + 1) 0) × ((k : ℕ) → k < l.index → get_or l.seats k 0 < l.count)

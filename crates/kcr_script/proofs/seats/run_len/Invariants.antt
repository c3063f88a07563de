use Rattle.kcr_script.proofs.Common.{◌≡◌, ℕ, ◌<◌, get_or, Seat}
use Rattle.kcr_script.proofs.seats.run_len.Given as goal

abbrev pub invariant-loop-i : goal.invariant-loop-i
invariant-loop-i l = (k : ℕ) (d : Seat) → k < l.i → get_or l.after k d ≡ l.first

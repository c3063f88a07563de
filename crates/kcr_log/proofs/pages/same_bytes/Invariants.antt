use Rattle.std.proofs.Common.{◌≡◌, ◌<◌, ◌+◌, ℕ, get_or}
use Rattle.kcr_log.proofs.pages.same_bytes.Given as goal

abbrev pub invariant-loop-x : goal.invariant-loop-x
invariant-loop-x l = (y : ℕ) → y < l.x → get_or l.file (l.at + y) 0 ≡ get_or l.log (l.from + y) 0

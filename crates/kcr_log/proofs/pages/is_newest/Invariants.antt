use Rattle.std.proofs.Common.{◌<◌, ◌≢◌, ℕ}
use Rattle.kcr_log.specs.Frames.{frame_of}
use Rattle.kcr_log.proofs.pages.is_newest.Given as goal

abbrev pub invariant-loop-j : goal.invariant-loop-j
invariant-loop-j l = (k : ℕ) → l.i < k → k < l.j → (frame_of l.header l.log k).page ≢ (frame_of l.header l.log l.i).page

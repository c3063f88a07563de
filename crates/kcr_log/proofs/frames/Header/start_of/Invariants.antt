use Rattle.std.proofs.Common.{◌≡◌, ◌≤◌}
use Rattle.kcr_log.specs.Frames.{start_of}
use Rattle.kcr_log.proofs.frames.Header.start_of.Given as goal

abbrev pub invariant-loop-j : goal.invariant-loop-j
invariant-loop-j l = record { so_far : l.start ≡ start_of l.self l.log l.j; before : l.start ≤ l.j }

use Rattle.std.proofs.Common.{◌≡◌, ◌-◌}
use Rattle.kcr_log.specs.Frames.{frame_count, begins_in}
use Rattle.kcr_log.proofs.frames.Header.begins_from.Given as goal

abbrev pub invariant-loop-i : goal.invariant-loop-i
invariant-loop-i l =
    begins_in l.self l.log l.first (frame_count l.self l.log - l.first)
    ≡ begins_in l.self l.log l.i (frame_count l.self l.log - l.i)

use Rattle.std.proofs.Common.{◌≡◌, ◌+◌, ◌-◌, ◌≤◌}
use Rattle.kcr_log.specs.Frames.{frame_count, ends_in}
use Rattle.kcr_log.proofs.frames.Header.ends_from.Given as goal

abbrev pub invariant-loop-i : goal.invariant-loop-i
invariant-loop-i l = record {
  so_far : ends_in l.self l.log l.first (frame_count l.self l.log - l.first)
      ≡ l.ended + ends_in l.self l.log l.i (frame_count l.self l.log - l.i);
  few : l.ended + l.first ≤ l.i;
}

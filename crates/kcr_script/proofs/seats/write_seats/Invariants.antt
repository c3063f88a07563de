use Rattle.kcr_script.proofs.Common.{◌≡◌, length, [], All, string_bytes, flat_map, IsSeat, all_appended, groups, runs}
use Rattle.kcr_script.proofs.seats.write_seats.Given as goal

abbrev pub invariant-loop-seat : goal.invariant-loop-seat
invariant-loop-seat l = record {
  each : All IsSeat l.rest;
  same : all_appended (string_bytes l.text) (flat_map groups (runs l.rest)) ≡ all_appended [] (flat_map groups (runs l.seats));
}

abbrev pub decreases-loop-seat : goal.decreases-loop-seat
decreases-loop-seat l = length l.rest

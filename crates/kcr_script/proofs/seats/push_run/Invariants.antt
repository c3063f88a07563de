use Rattle.kcr_script.proofs.Common.{◌≡◌, ◌<◌, string_bytes, all_appended, groups, pair_item}
use Rattle.kcr_script.proofs.seats.push_run.Given as goal

abbrev pub invariant-loop-left : goal.invariant-loop-left
invariant-loop-left l = record {
  some : 0 < l.left;
  same : all_appended (string_bytes l.text) (groups (pair_item (l.seat, l.left))) ≡ all_appended (string_bytes l.fn.text)
      (groups (pair_item (l.seat, l.count)));
}

abbrev pub decreases-loop-left : goal.decreases-loop-left
decreases-loop-left l = l.left

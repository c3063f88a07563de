use Rattle.kcr_audit.proofs.Common.{◌≡◌, ◌≤◌, length, drop, rows_in_order}
use Rattle.kcr_audit.proofs.seating.in_order.Given as goal

-- the rows from the index on are in order
abbrev pub invariant-loop-index : goal.invariant-loop-index
invariant-loop-index l = record { within : l.index ≤ length l.rows; ordered : l.sorted.items ≡ rows_in_order (drop l.index l.rows) }

abbrev pub decreases-loop-index : goal.decreases-loop-index
decreases-loop-index l = l.index

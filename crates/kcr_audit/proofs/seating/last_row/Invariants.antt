use Rattle.kcr_audit.proofs.Common.{◌≡◌, drop, filter, last_onto, last_row, is_of}
use Rattle.kcr_audit.proofs.seating.last_row.Given as goal

-- the last so far and of what is left is the last
abbrev pub invariant-loop-row : goal.invariant-loop-row
invariant-loop-row l = last_onto l.last (filter (is_of l.who l.at) (drop l.row-index l.rows)) ≡ last_row (filter (is_of l.who l.at) l.rows)

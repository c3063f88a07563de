use Rattle.kcr_audit.proofs.Common.{◌≡◌, ◌++◌, take, drop, put_row}
use Rattle.kcr_audit.proofs.seating.place_of.Given as goal

-- put in among what is left, behind what was passed over, it is put in among all
abbrev pub invariant-loop-index : goal.invariant-loop-index
invariant-loop-index l = take l.index l.rows ++ put_row l.row (drop l.index l.rows) ≡ put_row l.row l.rows

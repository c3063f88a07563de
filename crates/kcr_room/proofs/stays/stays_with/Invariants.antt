use Rattle.kcr_room.proofs.Common.{◌≡◌, ◌++◌, drop, stays_with}
use Rattle.kcr_room.proofs.stays.stays_with.Given as goal

abbrev pub invariant-loop-index : goal.invariant-loop-index
invariant-loop-index l = l.stays.items ++ stays_with (drop l.index l.rows) (drop l.index l.ends) ≡ stays_with l.rows l.ends

use Rattle.kcr_room.proofs.Common.{◌≡◌, ◌++◌, take, drop, put_stay}
use Rattle.kcr_room.proofs.sheet.place_of.Given as goal

abbrev pub invariant-loop-index : goal.invariant-loop-index
invariant-loop-index l = take l.index l.stays ++ put_stay l.stay (drop l.index l.stays) ≡ put_stay l.stay l.stays

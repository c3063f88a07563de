use Rattle.kcr_room.proofs.Common.{◌≡◌, ◌++◌, take, drop, put_person}
use Rattle.kcr_room.proofs.presence.place_of.Given as goal

abbrev pub invariant-loop-index : goal.invariant-loop-index
invariant-loop-index l = take l.index l.people ++ put_person l.who (drop l.index l.people) ≡ put_person l.who l.people

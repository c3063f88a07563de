use Rattle.kcr_room.proofs.Common.{◌≡◌, take, present_in_by}
use Rattle.kcr_room.proofs.presence.present_in.Given as goal

-- those of the stays so far
abbrev pub invariant-loop-stay : goal.invariant-loop-stay
invariant-loop-stay l = l.people.items ≡ present_in_by (take l.stay-index l.stays) l.ceremony l.at

use Rattle.kcr_room.proofs.Common.{◌≡◌, ◌++◌, drop, map, filter, is_open_stay_of, with_end}
use Rattle.kcr_room.proofs.requests.ended_stays.Given as goal

abbrev pub invariant-loop-stay : goal.invariant-loop-stay
invariant-loop-stay l =
    l.changed.items ++ map (with_end l.request.people.now l.request.at) (filter (is_open_stay_of l.request.ceremony l.request.people.now) (drop l.stay-index l.stays))
    ≡ map (with_end l.request.people.now l.request.at) (filter (is_open_stay_of l.request.ceremony l.request.people.now) l.stays)

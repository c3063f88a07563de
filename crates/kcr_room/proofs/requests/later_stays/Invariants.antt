use Rattle.kcr_room.proofs.Common.{◌≡◌, ◌++◌, drop, map, filter, later_stay, of_ceremony}
use Rattle.kcr_room.proofs.requests.later_stays.Given as goal

abbrev pub invariant-loop-stay : goal.invariant-loop-stay
invariant-loop-stay l =
    l.later.items ++ map (later_stay l.request.way l.request.people.now l.request.at) (filter (of_ceremony l.request.ceremony) (drop l.stay-index l.stays))
    ≡ map (later_stay l.request.way l.request.people.now l.request.at) (filter (of_ceremony l.request.ceremony) l.stays)

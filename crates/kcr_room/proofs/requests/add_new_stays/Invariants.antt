use Rattle.kcr_room.proofs.Common.{◌≡◌, ◌++◌, drop, map, new_stay}
use Rattle.kcr_room.proofs.requests.add_new_stays.Given as goal

abbrev pub invariant-loop-who : goal.invariant-loop-who
invariant-loop-who l =
    l.stays.items ++ map (new_stay l.request.ceremony l.request.at) (drop l.who-index l.request.people.now)
    ≡ l.initial.stays.items ++ map (new_stay l.request.ceremony l.request.at) l.request.people.now

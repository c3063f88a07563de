use Rattle.kcr_room.proofs.Common.{◌≡◌, drop, find, is_out_of_turn_by}
use Rattle.kcr_room.proofs.sheet.first_out_of_turn.Given as goal

abbrev pub invariant-loop-who : goal.invariant-loop-who
invariant-loop-who l =
    find (is_out_of_turn_by l.rows l.request.ceremony l.request.way l.request.at) (drop l.who-index l.request.people.now)
    ≡ find (is_out_of_turn_by l.rows l.request.ceremony l.request.way l.request.at) l.request.people.now

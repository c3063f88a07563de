use Rattle.kcr_rules.proofs.Common.{◌≡◌, ◌++◌, drop, map, PutSeating}
use Rattle.kcr_history.specs.Tables.{seat_rows}
use Rattle.kcr_rules.proofs.steps.add_seats.Given as goal

-- the rows so far and those of who is left are the rows of all
abbrev pub invariant-loop-i : goal.invariant-loop-i
invariant-loop-i l =
    l.changes.items ++ map PutSeating (seat_rows l.ceremony l.step l.i (drop l.i l.people))
    ≡ l.initial.changes.items ++ map PutSeating (seat_rows l.ceremony l.step 0 l.people)

use Rattle.kcr_script.proofs.Common.{◌≡◌, ◌++◌, replicate}
use Rattle.kcr_script.proofs.seats.push_seats.Given as goal

abbrev pub invariant-loop : goal.invariant-loop
invariant-loop l = l.seats.items ≡ l.fn.seats.items ++ replicate l.counter l.seat

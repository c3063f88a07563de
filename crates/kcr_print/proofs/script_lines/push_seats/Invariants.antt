use Rattle.kcr_print.proofs.Common.{◌≡◌, ◌++◌, take, length, seat_lines}
use Rattle.kcr_print.proofs.script_lines.push_seats.Given as goal

-- behind what was there stand the seats so far
abbrev pub invariant-loop-seat : goal.invariant-loop-seat
invariant-loop-seat l = l.out.items ≡ l.initial.out.items ++ seat_lines (take (length l.yielded) l.seats) (take (length l.yielded) l.people)

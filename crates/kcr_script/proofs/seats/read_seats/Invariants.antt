use Rattle.kcr_script.proofs.Common.{◌≡◌, ◌≤◌, List, ◌++◌, length, Spells, Seat}
use Rattle.kcr_script.proofs.seats.read_seats.Given as goal

-- the seats so far, followed by those of the rest, are those of the text
abbrev pub invariant-loop-seat : goal.invariant-loop-seat
invariant-loop-seat l = record {
  on : (tail : List Seat) → Spells l.rest tail → Spells l.text (l.seats.items ++ tail);
  back : (all : List Seat) → Spells l.text all → (tail : List Seat) × Spells l.rest tail × (all ≡ l.seats.items ++ tail);
  sixteen : length l.seats.items ≤ 16;
}

abbrev pub decreases-loop-seat : goal.decreases-loop-seat
decreases-loop-seat l = length l.rest

use Rattle.std.proofs.Common.{◌≡◌, ◌≢◌, ℕ, ◌+◌, ◌<◌, ◌≤◌, true, get_or}
use Rattle.std.specs.Prelude.{SomeIndex}
use Rattle.kcr_seats.specs.People.{contains}
use Rattle.kcr_seats.proofs.search.busy_people.Given as goal

abbrev pub invariant-loop-seat : goal.invariant-loop-seat
invariant-loop-seat g l = record {
  all : (k : ℕ) → k < l.seat → k ≢ l.root → contains l.busy (get_or l.seating k 0) ≡ true;
  only : (p : ℕ) → contains l.busy p ≡ true → SomeIndex l.seating (λ k. (k ≢ l.root) × (get_or l.seating k 0 ≡ p));
  cost : l.turns ≤ l.fn.turns + l.seat;
}

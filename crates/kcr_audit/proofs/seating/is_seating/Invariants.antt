use Rattle.kcr_audit.proofs.Common.{◌≡◌, length, drop, is_seating_by}
use Rattle.kcr_audit.proofs.seating.is_seating.Given as goal

-- the people so far are eligible and stand once
abbrev pub invariant-loop-index : goal.invariant-loop-index
invariant-loop-index l = record {
  same : length l.seats ≡ length l.people;
  left : is_seating_by l.view l.ceremony l.at (drop l.index l.seats) (drop l.index l.people) ≡ is_seating_by l.view l.ceremony l.at l.seats l.people;
}

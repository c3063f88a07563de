-- The machine has a step for every command.
use Rattle.kcr_laws.proofs.Common.{suc, map, Option, Some, None, MatchOption, inl, inr, refl, if◌then◌else◌, Refusal, Key, Short, ReplyData, Command}
use Rattle.kcr_laws.proofs.Common.{Entry, History, entry_of, same_command, fault, Outcome, Accepts, Refuses, SeatRequest, seat_request, reply_to}
use Rattle.kcr_laws.proofs.Common.{with_command, IsAcceptedWith, seats, DecidesNew, DecidesRepeat, machine}
use Rattle.kcr_laws.proofs.{Firsts.first_or_none, Shortages.seating_or_least}

module _ (A : History) (x : Command) where
  -- the first seating, or a least shortage
  by_seats : (s : SeatRequest) → (outcome : Outcome) × (A' : History) × seats A x s outcome A'
  by_seats s = elim (first_or_none A s.ceremony s.at s.seats) [
    | inl w ↦ let answer : ReplyData = reply_to A x.act (Some w.0) in (Accepts answer, with_command A x answer, inl (w.0, w.1, (refl, refl)))
    | inr none ↦ elim (seating_or_least A s.ceremony s.at s.seats) [
      | inl w ↦ absurd (none w.0 w.1)
      | inr w ↦ (Refuses (Short (map suc w.0)), A, inr (w.0, w.1, (refl, refl)))
    ]
  ]

  by_sitting : (o : Option SeatRequest)
      → (outcome : Outcome) × (A' : History) × MatchOption o (IsAcceptedWith A x (reply_to A x.act None) outcome A') (λ s. seats A x s outcome A')
  by_sitting None = let answer : ReplyData = reply_to A x.act None in (Accepts answer, with_command A x answer, (refl, refl))
  by_sitting (Some s) = by_seats s

  by_entry : (e : Option Entry) (f : Option Refusal)
      → (outcome : Outcome) × (A' : History) × MatchOption e (DecidesNew A x f outcome A') (λ kept. DecidesRepeat A x kept outcome A')
  by_entry (Some kept) f = (if same_command kept.command.act x.act then Accepts kept.reply else Refuses Key, A, (refl, refl))
  by_entry None (Some refusal) = (Refuses refusal, A, (refl, refl))
  by_entry None None = by_sitting (seat_request A x.act)

  -- the command has an outcome, and a history after it
  pub always : (outcome : Outcome) × (A' : History) × machine A x outcome A'
  always = by_entry (entry_of A x.key) (fault A x.act)

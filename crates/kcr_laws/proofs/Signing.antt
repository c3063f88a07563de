-- A signature is accepted if and only if its step is next and people can be seated.
use Rattle.kcr_laws.proofs.Common.{◌≡◌, ◌≢◌, ℕ, suc, ◌<◌, true, false, List, [], map, length, Option, Some, None, is_some, inl, inr, refl, sym, ap}
use Rattle.kcr_laws.proofs.Common.{arith, unwrap_or, lt-leb, nat_tests, before_mark_refusal, Refusal, Short, Ceremony, Sign, ReplyData, History}
use Rattle.kcr_laws.proofs.Common.{entry_of, Planned, plan_of, is_ceremony, steps_of, step_at, mark, is_not_before, next, IsFirst, IsLeast, seats_at}
use Rattle.kcr_laws.proofs.Common.{fault, is_full, Outcome, Accepts, Refuses, SeatRequest, reply_to, with_command, seats, DecidesNew, machine}
use Rattle.kcr_laws.proofs.Common.{signature, IsAccepted, CanFill, IsShortOf, same_reply}
use Rattle.std.specs.Prelude.{option_map}
use Rattle.kcr_laws.proofs.{Accepted.other_outcome, Shortages.seating_or_least, Firsts.first_or_none, Halves.one_half}

-- NEXT

-- a ceremony with a step is planned
with_step : (o : Option Planned) (k : ℕ) → is_some (step_at (unwrap_or (option_map (λ plan. plan.steps) o) []) k) ≡ true → is_some o ≡ true
with_step o k h = grind arith

-- a ceremony with a step that may be signed was planned
pub next_known : (A : History) (c k at : ℕ) → next A c k at ≡ true → is_ceremony A c ≡ true
next_known A c k at h = with_step (plan_of A c) k (grind arith)

in_time : (at : ℕ) (m : Option ℕ) → is_not_before at m ≡ true → before_mark_refusal at m ≡ None
in_time at m h = grind (arith, nat_tests)

timely : (at : ℕ) (m : Option ℕ) → before_mark_refusal at m ≡ None → is_not_before at m ≡ true
timely at m h = grind (arith, nat_tests)

-- if the step is next, and there is room for a command, nothing but want of people refuses the signature
pub next_no_fault : (A : History) (c k at : ℕ) → is_full A ≡ false → next A c k at ≡ true → fault A (Ceremony c at (Sign k)) ≡ None
next_no_fault A c k at room h = grind (arith, room, next_known A c k at h, in_time at (mark A c))

-- a signature without a refusal is of a step that may be signed
pub no_fault_next : (A : History) (c k at : ℕ) → fault A (Ceremony c at (Sign k)) ≡ None → next A c k at ≡ true
no_fault_next A c k at f = grind (arith, timely at (mark A c))

-- a register with fewer commands than the limit is not full
pub room_left : (A : History) → length A < 4000000000 → is_full A ≡ false
room_left A l = lt-leb 4000000000 (length A) l

-- THE MACHINE'S STEP

-- the seats of a step
abbrev pub sitting_of : History → ℕ → ℕ → ℕ → SeatRequest
sitting_of A c k at = record { ceremony = c; at = at; seats = seats_at (steps_of A c) k }

-- what a signature under a new key tells of which no condition has the refusal
signed_parts : (A : History) (key : List ℕ) (c k at : ℕ) (outcome : Outcome) (A' : History) → entry_of A key ≡ None
    → ((r : Refusal) → fault A (Ceremony c at (Sign k)) ≡ Some r → outcome ≢ Refuses r)
    → machine A (signature key c k at) outcome A' → (fault A (Ceremony c at (Sign k)) ≡ None) × seats A (signature key c k at) (sitting_of A c k at) outcome A'
signed_parts A key c k at outcome A' new other h = by_fault (fault A (Ceremony c at (Sign k))) other (rw new at h)
  where
    by_fault : (f : Option Refusal) → ((r : Refusal) → f ≡ Some r → outcome ≢ Refuses r) → DecidesNew A (signature key c k at) f outcome A'
        → (f ≡ None) × seats A (signature key c k at) (sitting_of A c k at) outcome A'
    by_fault None n g = (refl, g)
    by_fault (Some r) n g = absurd (n r refl g.0)

-- a signature under a new key is accepted only if its step is next and people can fill its seats
pub signed_next : (A : History) (key : List ℕ) (c k at : ℕ) → entry_of A key ≡ None → IsAccepted A (signature key c k at)
    → (next A c k at ≡ true) × CanFill A c k at
signed_next A key c k at new a =
    let p = signed_parts A key c k at (Accepts a.0) (with_command A (signature key c k at) a.0) new (λ r f. other_outcome a.0 r) a.1 in
    (no_fault_next A c k at p.0, elim p.1 [ inl w ↦ (w.0, w.1.seating) | inr w ↦ absurd (other_outcome _ _ w.2.0) ])

-- a signature under a new key is accepted if its step is next, people can fill its seats, and the register is not full
pub next_signed : (A : History) (key : List ℕ) (c k at : ℕ) → entry_of A key ≡ None → length A < 4000000000 → next A c k at ≡ true → CanFill A c k at
    → IsAccepted A (signature key c k at)
next_signed A key c k at new l n (people, seating) = elim (first_or_none A c at (seats_at (steps_of A c) k)) [
  | inl w ↦ (reply_to A (Ceremony c at (Sign k)) (Some w.0), rw (new, next_no_fault A c k at (room_left A l) n) (inl (w.0, w.1, (refl, refl))))
  | inr none ↦ absurd (none people seating)
]

-- the answer to an accepted signature names the step and the first seating
pub first_recorded : (A : History) (key : List ℕ) (c k at : ℕ) (answer : ReplyData) (A' : History) → entry_of A key ≡ None
    → machine A (signature key c k at) (Accepts answer) A'
    → (people : List (List ℕ)) × IsFirst A c at (seats_at (steps_of A c) k) people × (answer.seating ≡ Some people)
first_recorded A key c k at answer A' new h = elim (signed_parts A key c k at (Accepts answer) A' new (λ r f. other_outcome answer r) h).1 [
  | inl w ↦ (w.0, w.1, ap (λ (a : ReplyData). a.seating) (same_reply _ _ w.2.0))
  | inr w ↦ absurd (other_outcome _ _ w.2.0)
]

-- WANT OF PEOPLE

-- no condition of a signature tells of want of people
never_short : (A : History) (c k at : ℕ) (p : List ℕ) (r : Refusal) → fault A (Ceremony c at (Sign k)) ≡ Some r → Refuses (Short p) ≢ Refuses r
never_short A c k at p r h e = let same : Short p ≡ r = cc in grind arith

-- which seats a signature names that is refused for want of people
pub short_named : (A : History) (key : List ℕ) (c k at : ℕ) (p : List ℕ) (A' : History) → entry_of A key ≡ None
    → machine A (signature key c k at) (Refuses (Short p)) A'
    → (positions : List ℕ) × IsLeast A c at (seats_at (steps_of A c) k) positions × (p ≡ map suc positions)
short_named A key c k at p A' new h = elim (signed_parts A key c k at (Refuses (Short p)) A' new (never_short A c k at p) h).1 [
  | inl w ↦ absurd (other_outcome _ _ (sym w.2.0))
  | inr w ↦ (w.0, w.1, cc w.2.0)
]

-- a signature under a new key is short of people only if its step is next and no people can fill its seats
pub short_next : (A : History) (key : List ℕ) (c k at : ℕ) → entry_of A key ≡ None → IsShortOf A key c k at → (next A c k at ≡ true) × (CanFill A c k at → ⊥)
short_next A key c k at new (positions, least, h) =
    let p = signed_parts A key c k at (Refuses (Short (map suc positions))) A new (never_short A c k at (map suc positions)) h in
    (no_fault_next A c k at p.0, λ f. one_half A c at (seats_at (steps_of A c) k) f.0 positions f.1 least.short)

-- a signature under a new key is short of people if its step is next, no people can fill its seats, and the register is
-- not full
pub next_short : (A : History) (key : List ℕ) (c k at : ℕ) → entry_of A key ≡ None → length A < 4000000000 → next A c k at ≡ true → (CanFill A c k at → ⊥)
    → IsShortOf A key c k at
next_short A key c k at new l n none = elim (seating_or_least A c at (seats_at (steps_of A c) k)) [
  | inl s ↦ absurd (none s)
  | inr w ↦ (w.0, w.1, rw (new, next_no_fault A c k at (room_left A l) n) (inr (w.0, w.1, (refl, refl))))
]

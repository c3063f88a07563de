-- The machine leads to the registers whose recorded seatings are the first ones, and to no others.
use Rattle.kcr_laws.proofs.Common.{◌≡◌, ℕ, List, [], ◌∷◌, Option, Some, None, MatchOption, refl, ap, inl, inr, arith, Act, ReplyData, Command}
use Rattle.kcr_laws.proofs.Common.{History, Accepts, SeatRequest, seat_request, reply_to, with_command, IsAcceptedWith, seats, IsOfMachine, IsReplyTo}
use Rattle.kcr_laws.proofs.Common.{IsRegister, IsSeatedFirst, HasFirstSeatings, follows, same_reply}
use Rattle.kcr_laws.proofs.Accepted.{other_outcome}

-- with a new key, and with nothing that refuses it, the command is accepted with this answer
abbrev IsSeated : History → Command → ReplyData → Option SeatRequest → Type 0
IsSeated A x answer o =
    MatchOption o (IsAcceptedWith A x (reply_to A x.act None) (Accepts answer) (with_command A x answer))
    (λ s. seats A x s (Accepts answer) (with_command A x answer))

-- the answer to a command that needs seats names the people
names : (A : History) (act : Act) (s : SeatRequest) (people : List (List ℕ)) → seat_request A act ≡ Some s
    → (reply_to A act (Some people)).seating ≡ Some people
names A act s people e = grind arith

seated_first : (A : History) (x : Command) (answer : ReplyData) (o : Option SeatRequest) → seat_request A x.act ≡ o → IsSeated A x answer o
    → IsSeatedFirst A o answer.seating
seated_first A x answer None e h = tt
seated_first A x answer (Some s) e (inl w) = rw (same_reply _ _ w.2.0, names A x.act s w.0 e) w.1
seated_first A x answer (Some s) e (inr w) = absurd (other_outcome _ _ w.2.0)

first_seated : (A : History) (x : Command) (answer : ReplyData) (o : Option SeatRequest) → seat_request A x.act ≡ o → IsReplyTo A x.act answer o
    → IsSeatedFirst A o answer.seating → IsSeated A x answer o
first_seated A x answer None e h first = (ap Accepts h, ap (with_command A x) h)
first_seated A x answer (Some s) e h first = inl (h.0, rw (h.2, names A x.act s h.0 e) at first, (ap Accepts h.2, ap (with_command A x) h.2))

-- in a reachable history every recorded seating is the first one
pub machine_first : (A : History) → IsOfMachine A → HasFirstSeatings A
machine_first [] m = tt
machine_first (entry ∷ A) m =
    let can = follows A entry.command entry.reply m.0 in
    (seated_first A entry.command entry.reply (seat_request A entry.command.act) refl (rw (can.new_key, can.no_fault) at m.0), machine_first A m.1)

-- a register whose recorded seatings are all first ones is a reachable history
pub first_machine : (A : History) → IsRegister A → HasFirstSeatings A → IsOfMachine A
first_machine [] h first = tt
first_machine (entry ∷ A) h first = (
  rw (h.0.new_key, h.0.no_fault) (first_seated A entry.command entry.reply (seat_request A entry.command.act) refl h.0.answered first.0),
  first_machine A h.1 first.1,
)

-- What an accepted entry tells of the history before it.
use Rattle.kcr_history.proofs.Common.{◌≡◌, ℕ, ◌+◌, List, [], ◌∷◌, length, Option, Some, None, refl, ap, arith, inl, inr, MatchOption, Refusal, Act}
use Rattle.kcr_history.proofs.Common.{History, entry_of, mark, fault, is_full, by_history, status, no_ceremony_refusal, not_open_refusal, keys}
use Rattle.kcr_history.proofs.Common.{greatest_number, Accepts, SeatRequest, seat_request, reply_to, with_command, DecidesNew, DecidesRepeat, seats}
use Rattle.kcr_history.proofs.Common.{IsAcceptedWith, machine, IsOfMachine, IsReplyTo, CanFollow, IsRegister}
use Rattle.kcr_base.specs.{Refuse.when, Refuse.before_mark_refusal, Refuse.not_after_mark_refusal, declared.refusal.Refusal.TheVariants.Full}
use Rattle.kcr_base.proofs.RefuseLemmas.{NoneHolds, none_holds}
use Rattle.kcr_custody.specs.{Custody.not_ready_refusal, declared.CeremonyStatus.CeremonyStatus}
use Rattle.kcr_history.specs.declared.commands.{ReplyData.ReplyData, Command.Command, Entry.Entry}

-- CONDITIONS OF A HISTORY that several kinds of acts have

abbrev pub no_ceremony : History → ℕ → Option Refusal
no_ceremony A ceremony = no_ceremony_refusal (by_history A) ceremony

abbrev pub not_open : History → ℕ → Option Refusal
not_open A ceremony = not_open_refusal (by_history A) ceremony

abbrev pub late : History → ℕ → ℕ → Option Refusal
late A ceremony at = before_mark_refusal at (mark A ceremony)

abbrev pub not_later : History → ℕ → ℕ → Option Refusal
not_later A ceremony at = not_after_mark_refusal at (mark A ceremony)

abbrev pub full : History → Option Refusal
full A = when (is_full A) Full

-- the key was new, no condition held, and the reply is the machine's, with the people who were seated if seats were needed
pub record Took (A : History) (entry : Entry) : Type 0 where
  pub new_key : entry_of A entry.command.key ≡ None
  pub no_fault : fault A entry.command.act ≡ None
  pub people : Option (List (List ℕ))
  pub reply : entry.reply ≡ reply_to A entry.command.act people

-- the ceremony at the moment
abbrev pub ceremony_status_at : History → ℕ → ℕ → CeremonyStatus
ceremony_status_at A ceremony at = status (by_history A) ceremony at

-- if an act of custody finds its ceremony ready, it is open, the moment is not before its mark, and the register is not full
pub none_ready : (A : History) (c at : ℕ) → not_ready_refusal (ceremony_status_at A c at) ≡ None → NoneHolds (not_open A c ∷ late A c at ∷ full A ∷ [])
none_ready A c at = none_holds (not_open A c ∷ late A c at ∷ full A ∷ [])

-- WHAT A REGISTER'S ENTRY TELLS

abbrev Told : History → Entry → Type 0
Told A entry = (people : Option (List (List ℕ))) × (entry.reply ≡ reply_to A entry.command.act people)

told_by : (A : History) (entry : Entry) (o : Option SeatRequest) → IsReplyTo A entry.command.act entry.reply o → Told A entry
told_by A entry None h = (None, h)
told_by A entry (Some s) h = (Some h.0, h.2)

-- an entry that can follow has a new key, no refusal, and the reply of its act
pub took : (A : History) (entry : Entry) → CanFollow A entry → Took A entry
took A entry h =
    let t = told_by A entry (seat_request A entry.command.act) h.answered in
    record { new_key = h.new_key; no_fault = h.no_fault; people = t.0; reply = t.1 }

-- WHAT THE MACHINE ACCEPTS CAN FOLLOW

longer : {X : Type 0} (x : X) (xs : List X) → x ∷ xs ≡ xs → ⊥
longer x xs e = omega (arith, ap length e)

-- equal outcomes that accept have the same reply
pub same_reply : (a b : ReplyData) → Accepts a ≡ Accepts b → a ≡ b
same_reply a b e = cc

module _ (A : History) (x : Command) (reply : ReplyData) where
  abbrev A' : History
  A' = with_command A x reply

  by_sitting : (o : Option SeatRequest) → MatchOption o (IsAcceptedWith A x (reply_to A x.act None) (Accepts reply) A') (λ s. seats A x s (Accepts reply) A')
      → IsReplyTo A x.act reply o
  by_sitting None h = same_reply _ _ h.0
  by_sitting (Some s) (inl w) = (w.0, w.1.seating, same_reply _ _ w.2.0)
  by_sitting (Some s) (inr w) = absurd (longer _ A w.2.1)

  by_key : (k : Option Entry) (f : Option Refusal)
      → MatchOption k (DecidesNew A x f (Accepts reply) A') (λ kept. DecidesRepeat A x kept (Accepts reply) A')
      → (k ≡ None) × (f ≡ None) × IsReplyTo A x.act reply (seat_request A x.act)
  by_key (Some kept) f h = absurd (longer _ A h.1)
  by_key None (Some refusal) h = absurd (longer _ A h.1)
  by_key None None h = (refl, refl, by_sitting (seat_request A x.act) h)

  -- the entry of a command that the machine accepts can follow the history
  pub follows : machine A x (Accepts reply) A' → CanFollow A (record { command = x; reply = reply })
  follows h =
      let k = by_key (entry_of A x.key) (fault A x.act) h in
      record { new_key = k.0; no_fault = k.1; answered = k.2 }

-- a history that the machine leads to is a register's
pub of_machine : (A : History) → IsOfMachine A → IsRegister A
of_machine [] h = tt
of_machine (entry ∷ A) h = (follows A entry.command entry.reply h.0, of_machine A h.1)

-- NUMBERS

-- each reply has its number
pub number_of_reply : (A : History) (act : Act) (people : Option (List (List ℕ))) → (reply_to A act people).accepted ≡ length A + 1
number_of_reply A act people = grind arith

-- the number of an entry is how many have been accepted with it
pub numbers : (A : History) (entry : Entry) → IsRegister (entry ∷ A) → entry.reply.accepted ≡ length (entry ∷ A)
numbers A entry h =
    let t = took A entry h.0 in
    grind (arith, t.reply, number_of_reply A entry.command.act t.people)

-- the greatest number in the table of keys is how many have been accepted
pub greatest-keys : (A : History) → IsRegister A → greatest_number (keys A) ≡ length A
greatest-keys [] h = refl
greatest-keys (entry ∷ A) h = grind (arith, numbers A entry h, greatest-keys A h.1)

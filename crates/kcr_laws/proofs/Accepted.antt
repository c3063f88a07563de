-- What holds of every register, entry by entry, and what a step of the machine keeps.
use Rattle.kcr_laws.proofs.Common.{◌≡◌, ℕ, true, List, [], ◌∷◌, Option, Some, None, MatchOption, inl, inr, Refusal, Act, ReplyData, Command, Entry}
use Rattle.kcr_laws.proofs.Common.{History, entry_of, same_command, fault, Outcome, Accepts, Refuses, SeatRequest, seat_request, reply_to}
use Rattle.kcr_laws.proofs.Common.{with_command, IsAcceptedWith, seats, DecidesNew, DecidesRepeat, machine, IsOfMachine, CanFollow, IsRegister}
use Rattle.kcr_laws.proofs.Common.{follows, AreSteps, AreAnswered, new_command}

-- equal outcomes that refuse have the same refusal
pub same_refusal : (r q : Refusal) → Refuses r ≡ Refuses q → r ≡ q
same_refusal r q e = cc

-- no outcome both accepts and refuses
pub other_outcome : (a : ReplyData) (r : Refusal) → Accepts a ≡ Refuses r → ⊥
other_outcome a r e = absurd (let f : Accepts a ≡ Refuses r = e in cc)

-- an entry by its parts
abbrev pub entry_from : List ℕ → Act → ReplyData → Entry
entry_from key act reply = record { command = record { key = key; act = act }; reply = reply }

-- what holds of the empty history, and with a further command if it held before, holds of every history
pub each_history : (P : History → Type 0) → P [] → ((A : History) (key : List ℕ) (act : Act) (reply : ReplyData) → P A → P (entry_from key act reply ∷ A))
    → (A : History) → P A
each_history P base step [] = base
each_history P base step (entry ∷ A) = step A entry.command.key entry.command.act entry.reply (each_history P base step A)

-- what an accepted command keeps holds of every register
pub each_register : (P : History → Type 0) → P []
    → ((A : History) (key : List ℕ) (act : Act) (reply : ReplyData) → IsRegister A → CanFollow A (entry_from key act reply) → P A → P (entry_from key act reply ∷ A))
    → (A : History) → IsRegister A → P A
each_register P base step [] h = base
each_register P base step (entry ∷ A) h = step A entry.command.key entry.command.act entry.reply h.1 h.0 (each_register P base step A h.1)

-- REPEATS

-- the same command under an accepted key gets its kept reply, and the history stays
pub repeated : (A : History) (x : Command) (kept : Entry) → entry_of A x.key ≡ Some kept → same_command kept.command.act x.act ≡ true
    → (outcome : Outcome) (A' : History) → machine A x outcome A' → (outcome ≡ Accepts kept.reply) × (A' ≡ A)
repeated A x kept e s outcome A' h = let g = rw e at h in (rw s at g.0, g.1)

-- STEPS FROM A REGISTER LEAD TO REGISTERS

-- what holds of a history, and of what an accepted command leads to, holds after any step
pub step_leads : (P : History → Type 0) (A : History) (x : Command) → P A
    → ((reply : ReplyData) → machine A x (Accepts reply) (with_command A x reply) → P (with_command A x reply))
    → (outcome : Outcome) (A' : History) → machine A x outcome A' → P A'
step_leads P A x r grows outcome A' h = by_entry (entry_of A x.key) (fault A x.act) h
  where
    grown : (reply : ReplyData) → outcome ≡ Accepts reply → A' ≡ with_command A x reply → P A'
    grown reply o e = rw e (grows reply (rw e at (rw o at h)))

    seated : (s : Option SeatRequest) → MatchOption s (IsAcceptedWith A x (reply_to A x.act None) outcome A') (λ q. seats A x q outcome A') → P A'
    seated None g = grown (reply_to A x.act None) g.0 g.1
    seated (Some s) (inl w) = grown (reply_to A x.act (Some w.0)) w.2.0 w.2.1
    seated (Some s) (inr w) = rw w.2.1 r

    by_entry : (k : Option Entry) (f : Option Refusal) → MatchOption k (DecidesNew A x f outcome A') (λ old. DecidesRepeat A x old outcome A') → P A'
    by_entry (Some old) f g = rw g.1 r
    by_entry None (Some refusal) g = rw g.1 r
    by_entry None None g = seated (seat_request A x.act) g

-- a step from a register leads to a register
pub step_keeps : (A : History) (x : Command) (outcome : Outcome) (A' : History) → IsRegister A → machine A x outcome A' → IsRegister A'
step_keeps A x outcome A' r = step_leads IsRegister A x r (λ reply step. (follows A x reply step, r)) outcome A'

-- a step from a reachable history leads to a reachable history
pub step_leads_on : (A : History) (x : Command) (outcome : Outcome) (A' : History) → IsOfMachine A → machine A x outcome A' → IsOfMachine A'
step_leads_on A x outcome A' m = step_leads IsOfMachine A x m (λ reply step. (step, m)) outcome A'

-- several steps from a register lead to a register
pub steps_keep : (A : History) (said : List (Act × List ℕ)) (A' : History) → IsRegister A → AreSteps A said A' → IsRegister A'
steps_keep A [] A' r h = rw h r
steps_keep A (said ∷ rest) A' r h = steps_keep h.1 rest A' (step_keeps A (new_command A said.0) h.0 h.1 r h.2) h.4

-- acts with their answers lead from a register to a register
pub answers_keep : (A A' : History) (said : List (Act × List ℕ)) → IsRegister A → AreAnswered A said A' → IsRegister A'
answers_keep A A' said r h = steps_keep A said A' r h.steps

-- What the register answers to a command, and what its history is afterwards.
use Rattle.std.specs.Prelude.{◌≡◌, ◌≢◌, ℕ, suc, ◌+◌, true, false, List, [], ◌∷◌, map, length, Option, Some, None}
use Rattle.std.specs.Prelude.{MatchOption, MatchResult, Result, ◌⊎◌, if◌then◌else◌, IsTrue}
use Rattle.kcr_base.specs.declared.place.Role.TheVariants.{Ca, Iw}
use Rattle.kcr_base.specs.declared.refusal.Refusal.{Refusal, TheVariants.Key, TheVariants.Short, TheVariants.Memory}
use Rattle.kcr_script.specs.declared.seat.Seat.{Seat, TheVariants.Staff}
use Rattle.kcr_history.specs.declared.commands.{Act.Act, Act.TheVariants.Ceremony, ReplyData.ReplyData, Command.Command, Entry.Entry}
use Rattle.kcr_history.specs.declared.{commands.Deed.TheVariants.Sign, commands.Deed.TheVariants.RecordException, views.Verdict.Verdict}
use Rattle.kcr_history.specs.{History.History, History.entry_of, Texts.same_command, Texts.reply_text}
use Rattle.kcr_history.specs.Ceremonies.{steps_of, next_step, exceptions_of}
use Rattle.kcr_history.specs.Seating.{is_seating, IsFirst, IsLeast}
use Rattle.kcr_history.specs.{Tables.tables, Tables.seats_at, Tables.SameTables, Changes.all_changed, Conditions.fault}

-- what is answered
pub data Outcome : Type 0 where
  Accepts : ReplyData → Outcome
  Refuses : Refusal → Outcome

-- SEATS

-- seats to be filled, in the room of a ceremony at a moment
pub record SeatRequest : Type 0 where
  pub ceremony : ℕ
  pub at : ℕ
  pub seats : List Seat

-- the seats of a signature are its step's, those of a passing exception CA and IW; other commands need none
abbrev pub seat_request : History → Act → Option SeatRequest
seat_request A (Ceremony ceremony at (Sign step)) =
    Some (record { ceremony = ceremony; at = at; seats = seats_at (steps_of A ceremony) step })
seat_request A (Ceremony ceremony at (RecordException text true)) =
    Some (record { ceremony = ceremony; at = at; seats = Staff Ca ∷ Staff Iw ∷ [] })
seat_request A act = None

-- ANSWERS

-- a reply that has no more than its number, one more than there were
abbrev pub plain_reply : History → ReplyData
plain_reply A = record { accepted = length A + 1; exception = None; seating = None; step = None }

-- the reply to a command that is accepted now: its number; of a signature the step, of an exception its number in the
-- ceremony and, if it passes a step, that step; the seating if there is one
abbrev pub reply_to : History → Act → Option (List (List ℕ)) → ReplyData
reply_to A (Ceremony ceremony at (Sign step)) people = record (plain_reply A) { seating = people; step = Some step }
reply_to A (Ceremony ceremony at (RecordException text true)) people =
    record (plain_reply A) {
      exception = Some (suc (exceptions_of A ceremony));
      seating = people;
      step = Some (next_step A ceremony);
    }
reply_to A (Ceremony ceremony at (RecordException text false)) people =
    record (plain_reply A) { exception = Some (suc (exceptions_of A ceremony)) }
reply_to A act people = plain_reply A

-- the history with the command accepted after it
abbrev pub with_command : History → Command → ReplyData → History
with_command A x reply = record { command = x; reply = reply } ∷ A

-- THE MACHINE

-- the command is accepted with this reply
abbrev pub IsAcceptedWith : History → Command → ReplyData → Outcome → History → Type 0
IsAcceptedWith A x reply outcome A' = (outcome ≡ Accepts reply) × (A' ≡ with_command A x reply)

-- the command is refused, and nothing changes
abbrev pub IsRefusedWith : History → Refusal → Outcome → History → Type 0
IsRefusedWith A refusal outcome A' = (outcome ≡ Refuses refusal) × (A' ≡ A)

-- seats are needed: the first seating is recorded, or a least shortage is told, its positions counted from 1
abbrev pub seats : History → Command → SeatRequest → Outcome → History → Type 0
seats A x s outcome A' =
    ((people : List (List ℕ)) × IsFirst A s.ceremony s.at s.seats people
    × IsAcceptedWith A x (reply_to A x.act (Some people)) outcome A')
    ⊎ ((positions : List ℕ) × IsLeast A s.ceremony s.at s.seats positions
    × IsRefusedWith A (Short (map suc positions)) outcome A')

-- a new key: the first refusal; or seats are needed; or the command is accepted
abbrev pub DecidesNew : History → Command → Option Refusal → Outcome → History → Type 0
DecidesNew A x (Some refusal) outcome A' = IsRefusedWith A refusal outcome A'
DecidesNew A x None outcome A' =
    MatchOption (seat_request A x.act) (IsAcceptedWith A x (reply_to A x.act None) outcome A') (λ s. seats A x s outcome A')

-- a key that was accepted before: with the same command its kept reply, with another a refusal; nothing changes
abbrev pub DecidesRepeat : History → Command → Entry → Outcome → History → Type 0
DecidesRepeat A x kept outcome A' =
    (outcome ≡ (if same_command kept.command.act x.act then Accepts kept.reply else Refuses Key)) × (A' ≡ A)

-- one step of the machine: from history A the command has this outcome and leads to A'
abbrev pub machine : History → Command → Outcome → History → Type 0
machine A x outcome A' =
    MatchOption (entry_of A x.key) (DecidesNew A x (fault A x.act) outcome A') (λ kept. DecidesRepeat A x kept outcome A')

-- a history that the machine leads to from the empty one
abbrev pub IsOfMachine : History → Type 0
IsOfMachine [] = Unit {0}
IsOfMachine (entry ∷ A) = machine A entry.command (Accepts entry.reply) (entry ∷ A) × IsOfMachine A

-- REGISTERS

-- the reply is that of the act if it is accepted; if it needs seats, with some people who fill them
abbrev pub IsReplyTo : History → Act → ReplyData → Option SeatRequest → Type 0
IsReplyTo A act reply None = reply ≡ reply_to A act None
IsReplyTo A act reply (Some s) =
    (people : List (List ℕ)) × IsTrue (is_seating A s.ceremony s.at s.seats people)
    × (reply ≡ reply_to A act (Some people))

-- the entry can come next: its key is new, nothing refuses its command, and its reply is one of that command, whether
-- or not the seating in it is the first one
pub record CanFollow (A : History) (entry : Entry) : Type 0 where
  pub new_key : entry_of A entry.command.key ≡ None
  pub no_fault : fault A entry.command.act ≡ None
  pub answered : IsReplyTo A entry.command.act entry.reply (seat_request A entry.command.act)

-- a register's history: each entry can follow those before it
abbrev pub IsRegister : History → Type 0
IsRegister [] = Unit {0}
IsRegister (entry ∷ A) = CanFollow A entry × IsRegister A

-- DECISIONS

-- the verdict accepts the command with this reply: its changes lead from the tables before to those after, up to the
-- order of rows; its reply is the text of it
pub record IsAcceptance (A : History) (x : Command) (verdict : Verdict) (new_reply : ReplyData) : Type 0 where
  pub step : machine A x (Accepts new_reply) (with_command A x new_reply)
  pub tables : SameTables (all_changed verdict.changes.items (tables A)) (tables (with_command A x new_reply))
  pub reply : verdict.reply.text ≡ reply_text new_reply

-- the verdict gives the reply that was kept of an earlier command under the same key: it changes nothing
pub record IsRepeat (A : History) (x : Command) (verdict : Verdict) (kept : Entry) : Type 0 where
  pub found : entry_of A x.key ≡ Some kept
  pub step : machine A x (Accepts kept.reply) A
  pub changes : verdict.changes.items ≡ []
  pub reply : verdict.reply.text ≡ reply_text kept.reply

-- the result of a decision is a step of the machine; out of memory may be answered in its place
abbrev pub IsDecision : History → Command → Result Verdict Refusal → Type 0
IsDecision A x result =
    MatchResult result
    (λ verdict. MatchOption verdict.new_reply ((kept : Entry) × IsRepeat A x verdict kept) (IsAcceptance A x verdict))
    (λ refusal. refusal ≢ Memory → machine A x (Refuses refusal) A)

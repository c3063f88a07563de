-- A run of the machine over the messages of a stream, and the bytes of its answers.
use Rattle.std.specs.Prelude.{◌≡◌, ℕ, true, List, [], ◌∷◌, ◌++◌, length, map, Option, Some, Ok, MatchBool}
use Rattle.std.specs.{List.flat_map, Io.KnownBytes.Appends}
use Rattle.httparse.specs.Grammar.{RequestHead}
use Rattle.kcr_desk.specs.{declared.head.Framing.Framing, Framing.is_head}
use Rattle.kcr_base.specs.declared.refusal.Refusal.TheVariants.{Cut}
use Rattle.kcr_desk.specs.Stream.{Message, Ending, clean_end, refused, cut_off, HasHead, IsMessage, IsEnd, AreMessages, framing_of}
use Rattle.kcr_desk.specs.Texts.{ResponseValue, answer, continue_text, fault_response}
use Rattle.kcr_print.specs.Written.{WritesPrefix}

-- what the register is asked
pub record Request : Type 0 where
  pub method : List ℕ
  pub target : List ℕ
  pub body : List ℕ

abbrev pub request_of : Message → Request
request_of m = record { method = m.head.method; target = m.head.target; body = m.body }

-- a message, and what the register told
pub record Exchange : Type 0 where
  pub message : Message
  pub reply : ResponseValue

abbrev pub messages_of : List Exchange → List Message
messages_of exchanges = map (λ x. x.message) exchanges

-- the machine's steps over the messages lead from before to after
abbrev pub Run : {S : Type 0} → (S → Request → ResponseValue → S → Type 0) → S → List Exchange → S → Type 0
Run step before [] after = before ≡ after
Run {S} step before (x ∷ xs) after =
    (next : S) × step before (request_of x.message) x.reply next × Run step next xs after

-- the bytes of one answer
abbrev pub exchange_text : Exchange → List ℕ
exchange_text x =
    continue_text x.message.plan ++ answer (is_head x.message.head.method) x.message.plan.closes x.reply

-- the bytes that a stream's end is answered by
abbrev pub ending_text : Ending → List ℕ
ending_text clean_end = []
ending_text (refused r head_only) = answer head_only true (fault_response r)
ending_text (cut_off plan head_only) = continue_text plan ++ answer head_only true (fault_response Cut)

-- all that is written
abbrev pub output : List Exchange → Ending → List ℕ
output exchanges ending = flat_map exchange_text exchanges ++ ending_text ending

-- the whole input was answered. What was read is known if the reader says it
pub record IsServed
    {S : Type 0} (step : S → Request → ResponseValue → S → Type 0) (input : Option (List ℕ))
    (old_contents new_contents : Option (List ℕ)) (before after : S) (count : ℕ) : Type 0 where
  pub exchanges : List Exchange
  pub ending : Ending
  pub cut : (bytes : List ℕ) → input ≡ Some bytes → AreMessages bytes (messages_of exchanges) ending
  pub run : Run step before exchanges after
  pub written : Appends old_contents new_contents (output exchanges ending)
  pub requests : count ≡ length exchanges

-- what is written next, to the rest behind whole messages
pub data IsNextOutput : List ℕ → List ℕ → Type 0 where
  nothing : {rest : List ℕ} → IsNextOutput rest []
  continues : {rest : List ℕ} {plan : Framing} (h : RequestHead) (after : List ℕ) → HasHead rest h after
      → framing_of h ≡ Ok plan → IsNextOutput rest (continue_text plan)
  ends : {rest : List ℕ} (e : Ending) → IsEnd rest e → IsNextOutput rest (ending_text e)

-- bytes begins with these messages, and then next is what is written. Nothing is, after a message that closes
abbrev pub Begins : List ℕ → List Message → List ℕ → Type 0
Begins bytes [] next = IsNextOutput bytes next
Begins bytes (m ∷ ms) next =
    (rest : List ℕ) × IsMessage bytes m rest
    × MatchBool m.plan.closes ((ms ≡ []) × (next ≡ [])) (Begins rest ms next)

-- a beginning was answered, and a prefix of its answer was written
pub record IsServedInPart
    {S : Type 0} (step : S → Request → ResponseValue → S → Type 0) (input : Option (List ℕ))
    (old_contents new_contents : Option (List ℕ)) (before after : S) : Type 0 where
  pub exchanges : List Exchange
  pub next : List ℕ
  pub begins : (bytes : List ℕ) → input ≡ Some bytes → Begins bytes (messages_of exchanges) next
  pub run : Run step before exchanges after
  pub written : WritesPrefix old_contents new_contents (flat_map exchange_text exchanges ++ next)

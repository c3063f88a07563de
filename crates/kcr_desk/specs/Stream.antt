-- What a stream of bytes says: messages one after the other, and then nothing or one faulty item.
use Rattle.std.specs.Prelude.{◌≡◌, ℕ, ◌<◌, ◌≤◌, Bool, false, List, [], ◌∷◌, ◌++◌, length, map, Result, Ok, Err, MatchBool}
use Rattle.httparse.specs.Grammar.{LineEnd, print_blank, RequestHead, print_request, ReadsRequest}
use Rattle.httparse.specs.Spans.{name_and_value}
use Rattle.kcr_desk.specs.{declared.head.Framing.Framing, declared.head.TheConstants.MAX_HEAD, Framing.planned, Framing.is_head}
use Rattle.kcr_base.specs.declared.refusal.Refusal.{Refusal, TheVariants.Head}

-- what the fields of a head ask for, or the refusal of its first test that fails
abbrev pub framing_of : RequestHead → Result Framing Refusal
framing_of h = planned h.minor (map name_and_value h.fields)

-- bytes is a head within the limits, and then rest
pub record HasHead (bytes : List ℕ) (h : RequestHead) (rest : List ℕ) : Type 0 where
  pub reads : ReadsRequest bytes h rest
  pub short : length (print_request h) ≤ MAX_HEAD
  pub few : length h.fields ≤ 64

abbrev pub HasNoHead : List ℕ → Type 0
HasNoHead bytes = (h : RequestHead) (rest : List ℕ) → ¬ (HasHead bytes h rest)

-- nothing, or at most 8,192 bytes of whole empty lines
pub record IsBlankRest (bytes : List ℕ) : Type 0 where
  pub ends : List LineEnd
  pub is : bytes ≡ print_blank ends
  pub short : length bytes ≤ MAX_HEAD

-- a head, what it asks for, and its body
pub record Message : Type 0 where
  pub head : RequestHead
  pub plan : Framing
  pub body : List ℕ

-- bytes is the whole message, and then rest
pub record IsMessage (bytes : List ℕ) (m : Message) (rest : List ℕ) : Type 0 where
  pub head : HasHead bytes m.head (m.body ++ rest)
  pub plan : framing_of m.head ≡ Ok m.plan
  pub body : length m.body ≡ m.plan.length

-- how a stream ends: with no faulty item; with one that is refused, to a HEAD or not; with a body that is cut
pub data Ending : Type 0 where
  clean_end : Ending
  refused : Refusal → Bool → Ending
  cut_off : Framing → Bool → Ending

-- what bytes is, if it does not begin with a whole message
pub data IsEnd : List ℕ → Ending → Type 0 where
  is_blank_rest : {bytes : List ℕ} → IsBlankRest bytes → IsEnd bytes clean_end
  no_head : {bytes : List ℕ} → HasNoHead bytes → ¬ (IsBlankRest bytes) → IsEnd bytes (refused Head false)
  fails : {bytes : List ℕ} {r : Refusal} (h : RequestHead) (rest : List ℕ) → HasHead bytes h rest
      → framing_of h ≡ Err r → IsEnd bytes (refused r (is_head h.method))
  is_cut : {bytes : List ℕ} {plan : Framing} (h : RequestHead) (rest : List ℕ) → HasHead bytes h rest
      → framing_of h ≡ Ok plan → length rest < plan.length → IsEnd bytes (cut_off plan (is_head h.method))

-- the whole input: its messages, and how it ends. Nothing after a message that closes is a message or a faulty item
abbrev pub AreMessages : List ℕ → List Message → Ending → Type 0
AreMessages bytes [] e = IsEnd bytes e
AreMessages bytes (m ∷ ms) e =
    (rest : List ℕ) × IsMessage bytes m rest
    × MatchBool m.plan.closes ((ms ≡ []) × (e ≡ clean_end)) (AreMessages rest ms e)

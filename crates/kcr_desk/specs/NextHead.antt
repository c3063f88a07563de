-- What was found at the front of a stream: buf was taken in, and unread is still to be read, if it is known.
use Rattle.std.specs.Prelude.{◌≡◌, ℕ, ◌+◌, ◌≤◌, false, List, length, Option, Some, Ok}
use Rattle.std.specs.Io.KnownBytes.{prepend_known}
use Rattle.httparse.specs.{Grammar.RequestHead, declared.spans.RequestSpans.RequestSpans}
use Rattle.kcr_history.specs.Refusals.{carries}
use Rattle.kcr_desk.specs.{declared.head.Framing.Framing, Heads.IsWhole}
use Rattle.kcr_desk.specs.declared.input_buffer.NextHead.{NextHead, TheVariants.Whole, TheVariants.Refused, TheVariants.Quiet}
use Rattle.kcr_desk.specs.Stream.{framing_of, IsEnd, Ending, clean_end, refused}

-- the stream that is left is such an end, if it is known
abbrev pub EndsAs : Option (List ℕ) → Ending → Type 0
EndsAs left e = (bytes : List ℕ) → left ≡ Some bytes → IsEnd bytes e

-- buf begins with a head that asks for this
pub record HasFraming (buf : List ℕ) (spans : RequestSpans) (plan : Framing) : Type 0 where
  pub head : RequestHead
  pub whole : IsWhole buf spans head
  pub planned : framing_of head ≡ Ok plan
  pub fits : spans.len + plan.length ≤ 139264

abbrev pub IsNextHead : Option (List ℕ) → List ℕ → NextHead → Type 0
IsNextHead unread buf (Whole spans plan) = HasFraming buf spans plan
IsNextHead unread buf (Refused r head_only) = EndsAs (prepend_known buf unread) (refused r head_only) × (carries r ≡ false)
IsNextHead unread buf Quiet = EndsAs (prepend_known buf unread) clean_end

-- buf begins with a head, and with its body
pub record IsReady (buf : List ℕ) (spans : RequestSpans) (plan : Framing) : Type 0 where
  pub front : HasFraming buf spans plan
  pub enough : spans.len + plan.length ≤ length buf

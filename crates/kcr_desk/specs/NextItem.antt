-- What one turn of the desk found and answered.
use Rattle.std.specs.Prelude.{◌≡◌, ℕ, ◌+◌, List, ◌++◌, Option, Some, Result, MatchResult, slice_range}
use Rattle.httparse.specs.{Spans.span_bytes, declared.spans.RequestSpans.RequestSpans}
use Rattle.kcr_desk.specs.declared.{fault.DeskFault.DeskFault, head.Framing.Framing, input_buffer.InputBuffer.InputBuffer}
use Rattle.kcr_desk.specs.declared.stream.NextItem.{NextItem, TheVariants.Message, TheVariants.Ended}
use Rattle.kcr_desk.specs.{Stream.Ending, Output.IsQueued, NextHead.IsReady, NextHead.EndsAs}
use Rattle.kcr_desk.specs.{Texts.continue_text, Input.left, Input.unread, Run.Request, Run.ending_text, Run.IsNextOutput}
use Rattle.kcr_desk.specs.Streams.{Streams, bytes_before, bytes_after}
use Rattle.kcr_print.specs.Written.{WritesPrefix}

-- left is what is known of the stream, buf the bytes that were taken in, and waited what waited to be written before
abbrev pub IsNextItem : Option (List ℕ) → List ℕ → Option (List ℕ) → Option (List ℕ) → List ℕ → List ℕ → NextItem → Type 0
IsNextItem left buf old_contents new_contents waited queue (Message spans plan) =
    IsReady buf spans plan × IsQueued old_contents new_contents (waited ++ continue_text plan) queue
IsNextItem left buf old_contents new_contents waited queue Ended =
    (e : Ending) × EndsAs left e × IsQueued old_contents new_contents (waited ++ ending_text e) queue

-- a fault came in the middle of a turn
pub record BreaksItem (left old_contents new_contents : Option (List ℕ)) (waited : List ℕ) : Type 0 where
  pub next : List ℕ
  pub is_next : (bytes : List ℕ) → left ≡ Some bytes → IsNextOutput bytes next
  pub written : WritesPrefix old_contents new_contents (waited ++ next)

-- the turn, or how far it was answered if a fault came
abbrev pub EndsItem : {R W : Type 0} → Streams R W → InputBuffer → InputBuffer → List ℕ → List ℕ
    → Result NextItem DeskFault → Type 0
EndsItem s old new waited queue result =
    MatchResult result
    (IsNextItem (left s.remaining old s.before) (unread new) (bytes_before s.output) (bytes_after s.output) waited queue)
    (λ _. BreaksItem (left s.remaining old s.before) (bytes_before s.output) (bytes_after s.output) waited)

-- what the register is asked by the message that buf begins with
abbrev pub request_of_buffer : List ℕ → RequestSpans → Framing → Request
request_of_buffer buf spans plan = record {
  method = span_bytes buf spans.method;
  target = span_bytes buf spans.path;
  body = slice_range buf spans.len (spans.len + plan.length);
}

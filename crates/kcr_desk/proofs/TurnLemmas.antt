-- One turn of the desk.
use Rattle.kcr_desk.proofs.Common.{rules, ◌≡◌, ℕ, ◌+◌, ◌<◌, ◌≤◌, List, [], ◌++◌, length, drop, arith, append_assoc, length-append, length-drop}
use Rattle.kcr_desk.proofs.Common.{Option, prepend_known, IsAtEnd, append-nil, span_bytes, RequestSpans, Framing, Stays, is_head, Ending, cut_off}
use Rattle.kcr_desk.proofs.Common.{is_cut, IsHeadAt, EndsAs, HasFraming, continue_text, ending_text, nothing, continues, ends}
use Rattle.kcr_desk.proofs.Common.{Ended, IsNextItem, BreaksItem, IsQueued, WritesPrefix}
use Rattle.kcr_desk.specs.declared.stream.NextItem.{NextItem, TheVariants.Message}
use Rattle.kcr_desk.proofs.{FoundLemmas.known_split, FoundLemmas.ends_here, FoundLemmas.head_here, HeadLemmas.within_more}
use Rattle.kcr_desk.proofs.WaitingLemmas.{with_more, sent_front, sent_on}

-- a fault that comes while the answers that wait are written breaks the turn
pub breaks_at_once : (left a b : Option (List ℕ)) {w : List ℕ} → WritesPrefix a b w → BreaksItem left a b w
breaks_at_once left a b front = record { next = []; is_next = λ bytes e. nothing; written = rw append-nil front }

-- an end of a stream is one by all that was known of it before
pub ends_before : (old new : Option (List ℕ)) (e : Ending) → Stays old new → EndsAs new e → EndsAs old e
ends_before old new e stays at_new bytes is = at_new bytes (stays bytes is)

-- a fault that comes while the end is answered breaks the turn
pub breaks_ending : {left a b : Option (List ℕ)} {w : List ℕ} (e : Ending) → EndsAs left e → WritesPrefix a b (w ++ ending_text e) → BreaksItem left a b w
breaks_ending e end front = record { next = ending_text e; is_next = λ bytes is. ends e (end bytes is); written = front }

-- a fault that comes while the client is told to continue breaks the turn
pub breaks_continue : {buf : List ℕ} {left a b : Option (List ℕ)} {w : List ℕ} {spans : RequestSpans} {plan : Framing} (unread : Option (List ℕ))
    → HasFraming buf spans plan → Stays left (prepend_known buf unread) → WritesPrefix a b (w ++ continue_text plan) → BreaksItem left a b w
breaks_continue {buf} {plan = plan} unread has stays front = record {
  next = continue_text plan;
  written = front;
  is_next = λ bytes is.
      let k = known_split buf unread bytes (stays bytes is) in rw k.2 at (continues has.head _ (has.whole.at k.0).head has.planned);
}

-- a turn, behind what was read before it
pub turn_later : {old left a b : Option (List ℕ)} {w v : List ℕ} (buf : List ℕ) (c : Option (List ℕ)) (u : List ℕ) → Stays old left
    → IsQueued a b w v → (turn : NextItem) → IsNextItem left buf b c v u turn → IsNextItem old buf a c w u turn
turn_later buf c u stays so_far (Message spans plan) is = (is.0, sent_on (with_more (continue_text plan) so_far) is.1)
turn_later {old} {left} buf c u stays so_far Ended is =
    (is.0, ends_before old left is.0 stays is.1, sent_on (with_more (ending_text is.0) so_far) is.2)

-- a fault after some of the answers were written breaks the turn as it was at its start
pub breaks_later : {old left a b : Option (List ℕ)} {w v : List ℕ} (c : Option (List ℕ)) → Stays old left → IsQueued a b w v
    → BreaksItem left b c v → BreaksItem old a c w
breaks_later c stays so_far breaks =
    let written = sent_front c (with_more breaks.next so_far) breaks.written in search (rules, breaks.is_next, stays, written)

-- a head that more follows
pub plan_more : {buf new : List ℕ} {spans : RequestSpans} {plan : Framing} (more : List ℕ) → HasFraming buf spans plan → new ≡ buf ++ more
    → HasFraming new spans plan
plan_more {buf} {new} {spans} {plan} more has e =
    let w = has.whole in
    let longer : length buf ≤ length (buf ++ more) = simp length-append (omega arith) in
    let at : (later : List ℕ) → IsHeadAt ((buf ++ more) ++ later) spans has.head = λ later. rw append_assoc (w.at (more ++ later)) in
    rw e (record {
      head = has.head;
      planned = has.planned;
      fits = has.fits;
      whole = search (rules, at, w, within_more spans.method longer w.method, within_more spans.path longer w.path);
    })

-- a stream whose body is shorter than its head asks for ends cut off
pub cut_ends : {buf : List ℕ} {spans : RequestSpans} {plan : Framing} (unread : Option (List ℕ)) → HasFraming buf spans plan
    → length buf < spans.len + plan.length → IsAtEnd unread → EndsAs (prepend_known buf unread) (cut_off plan (is_head (span_bytes buf spans.method)))
cut_ends {buf} {spans} {plan} unread has few end =
    let here = head_here buf spans has.head has.whole in
    let len : spans.len ≤ length buf = has.whole.len in
    let short : length (drop spans.len buf) < plan.length = simp length-drop (omega arith) in
    rw here.method (ends_here buf unread _ end (is_cut has.head _ here.head has.planned short))

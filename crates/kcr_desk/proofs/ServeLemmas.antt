-- The messages so far, and what is left of the stream.
use Rattle.kcr_desk.proofs.Common.{◌≡◌, ℕ, ◌+◌, ◌≤◌, List, [], ◌∷◌, ◌++◌, length, drop, refl, sym, ap, subst, arith, append_assoc}
use Rattle.kcr_desk.proofs.Common.{length-append, Option, Bool, true, MatchBool, slice_range, flat_map, Appends, prepend_known}
use Rattle.kcr_desk.proofs.Common.{append-nil, drop-append-le, RequestSpans, Framing, Stays}
use Rattle.kcr_desk.proofs.Common.{is_head, Message, Ending, clean_end, IsMessage, AreMessages, EndsAs, IsReady, ResponseValue}
use Rattle.kcr_desk.proofs.Common.{continue_text, Request, request_of, Exchange, Run, exchange_text, messages_of, ending_text, Begins, IsServed}
use Rattle.kcr_desk.proofs.Common.{IsServedInPart, nothing, BreaksItem, request_of_buffer, IsQueued, WritesPrefix}
use Rattle.std.specs.Prelude.{Some, false}
use Rattle.std.proofs.lemmas.Grind.{flat_map-append}
use Rattle.kcr_desk.specs.Texts.{answer}
use Rattle.kcr_desk.proofs.{FoundLemmas.known_split, FoundLemmas.head_here, HeadLemmas.slice_more}
use Rattle.kcr_desk.proofs.WaitingLemmas.{gathered_nothing, with_more, sent_whole, sent_front, sent_on}
use Rattle.httparse.proofs.RunLemmas.{drop_split, length-slice_range}

-- bytes is the messages of these exchanges, none of which closes, and then what is left
abbrev pub IsFront : Option (List ℕ) → List ℕ → List Exchange → Type 0
IsFront left bytes [] = left ≡ Some bytes
IsFront left bytes (x ∷ xs) = (after : List ℕ) × IsMessage bytes x.message after × (x.message.plan.closes ≡ false) × IsFront left after xs

-- the message with which buf begins
abbrev message_of : (buf : List ℕ) (spans : RequestSpans) (plan : Framing) → IsReady buf spans plan → Message
message_of buf spans plan ready = record { head = ready.front.head; plan = plan; body = slice_range buf spans.len (spans.len + plan.length) }

-- what holds between two messages
pub record Serving
    {S : Type 0} (step : S → Request → ResponseValue → S → Type 0) (input left old_contents new_contents : Option (List ℕ))
    (queue : List ℕ) (before now : S) (count : ℕ) : Type 0 where
  pub exchanges : List Exchange
  pub front : (bytes : List ℕ) → input ≡ Some bytes → IsFront left bytes exchanges
  pub run : Run step before exchanges now
  pub written : IsQueued old_contents new_contents (flat_map exchange_text exchanges) queue
  pub requests : count ≡ length exchanges

-- before the first message nothing is held and nothing waits
pub serving_first : {S : Type 0} (step : S → Request → ResponseValue → S → Type 0) (input contents : Option (List ℕ)) (s : S)
    → Serving step input (prepend_known [] input) contents contents [] s s 0
serving_first step input contents s = record {
  exchanges = [];
  run = refl;
  requests = refl;
  front = λ bytes is. ap (prepend_known []) is;
  written = gathered_nothing contents [];
}

-- what holds of bytes with a message in front that does not close, if it holds of the rest
abbrev Grows : (List ℕ → List Exchange → Type 0) → Type 0
Grows P = (bytes : List ℕ) (x : Exchange) (rest : List ℕ) (xs : List Exchange) → IsMessage bytes x.message rest
    → x.message.plan.closes ≡ false → P rest xs → P bytes (x ∷ xs)

-- so what holds of what is left holds of the whole
from_front : (P : List ℕ → List Exchange → Type 0) → Grows P → (left : Option (List ℕ)) (ys : List Exchange)
    → ((rest : List ℕ) → left ≡ Some rest → P rest ys) → (bytes : List ℕ) (xs : List Exchange) → IsFront left bytes xs → P bytes (xs ++ ys)
from_front P grows left ys end bytes [] e = end bytes e
from_front P grows left ys end bytes (x ∷ xs) f = grows bytes x f.0 (xs ++ ys) f.1 f.2 (from_front P grows left ys end f.0 xs f.3)

-- the messages up to this end, and those before this output
abbrev CutBy : Ending → List ℕ → List Exchange → Type 0
CutBy e bytes xs = AreMessages bytes (messages_of xs) e

abbrev BeginsBy : List ℕ → List ℕ → List Exchange → Type 0
BeginsBy next bytes xs = Begins bytes (messages_of xs) next

cut_grows : (e : Ending) → Grows (CutBy e)
cut_grows e bytes x rest xs is open' more = (rest, is, rw open' more)

begins_grows : (next : List ℕ) → Grows (BeginsBy next)
begins_grows next bytes x rest xs is open' more = (rest, is, rw open' more)

-- nothing yet, after a message that closes or not
begins_last : (closes : Bool) (rest : List ℕ) → MatchBool closes ((◌≡◌ {A = List Message} [] []) × (◌≡◌ {A = List ℕ} [] [])) (Begins rest [] [])
begins_last closes rest = grind (arith, nothing)

run_snoc : {S : Type 0} (step : S → Request → ResponseValue → S → Type 0) (a : S) (xs : List Exchange) (b : S) (x : Exchange) (c : S)
    → Run step a xs b → step b (request_of x.message) x.reply c → Run step a (xs ++ x ∷ []) c
run_snoc step a [] b x c e s = (c, rw e s, refl)
run_snoc step a (y ∷ xs) b x c r s = (r.0, r.1, run_snoc step r.0 xs b x c r.2 s)

-- a buffer that is ready, before whatever bytes are unread, begins with its message
message_is : (buf u : List ℕ) (spans : RequestSpans) (plan : Framing) (is : IsReady buf spans plan)
    → IsMessage (buf ++ u) (message_of buf spans plan is) (drop (spans.len + plan.length) (buf ++ u))
message_is buf u spans plan is =
    let at = spans.len in
    let end : ℕ = at + plan.length in
    let ordered : at ≤ end = omega arith in
    record {
      head = rw (← (slice_more buf u at end ordered is.enough), ← (drop_split (buf ++ u) at end ordered)) (is.front.whole.at u).head;
      plan = is.front.planned;
      body = let e = length-slice_range buf at end ordered is.enough in omega (arith, e);
    }

-- ---- a turn

module _ {S : Type 0} {step : S → Request → ResponseValue → S → Type 0} {input left a b : Option (List ℕ)} {w : List ℕ}
    {before now : S} {n : ℕ} (so_far : Serving step input left a b w before now n) where
  -- a stream that ended is served whole if all that waits is written
  pub ended_served : (e : Ending) (c d : Option (List ℕ)) {v : List ℕ} → EndsAs left e → IsQueued b c (w ++ ending_text e) v
      → Appends c d v → IsServed step input a d before now n
  ended_served e c d end gathered written = record {
    exchanges = so_far.exchanges;
    run = so_far.run;
    requests = so_far.requests;
    ending = e;
    cut = λ bytes is. rw append-nil at (from_front (CutBy e) (cut_grows e) left [] end bytes so_far.exchanges (so_far.front bytes is));
    written = sent_whole d (sent_on (with_more (ending_text e) so_far.written) gathered) written;
  }

  -- a stream is served in part if a fault breaks its next turn
  pub turn_broken : {c : Option (List ℕ)} → BreaksItem left b c w → IsServedInPart step input a c before now
  turn_broken {c} breaks = record {
    exchanges = so_far.exchanges;
    run = so_far.run;
    next = breaks.next;
    begins = λ bytes is.
        rw append-nil at (from_front (BeginsBy breaks.next) (begins_grows _) left [] breaks.is_next bytes so_far.exchanges (so_far.front bytes is));
    written = sent_front c (with_more breaks.next so_far.written) breaks.written;
  }

  -- a message that buf begins with, and that was answered
  module _ {buf : List ℕ} {spans : RequestSpans} {plan : Framing} (is : IsReady buf spans plan) (unread : Option (List ℕ))
      (stays : Stays left (prepend_known buf unread)) (reply : ResponseValue) (after : S)
      (told : step now (request_of_buffer buf spans plan) reply after) (c d : Option (List ℕ)) {v : List ℕ}
      (continued : IsQueued b c (w ++ continue_text plan) v) where
    abbrev exchange : Exchange
    exchange = record { message = message_of buf spans plan is; reply = reply }

    abbrev exchanges_then : List Exchange
    exchanges_then = so_far.exchanges ++ exchange ∷ []

    abbrev this_answer : List ℕ
    this_answer = answer (is_head (request_of_buffer buf spans plan).method) plan.closes reply

    abbrev behind : List ℕ → List ℕ
    behind u = drop (spans.len + plan.length) (buf ++ u)

    run_then : Run step before exchanges_then after
    run_then =
        let at = head_here buf spans is.front.head is.front.whole in
        run_snoc step before so_far.exchanges now exchange after so_far.run (rw (at.method, at.path) at told)

    count_then : n + 1 ≡ length exchanges_then
    count_then = simp length-append (let e : n ≡ length so_far.exchanges = so_far.requests in omega arith)

    -- what holds of bytes that begin with this message holds of the input
    then : (P : List ℕ → List Exchange → Type 0) → Grows P
        → ((u : List ℕ) → unread ≡ Some u → IsMessage (buf ++ u) exchange.message (behind u) → P (buf ++ u) (exchange ∷ []))
        → (bytes : List ℕ) → input ≡ Some bytes → P bytes exchanges_then
    then P grows last bytes known =
        from_front P grows left (exchange ∷ []) (λ rest e. let k = known_split buf unread rest (stays rest e) in
        subst (λ t. P t (exchange ∷ [])) k.2 (last k.0 k.1 (message_is buf k.0 spans plan is))) bytes so_far.exchanges (so_far.front bytes known)

    -- what waits, and the answer behind it
    answered : IsQueued a c (flat_map exchange_text exchanges_then) (v ++ this_answer)
    answered =
        let at = head_here buf spans is.front.head is.front.whole in
        let e : (flat_map exchange_text so_far.exchanges ++ continue_text plan) ++ this_answer ≡ flat_map exchange_text exchanges_then =
        rw at.method (simp (flat_map-append, append-nil, append_assoc)) in
        rw e at (with_more this_answer (sent_on (with_more (continue_text plan) so_far.written) continued))

    -- after an answer that keeps the stream open one message more is served
    pub serving_then : {u : List ℕ} → plan.closes ≡ false → IsQueued c d (v ++ this_answer) u
        → Serving step input (prepend_known (drop (spans.len + plan.length) buf) unread) a d u before after (n + 1)
    serving_then open' gathered = record {
      exchanges = exchanges_then;
      run = run_then;
      requests = count_then;
      front = then (IsFront _) (λ bytes x rest xs is' closes more. (rest, is', closes, more))
          (λ u known m. (behind u, m, open', rw known (ap Some (sym (drop-append-le (spans.len + plan.length) buf u is.enough)))));
      written = sent_on answered gathered;
    }

    -- after an answer that closes the stream it is served whole if all that waits is written
    pub closed_served : (e : Option (List ℕ)) {u : List ℕ} → plan.closes ≡ true → IsQueued c d (v ++ this_answer) u → Appends d e u
        → IsServed step input a e before after (n + 1)
    closed_served e closed gathered written = record {
      exchanges = exchanges_then;
      run = run_then;
      requests = count_then;
      ending = clean_end;
      cut = then (CutBy clean_end) (cut_grows clean_end) (λ u known m. (behind u, m, simp closed (refl, refl)));
      written = rw append-nil (sent_whole e (sent_on answered gathered) written);
    }

    -- after an answer the stream is served in part if only a prefix of what waits is written
    pub closed_broken : (e : Option (List ℕ)) {u : List ℕ} → IsQueued c d (v ++ this_answer) u → WritesPrefix d e u
        → IsServedInPart step input a e before after
    closed_broken e gathered front = record {
      exchanges = exchanges_then;
      run = run_then;
      next = [];
      begins = then (BeginsBy []) (begins_grows []) (λ u known m. (behind u, m, begins_last plan.closes (behind u)));
      written = rw append-nil (sent_front e (sent_on answered gathered) front);
    }

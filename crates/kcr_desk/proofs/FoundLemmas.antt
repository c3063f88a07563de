-- From what a buffer shows to what the stream is.
use Rattle.kcr_desk.proofs.Common.{arith, ◌≡◌, ℕ, List, [], ◌++◌, Option, Err, prepend_known, IsAtEnd, append-nil, IsWhole, EndsAs}
use Rattle.kcr_desk.proofs.Common.{RequestHead, span_bytes, RequestSpans, Refusal, is_head, Ending, framing_of, IsEnd, refused, fails, IsHeadAt}
use Rattle.std.specs.Prelude.{Some}

-- what is known of the stream: the buffer, and then the bytes that are unread
pub known_split : (buf : List ℕ) (unread : Option (List ℕ)) (p : List ℕ) → prepend_known buf unread ≡ Some p
    → (u : List ℕ) × (unread ≡ Some u) × (buf ++ u ≡ p)
known_split buf unread p e = grind arith

-- an end of all bytes that begin so, whatever is unread
pub ends_all : (buf : List ℕ) (unread : Option (List ℕ)) (e : Ending) → ((u : List ℕ) → IsEnd (buf ++ u) e) → EndsAs (prepend_known buf unread) e
ends_all buf unread e end p known = let k = known_split buf unread p known in rw k.2 at (end k.0)

-- an end of the buffer, if nothing is unread
pub ends_here : (buf : List ℕ) (unread : Option (List ℕ)) (e : Ending) → IsAtEnd unread → IsEnd buf e → EndsAs (prepend_known buf unread) e
ends_here buf unread e end is p known = grind (arith, append-nil buf)

-- a head that stands at the front of each text that begins so stands here
pub head_here : (buf : List ℕ) (spans : RequestSpans) (h : RequestHead) → IsWhole buf spans h → IsHeadAt buf spans h
head_here buf spans h whole = rw append-nil at (whole.at [])

-- a stream that begins with a head which is refused ends with this refusal
pub failed_ends : (buf : List ℕ) (unread : Option (List ℕ)) (spans : RequestSpans) (h : RequestHead) (r : Refusal)
    → IsWhole buf spans h → framing_of h ≡ Err r → EndsAs (prepend_known buf unread) (refused r (is_head (span_bytes buf spans.method)))
failed_ends buf unread spans h r whole bad = rw (head_here buf spans h whole).method (ends_all buf unread _ (λ u. fails h _ (whole.at u).head bad))

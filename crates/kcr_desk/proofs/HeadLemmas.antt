-- What a try to read a head shows of all bytes that begin alike.
use Rattle.kcr_desk.proofs.Common.{rules, ◌≡◌, ℕ, ◌+◌, ◌-◌, ◌<◌, ◌≤◌, List, [], ◌∷◌, ◌++◌, length, take, drop, refl, sym, ap, ◌∙◌, subst, arith}
use Rattle.kcr_desk.proofs.Common.{append_assoc, length-append, length-drop, append-nil, take-append-le, drop-append-le, nil_from_length, length-map}
use Rattle.kcr_desk.proofs.Common.{length-take, All-nil, All-cons, take-append-add, LineEnd, lf, print_blank, RequestHead, ReadsRequest}
use Rattle.kcr_desk.proofs.Common.{IsRequestHead, HasNoRequest, IsField, is_uri_byte, RequestOverflows, span_bytes}
use Rattle.kcr_desk.proofs.Common.{IsRequestAt, IsRequestWithin, IsWithin, RequestSpans, ReadsRequest-append, print_request-append, HasNoHead}
use Rattle.kcr_desk.proofs.Common.{IsBlankRest, IsHeadAt, IsWhole, IsHopeless}
use Rattle.std.specs.Prelude.{codes, IsTrue, slice_range}
use Rattle.httparse.specs.{Grammar.print_request, Grammar.is_token_byte, declared.spans.HeaderSpan.HeaderSpan, declared.spans.Span.Span}
use Rattle.httparse.proofs.PieceLemmas.{Stops_token}
use Rattle.kcr_desk.proofs.QuietLemmas.{blank_not_more}

-- ---- a head is no quiet rest

-- bytes that begin with a head are no rest of empty lines
pub head_not_quiet : (bytes : List ℕ) (h : RequestHead) (rest : List ℕ) → ReadsRequest bytes h rest → IsBlankRest bytes → ⊥
head_not_quiet bytes h rest reads quiet =
    blank_not_more quiet.ends h.blank _ (Stops_token h.method _ reads.0.method.0 reads.0.method.1)
    (sym quiet.is ∙ reads.1 ∙ print_request-append h rest)

-- ---- an error of the parser

abbrev small_text : List ℕ
small_text = codes "A / HTTP/1.1" ++ 10 ∷ 10 ∷ []

abbrev small : List LineEnd → RequestHead
small ends = record { blank = ends; method = 65 ∷ []; target = 47 ∷ []; minor = 1; line_end = lf; fields = []; last = lf }

is_small : (ends : List LineEnd) → IsRequestHead (small ends)
unfolding is_token_byte lib.Utf8.encode
is_small ends = record {
  method = (omega arith, All-cons (λ b. IsTrue (is_token_byte b)) 65 [] refl (All-nil (λ b. IsTrue (is_token_byte b))));
  target = (omega arith, All-cons (λ b. IsTrue (is_uri_byte b)) 47 [] refl (All-nil (λ b. IsTrue (is_uri_byte b))));
  target_text = (47 ∷ [], (refl, refl));
  minor = omega arith;
  fields = All-nil IsField;
}

small_reads : (ends : List LineEnd) → ReadsRequest (print_blank ends ++ small_text) (small ends) []
small_reads ends = (is_small ends, sym (print_request-append (small ends) []))

more_behind : (front buf rest more : List ℕ) → buf ≡ front ++ rest → buf ++ more ≡ front ++ (rest ++ more)
more_behind front buf rest more e = ap (λ (t : List ℕ). t ++ more) e ∙ simp append_assoc

-- a buffer is hopeless if each head that its front can begin has more than 64 fields
pub overflow_hopeless : (front buf : List ℕ) (rest : List ℕ) → buf ≡ front ++ rest → RequestOverflows 64 front → IsHopeless buf
overflow_hopeless front buf rest e over = record {
  no_head = λ more h after has.
      let many = over (rest ++ more) h after (rw (more_behind front buf rest more e) at has.reads) in absurd (omega (arith, many, has.few));
  not_quiet = λ more quiet.
      let whole = ap (λ (t : List ℕ). t ++ small_text) (sym quiet.is ∙ more_behind front buf rest more e) ∙ simp append_assoc in
      let reads = subst (λ (t : List ℕ). ReadsRequest t (small quiet.ends) []) whole (small_reads quiet.ends) in
      let many = over (rest ++ (more ++ small_text)) (small quiet.ends) [] reads in absurd (omega (arith, many));
}

-- ---- no whole head in 8,192 bytes

-- a head that is short stands in the first bytes
short_front : (bytes : List ℕ) (n : ℕ) (h : RequestHead) (rest : List ℕ) → ReadsRequest bytes h rest
    → length (print_request h) ≤ n → ReadsRequest (take n bytes) h (take (n - length (print_request h)) rest)
short_front bytes n h rest reads le =
    let d : ℕ = n - length (print_request h) in
    let e : n ≡ length (print_request h) + d = omega arith in
    (reads.0, ap (λ m. take m bytes) e ∙ ap (take (length (print_request h) + d)) reads.1 ∙ take-append-add (print_request h) rest d)

-- a buffer without a head in its first 8,192 bytes has none within the limits
pub none_is_no_head : (buf : List ℕ) → HasNoRequest (take 8192 buf) → HasNoHead buf
none_is_no_head buf none h rest has = none h _ (short_front buf 8192 h rest has.reads has.short)

quiet_alone : (buf more : List ℕ) → 8192 ≤ length buf → IsBlankRest (buf ++ more) → IsBlankRest buf
quiet_alone buf more long quiet =
    let none : length more ≡ 0 = omega (arith, length-append buf more, quiet.short) in rw (nil_from_length more none, append-nil) at quiet

-- a buffer of 8,192 bytes or more is hopeless if it has no head in these, and is no rest of empty lines
pub full_hopeless : (buf : List ℕ) → HasNoRequest (take 8192 buf) → 8192 ≤ length buf → ¬ (IsBlankRest buf) → IsHopeless buf
full_hopeless buf none long loud = record {
  no_head = λ more. none_is_no_head (buf ++ more) (rw (take-append-le 8192 buf more long) none);
  not_quiet = λ more quiet. loud (quiet_alone buf more long quiet);
}

-- ---- a whole head

-- a span within some bytes is within more
pub within_more : {n m : ℕ} (s : Span) → n ≤ m → IsWithin n s → IsWithin m s
within_more {n} s le within = (within.0, let e : s.end ≤ n = within.1 in omega arith)

-- what lies within some bytes is the same before more
pub slice_more : (buf more : List ℕ) (at end : ℕ) → at ≤ end → end ≤ length buf → slice_range (buf ++ more) at end ≡ slice_range buf at end
slice_more buf more at end ordered fits =
    let le : at ≤ length buf = omega arith in
    let room : end - at ≤ length (drop at buf) = simp length-drop (omega arith) in
    rw (drop-append-le at buf more le, take-append-le (end - at) (drop at buf) more room)

request_some : (h : RequestHead) → IsRequestHead h → 0 < length (print_request h)
request_some h is =
    let e = simp length-append at (ap length (print_request-append h [])) in
    let m : 0 < length h.method = is.method.0 in
    omega (arith, e, m)

-- a head of at most 64 fields, read in the first 8,192 bytes, stands whole at the front of the buffer
pub whole_head : (front buf rest : List ℕ) (headers : List HeaderSpan) (spans : RequestSpans) (h : RequestHead)
    → buf ≡ front ++ rest → length front ≤ 8192 → length headers ≤ 64
    → IsRequestWithin front headers spans → IsRequestAt front headers spans h → IsWhole buf spans h
whole_head front buf rest headers spans h e short room within at =
    let len : spans.len ≤ length front = within.section.len_fits in
    let longer : length front ≤ length buf = simp (e, length-append) (omega arith) in
    let same_length = simp length-map at (ap length at.fields) in
    let count : length h.fields ≤ 64 = omega (arith, same_length, length-take spans.headers headers, room) in
    let is_len : spans.len ≡ length (print_request h) = at.len in
    let some = request_some h at.reads.0 in
    let inside : (s : Span) → IsWithin spans.len s → IsWithin (length buf) s = λ s w. within_more s (omega arith) w in
    let head_at : (more : List ℕ) → IsHeadAt (buf ++ more) spans h =
    λ more.
    let reads = ReadsRequest-append front h (drop spans.len front) (rest ++ more) at.reads in
    let same : (s : Span) → IsWithin spans.len s → span_bytes (front ++ (rest ++ more)) s ≡ span_bytes front s =
    λ s w. slice_more front (rest ++ more) s.start s.end w.0 (let i : s.end ≤ spans.len = w.1 in omega arith) in
    rw (more_behind front buf rest more e) (record {
      head = record { reads = rw (drop-append-le spans.len front (rest ++ more) len) reads; short = omega arith; few = count };
      method = same spans.method within.method ∙ at.method;
      path = same spans.path within.path ∙ at.path;
    }) in
    search (rules, head_at, some, inside, within.method, within.path)

-- A request with a path and a body is a whole message.
use Rattle.kcr_desk.proofs.Common.{◌≡◌, ℕ, ◌<◌, ◌≤◌, false, List, [], ◌∷◌, ◌++◌, length, reverse, codes, IsTrue, refl, sym, ap, arith, append_assoc}
use Rattle.kcr_desk.proofs.Common.{length-append, length-reverse, is_ascii_digit, list_all, AllDigits, nat_tests, All-cons, All-weaker}
use Rattle.kcr_desk.proofs.Common.{All-from_recursion, and_parts, lt-ltb, le-ltb, IsRequestHead, AllPass, IsField, is_uri_byte, is_value_byte}
use Rattle.kcr_desk.proofs.Common.{trim_ows, skip_ows, IsMessage, framing_of, posted_head, posted_message}
use Rattle.std.proofs.{Common.true, Common.Ok, Common.append-nil, Math.Bool.and-false}
use Rattle.std.specs.{Prelude.nat_lt, Fmt.decimal, Str.Parse.digits_value, Str.IsUtf8}
use Rattle.std.proofs.lemmas.{Fmt.decimal_is_IsNumeral, Fmt.length-decimal-le, Str.Parse.digit_at}
use Rattle.std.proofs.lemmas.List.Sums.{AllPass-from_list_all, list_all-from_AllPass}
use Rattle.httparse.specs.Grammar.{print_request, is_token_byte}
use Rattle.httparse.proofs.TrimLemmas.{trim_ows_space, AllPass-reverse}
use Rattle.kcr_desk.specs.Framing.{planned}
use Rattle.kcr_wire.specs.Requests.{crlf, head_text}

regroup : (p v c h l n : List ℕ) → ((p ++ v) ++ c) ++ ((h ++ (((l ++ n) ++ c) ++ [])) ++ c) ≡ ((p ++ (v ++ (c ++ (h ++ l)))) ++ n) ++ (c ++ c)
regroup p v c h l n = simp (append_assoc, append-nil)

-- the head, as bytes
head-is : (path : List ℕ) (size : ℕ) → print_request (posted_head path size) ≡ head_text path size
unfolding print_request
head-is path size = regroup (codes "POST " ++ path) (codes " HTTP/1.1") crlf (codes "Host: l" ++ crlf) (codes "Content-Length: ") (decimal size)

-- ---- the digits of a length

digit-tests : (text : List ℕ) → AllDigits 10 text → list_all is_ascii_digit text ≡ true
digit-tests [] h = refl
digit-tests (c ∷ cs) h = let here = digit_at (c ∷ cs) 0 h (omega arith) in grind (arith, nat_tests, here, digit-tests cs h.1)

decimal-digits : (n : ℕ) → n ≤ 131072 → (0 < length (decimal n)) × (list_all is_ascii_digit (decimal n) ≡ true) × (digits_value 10 (decimal n) ≡ n)
decimal-digits n small = let d = decimal_is_IsNumeral n (omega arith) in (d.0.0, digit-tests (decimal n) d.0.1, d.1)

-- digits have no white space round them
digits-skip : (text : List ℕ) → 0 < length text → list_all is_ascii_digit text ≡ true → skip_ows text ≡ text
digits-skip [] some h = refl
digits-skip (c ∷ cs) some h = grind (arith, nat_tests, and_parts (is_ascii_digit c) (list_all is_ascii_digit cs) h)

digits-trim : (text : List ℕ) → 0 < length text → list_all is_ascii_digit text ≡ true → trim_ows (32 ∷ text) ≡ text
digits-trim text some h =
    let back = list_all-from_AllPass _ (reverse text) (AllPass-reverse is_ascii_digit text (AllPass-from_list_all is_ascii_digit text h)) in
    trim_ows_space text (digits-skip text some h) (digits-skip (reverse text) (omega (arith, length-reverse text)) back)

-- ---- what the fields ask for

planned-post : (path : List ℕ) (size : ℕ) → size ≤ 131072 → framing_of (posted_head path size) ≡ Ok (record { length = size; closes = false; expects_continue = false })
unfolding planned
planned-post path size small =
    let d = decimal-digits size small in
    let trimmed : trim_ows (32 ∷ decimal size) ≡ decimal size = digits-trim (decimal size) d.0 d.1 in
    rw (trimmed, lt-ltb 0 (length (decimal size)) d.0, d.1, d.2, le-ltb 131072 size small, and-false (nat_lt 0 size)) refl

-- ---- the message

value-byte : (b : ℕ) → IsTrue (is_ascii_digit b) → IsTrue (is_value_byte b)
value-byte b h = grind (arith, nat_tests)

-- each part is of its class
head-parts : (path : List ℕ) (size : ℕ) → 0 < length path → AllPass is_uri_byte path → IsUtf8 path → size ≤ 131072 → IsRequestHead (posted_head path size)
unfolding is_token_byte
head-parts path size some uri text small = record {
  method = (omega arith, AllPass-from_list_all is_token_byte (codes "POST") refl);
  target = (some, uri);
  target_text = text;
  minor = omega arith;
  fields = All-from_recursion IsField (posted_head path size).fields (
    record {
      name = (omega arith, AllPass-from_list_all is_token_byte (codes "Host") refl);
      raw = AllPass-from_list_all is_value_byte (codes " l") refl;
    },
    (
      record {
        name = (omega arith, AllPass-from_list_all is_token_byte (codes "Content-Length") refl);
        raw = All-cons (λ b. IsTrue (is_value_byte b)) 32 (decimal size) refl
            (All-weaker _ _ value-byte (decimal size) (AllPass-from_list_all is_ascii_digit (decimal size) (decimal-digits size small).1));
      },
      tt,
    ),
  );
}

head-length : (path : List ℕ) (size : ℕ) → length path ≤ 8000 → size ≤ 131072 → length (head_text path size) ≤ 8192
head-length path size short small =
    let digits = length-decimal-le 6 size (omega arith) (omega arith) (omega arith) in
    simp length-append (omega (arith, digits, short))

-- the text of a request with a path and a body, within the limits, is a whole message
pub message : (path body rest : List ℕ) → 0 < length path → AllPass is_uri_byte path → IsUtf8 path → length path ≤ 8000 → length body ≤ 131072
    → IsMessage (head_text path (length body) ++ (body ++ rest)) (posted_message path body) rest
message path body rest some uri text short small =
    record {
      head = record {
        reads = (head-parts path (length body) some uri text small, ap (λ head. head ++ (body ++ rest)) (sym (head-is path (length body))));
        short = rw (head-is path (length body)) (head-length path (length body) short small);
        few = omega arith;
      };
      plan = planned-post path (length body) small;
      body = refl;
    }

-- The pieces in which a body is written are its text.
use Rattle.kcr_wire.proofs.Common.{◌≡◌, ℕ, true, false, map, List, [], ◌∷◌, ◌++◌, codes, refl, ◌∙◌, append_assoc, append-nil, arith, All, All-head}
use Rattle.kcr_wire.proofs.Common.{All-tail, fold, escape, quoted, Data, string, items_of, compact_text, members_text, has_float, items_have_float}
use Rattle.kcr_wire.proofs.Common.{IsKeyByte, member_text, Member, Command, MemberValue, members_of, json_members, next_member}
use Rattle.json.proofs.Printed.Strings.{escape_byte_plain}
use Rattle.json.specs.Print.{escape_byte}
use Rattle.kcr_wire.specs.Bodies.{json_of, body_text}
use Rattle.kcr_wire.proofs.Bytes.{name-word}

-- letters need no escape
word-escape : (text : List ℕ) → All IsKeyByte text → escape text ≡ text
word-escape [] each = refl
word-escape (b ∷ text) each =
    let is = All-head IsKeyByte b text each in
    let alone = escape_byte_plain b (λ e. grind (arith, is, e)) (λ e. grind (arith, is, e)) (grind (arith, is)) in
    rw (alone, word-escape text (All-tail IsKeyByte b text each)) refl

-- the pieces of a member are the member behind others
pub value_told : (text : List ℕ) (m : Member) (value : Data)
    → text ++ (codes ",\"" ++ (member_text m ++ (codes "\":" ++ (compact_text value ++ [])))) ≡ text ++ next_member (member_text m) value
value_told text m value = simp (word-escape (member_text m) (name-word m), append_assoc, append-nil)

-- a text with members behind it, one after the other
abbrev pub with_members : List ℕ → List (Member × MemberValue) → List ℕ
with_members text ms = fold (λ text m. text ++ next_member (member_text m.0) (json_of m.1)) text ms

-- they and the last bracket are the end of an object
members_told : (text : List ℕ) (ms : List (Member × MemberValue)) → with_members text ms ++ codes "}" ≡ text ++ members_text true (json_members ms)
members_told text [] = refl
members_told text (m ∷ ms) = members_told (text ++ next_member (member_text m.0) (json_of m.1)) ms ∙ simp append_assoc

-- the key, the members one after the other, and the last bracket are the body
pub body_told : (x : Command) → with_members (codes "{\"key\":" ++ compact_text (string x.key)) (members_of x.act) ++ codes "}" ≡ body_text x
unfolding body_text escape_byte
body_told x = members_told (codes "{\"key\":" ++ quoted x.key) (members_of x.act) ∙ simp append_assoc

-- an array of values that have no float has none
pub each-whole : {X : Type 0} (json : X → Data) → ((x : X) → has_float (json x) ≡ false) → (xs : List X)
    → items_have_float (items_of (map json xs)) ≡ false
each-whole json whole [] = refl
each-whole json whole (x ∷ xs) = rw (whole x) (each-whole json whole xs)

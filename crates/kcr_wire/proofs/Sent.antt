-- Values that are read back from their JSON texts: texts, numbers, truth values and lists of texts.
use Rattle.kcr_wire.proofs.Common.{◌≡◌, ℕ, ◌^◌, ◌<◌, ◌≤◌, Bool, true, false, List, [], ◌∷◌, map, Option, Some, refl, sym, ap, ◌∙◌, arith, append-nil}
use Rattle.kcr_wire.proofs.Common.{All, IsUtf8, option_map, IsAscii-decimal, All-head, All-tail, IsUtf8-append, IsUtf8-from_ascii, quoted, Data}
use Rattle.kcr_wire.proofs.Common.{string, object, Items, Members, no_members, member, put, read, max_depth, of_json, of_items, of_members, items_of}
use Rattle.kcr_wire.proofs.Common.{outline, items_outline, members_outline, comma_if, compact_text, items_text, members_text, Member, member_text}
use Rattle.kcr_wire.proofs.Common.{MemberValue, Word, Whole, Several, json_members}
use Rattle.std.specs.Prelude.{⊤, decimal}
use Rattle.std.specs.Option.{option_and_then}
use Rattle.json.specs.{Token.Token, Lex.tokens}
use Rattle.json.specs.Json as json
use Rattle.json.specs.Tree as tree
use Rattle.json.proofs.Printed.{Decimals.IsNumber-decimal, Tokens.tokens-print, Trees.value-json_tokens, Trees.ArePrintable-json_tokens}
use Rattle.json.proofs.Printed.Utf8.{IsUtf8-are_ascii, IsUtf8-quoted, IsUtf8-boolean}
use Rattle.serde_json.proofs.{Numbers.number_of-decimal, Texts.print-outline}
use Rattle.kcr_history.specs.Texts.{Truth}
use Rattle.kcr_wire.proofs.Bytes.{name-word, word-utf8}
use Rattle.kcr_wire.specs.Bodies.{json_of}

-- a value that can be sent
abbrev pub IsSent : MemberValue → Type 0
IsSent (Word text) = IsUtf8 text
IsSent (Whole n) = n < 2 ^ 64
IsSent (Truth b) = ⊤
IsSent (Several texts) = All IsUtf8 texts

-- the members of a body
abbrev pub AreSent : List (Member × MemberValue) → Type 0
AreSent [] = ⊤
AreSent (m ∷ ms) = IsSent m.1 × AreSent ms

-- the members of an object as its reader keeps them, each where its name belongs
abbrev pub kept : Members → Members → Members
kept no_members found = found
kept (member k d ms) found = kept ms (put k d found)

-- ---- each is read back from its text, which is UTF-8

record IsBack (d : Data) : Type 0 where
  read : of_json (outline d) ≡ Some d
  numbers : tree.HasNumbers (outline d)
  shallow : tree.depth (outline d) ≤ 1
  utf8 : IsUtf8 (compact_text d)

record AreBack (ds : Items) : Type 0 where
  read : of_items (items_outline ds) ≡ Some ds
  numbers : tree.ItemsHaveNumbers (items_outline ds)
  shallow : tree.items_depth (items_outline ds) ≤ 0
  utf8 : (later : Bool) → IsUtf8 (items_text later ds)

record MembersBack (ms : Members) : Type 0 where
  read : (found : Members) → of_members (members_outline ms) found ≡ Some (kept ms found)
  numbers : tree.MembersHaveNumbers (members_outline ms)
  shallow : tree.members_depth (members_outline ms) ≤ 1
  utf8 : (later : Bool) → IsUtf8 (members_text later ms)

comma-utf8 : (later : Bool) → IsUtf8 (comma_if later)
comma-utf8 true = IsUtf8-are_ascii (44 ∷ []) refl
comma-utf8 false = IsUtf8-are_ascii [] refl

texts-back : (texts : List (List ℕ)) → All IsUtf8 texts → AreBack (items_of (map string texts))
texts-back [] each = record { read = refl; numbers = tt; shallow = omega arith; utf8 = λ later. IsUtf8-are_ascii (93 ∷ []) refl }
texts-back (text ∷ texts) each =
    let rest = texts-back texts (All-tail IsUtf8 text texts each) in
    record {
      read = rw rest.read refl;
      numbers = (tt, rest.numbers);
      shallow = omega (arith, rest.shallow);
      utf8 = λ later. IsUtf8-append (comma_if later) _ (comma-utf8 later)
          (IsUtf8-append (quoted text) _ (IsUtf8-quoted text (All-head IsUtf8 text texts each)) (rest.utf8 true));
    }

value-back : (v : MemberValue) → IsSent v → IsBack (json_of v)
value-back (Word text) h = record { read = refl; numbers = tt; shallow = omega arith; utf8 = IsUtf8-quoted text h }
value-back (Truth b) h = record { read = refl; numbers = tt; shallow = omega arith; utf8 = IsUtf8-boolean b }
value-back (Whole n) h = record {
  read = rw (number_of-decimal n h) refl;
  numbers = IsNumber-decimal n h;
  shallow = omega arith;
  utf8 = IsUtf8-from_ascii (decimal n) (IsAscii-decimal n h);
}
value-back (Several texts) h =
    let all = texts-back texts h in
    record {
      read = rw all.read refl;
      numbers = all.numbers;
      shallow = omega (arith, all.shallow);
      utf8 = IsUtf8-append (91 ∷ []) _ (IsUtf8-are_ascii (91 ∷ []) refl) (all.utf8 false);
    }

members-back : (ms : List (Member × MemberValue)) → AreSent ms → MembersBack (json_members ms)
members-back [] h = record { read = λ found. refl; numbers = tt; shallow = omega arith; utf8 = λ later. IsUtf8-are_ascii (125 ∷ []) refl }
members-back (m ∷ ms) h =
    let value = value-back m.1 h.0 in
    let rest = members-back ms h.1 in
    let name = IsUtf8-quoted (member_text m.0) (word-utf8 (member_text m.0) (name-word m.0)) in
    record {
      read = λ found. rw value.read (rest.read (put (member_text m.0) (json_of m.1) found));
      numbers = (value.numbers, rest.numbers);
      shallow = omega (arith, value.shallow, rest.shallow);
      utf8 = λ later. IsUtf8-append (comma_if later) _ (comma-utf8 later) (IsUtf8-append (quoted (member_text m.0)) _ name
          (IsUtf8-append (58 ∷ []) _ (IsUtf8-are_ascii (58 ∷ []) refl) (IsUtf8-append (compact_text (json_of m.1)) _ value.utf8 (rest.utf8 true))));
    }

-- the value that is read, if nothing follows it
abbrev whole : Option (json.Json × List Token) → Option Data
whole o = option_and_then of_json (option_and_then (λ p. json.if_last p.0 p.1) o)

-- the text of an object of them is read as its members
pub object-read : (ms : List (Member × MemberValue)) → AreSent ms
    → read (compact_text (object (json_members ms))) ≡ Some (object (kept (json_members ms) no_members))
object-read ms h =
    let back = members-back ms h in
    let d = object (json_members ms) in
    let same : tokens (compact_text d) ≡ tree.json_tokens (outline d) =
    ap tokens (sym (print-outline d)) ∙ tokens-print (tree.json_tokens (outline d)) (ArePrintable-json_tokens (outline d) back.numbers) in
    ap whole (ap (json.value max_depth) (same ∙ sym (append-nil _)) ∙ value-json_tokens (outline d) max_depth [] (omega (arith, back.shallow)))
    ∙ ap (option_map object) (back.read no_members)

-- it is UTF-8
pub object-utf8 : (ms : List (Member × MemberValue)) → AreSent ms → IsUtf8 (compact_text (object (json_members ms)))
object-utf8 ms h = IsUtf8-append (123 ∷ []) _ (IsUtf8-are_ascii (123 ∷ []) refl) ((members-back ms h).utf8 false)

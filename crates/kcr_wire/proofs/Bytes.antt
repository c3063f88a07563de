-- The bytes of paths and of the texts in bodies.
use Rattle.kcr_wire.proofs.Common.{◌≡◌, ℕ, ◌<◌, ◌≤◌, ◌⊎◌, ◌&&◌, nat_le, Bool, true, List, [], ◌∷◌, length, inl, inr, refl, arith, All, decimal}
use Rattle.kcr_wire.proofs.Common.{list_all, IsUtf8, leb-true, and_parts, nat_tests, decimal_is_IsNumeral, length-decimal-le, All-nil, All-cons}
use Rattle.kcr_wire.proofs.Common.{All-weaker, AllPass-from_list_all, IsCapital, IsInitials, IsKeyByte, IsNumber, IsPlace, place_text, member_text}
use Rattle.kcr_wire.proofs.Common.{Member, IsDigit, IsSerial, Place, is_key_byte, Lacks, lacks-by, place-passes, ascii-utf8}
use Rattle.std.specs.Str.Parse.{AllDigits}
use Rattle.std.proofs.lemmas.Str.Parse.{digit_at}
use Rattle.kcr_base.specs.declared.refusal.Member.TheVariants as name

-- ---- letters, digits and `-`

-- a piece of a path: some letters, digits and `-`
pub record IsWord (text : List ℕ) : Type 0 where
  pub some : 0 < length text
  pub short : length text ≤ 40
  pub bytes : All IsKeyByte text

key_byte : (b : ℕ) → is_key_byte b ≡ true → IsKeyByte b
key_byte b h = grind (arith, nat_tests)

-- the bytes of a literal
pub literal : (text : List ℕ) → list_all is_key_byte text ≡ true → All IsKeyByte text
literal text test = All-weaker (λ b. is_key_byte b ≡ true) IsKeyByte key_byte text (AllPass-from_list_all is_key_byte text test)

letters : (m : Member) → list_all is_key_byte (member_text m) ≡ true
letters name.Key = refl
letters m = refl

-- the name of a member is letters
pub name-word : (m : Member) → All IsKeyByte (member_text m)
name-word m = literal (member_text m) (letters m)

-- initials are a word
pub initials-word : (text : List ℕ) → IsInitials text → IsWord text
initials-word text is = record {
  some = omega (arith, is.at_least_two);
  short = omega (arith, is.at_most_four);
  bytes = All-weaker IsCapital IsKeyByte (λ b h. inl h) text is.capitals;
}

-- a serial is a word
pub serial-word : (text : List ℕ) → IsSerial text → IsWord text
serial-word text is = record {
  some = omega (arith, is.at_least_four);
  short = omega (arith, is.at_most_sixteen);
  bytes = All-weaker (λ b. IsCapital b ⊎ IsDigit b) IsKeyByte (λ b h. grind arith) text is.each;
}

digits-bytes : (text : List ℕ) → AllDigits 10 text → All IsKeyByte text
digits-bytes [] h = All-nil IsKeyByte
digits-bytes (c ∷ cs) h =
    let here = digit_at (c ∷ cs) 0 h (omega arith) in
    let digit : IsDigit c = (omega (arith, here), omega (arith, here)) in
    All-cons IsKeyByte c cs (inr (inr (inl digit))) (digits-bytes cs h.1)

-- the decimal text of a number of at most four digits is a word
pub number-word : (limit n : ℕ) → limit < 10000 → IsNumber limit n → IsWord (decimal n)
number-word limit n few is =
    let numeral = (decimal_is_IsNumeral n (omega (arith, few, is.until))).0 in
    record {
      some = numeral.0;
      short = omega (arith, length-decimal-le 4 n (omega arith) (omega (arith, few, is.until)) (omega (arith, few, is.until)));
      bytes = digits-bytes (decimal n) numeral.1;
    }

abbrev is_word : List ℕ → Bool
is_word text = nat_le 1 (length text) && (nat_le (length text) 40 && list_all is_key_byte text)

-- the text of a place is a word
pub place-word : (place : Place) → IsPlace place → IsWord (place_text place)
place-word place is =
    let text = place_text place in
    let some = and_parts (nat_le 1 (length text)) (nat_le (length text) 40 && list_all is_key_byte text) (place-passes is_word refl place is) in
    let short = and_parts (nat_le (length text) 40) (list_all is_key_byte text) some.1 in
    record { some = omega (arith, leb-true 1 (length text) some.0); short = leb-true (length text) 40 short.0; bytes = literal text short.1 }

-- ---- what they are not

-- a word has no slash
pub word-slash : (text : List ℕ) → All IsKeyByte text → Lacks 47 text
word-slash text each = lacks-by IsKeyByte 47 (λ h. grind arith) text each

-- the byte of a word is ASCII
pub word-below : (b : ℕ) → IsKeyByte b → b < 128
word-below b h = grind arith

-- a word is UTF-8
pub word-utf8 : (text : List ℕ) → All IsKeyByte text → IsUtf8 text
word-utf8 text each = ascii-utf8 text (All-weaker IsKeyByte (λ b. b < 128) word-below text each)

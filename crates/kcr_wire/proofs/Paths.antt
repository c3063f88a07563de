-- The bytes of a path.
use Rattle.kcr_wire.proofs.Common.{map, ◌≡◌, ℕ, ◌+◌, ◌*◌, Bool, ◌<◌, ◌≤◌, ◌⊎◌, true, ◌&&◌, ◌||◌, eqb, leb, List, [], ◌∷◌, ◌++◌, length, Some, inl}
use Rattle.kcr_wire.proofs.Common.{inr, refl, length-append, arith, All, ⊤, list_all, IsUtf8, and_parts, leb-true, nat_tests, All-append, All-cons}
use Rattle.kcr_wire.proofs.Common.{All-weaker, AllPass-from_list_all, IsKeyByte, is_key_byte, Lacks, lacks-by, nowhere, ascii-utf8, path_of}
use Rattle.kcr_wire.specs.Endpoints.{ascii_in}
use Rattle.kcr_wire.proofs.{PartLemmas.ascii_in-some, Bytes.IsWord}

-- a letter, a digit, `-` or a slash
abbrev pub IsPathByte : ℕ → Type 0
IsPathByte b = IsKeyByte b ⊎ (b ≡ 47)

path_byte : (b : ℕ) → (is_key_byte b || eqb b 47) ≡ true → IsPathByte b
path_byte b h = grind (arith, nat_tests)

-- a path has no line feed
pub path-feed : (path : List ℕ) → All IsPathByte path → Lacks 10 path
path-feed path each = lacks-by IsPathByte 10 (λ h. grind arith) path each

-- the byte of a path is ASCII
pub path-below : (b : ℕ) → IsPathByte b → b < 128
path-below b h = grind arith

-- a path is UTF-8
pub path-utf8 : (path : List ℕ) → All IsPathByte path → IsUtf8 path
path-utf8 path each = ascii-utf8 path (All-weaker IsPathByte (λ b. b < 128) path-below path each)

-- a target of such bytes is a path
pub whole-path : (path : List ℕ) → All IsPathByte path → ascii_in (path_of path) ≡ Some path
whole-path path each =
    rw (nowhere 63 path (lacks-by IsPathByte 63 (λ h. grind arith) path each))
    (ascii_in-some path (All-weaker IsPathByte (λ b. b < 128) path-below path each))

-- a path, or a part of one, of at most N bytes
pub record IsPath (most : ℕ) (path : List ℕ) : Type 0 where
  pub some : 0 < length path
  pub short : length path ≤ most
  pub bytes : All IsPathByte path

-- ---- the parts of a path

-- behind a slash, the bytes of a route, and then what its next parameter, of this name, takes of a path
pub record Leg : Type 0 where
  pub front : List ℕ
  pub name : List ℕ
  pub piece : List ℕ

-- legs, and the end behind them: the path, and the tokens of its route
abbrev pub path_on : List Leg → List ℕ → List ℕ
path_on [] end = end
path_on (l ∷ legs) end = 47 ∷ (l.front ++ (l.piece ++ path_on legs end))

abbrev pub tokens_on : List Leg → List ℕ → List ℕ
tokens_on [] end = end
tokens_on (l ∷ legs) end = 47 ∷ (l.front ++ 256 ∷ tokens_on legs end)

-- the names of the parameters, and each with its piece
abbrev pub names_on : List Leg → List (List ℕ)
names_on legs = map (λ (l : Leg). l.name) legs

abbrev pub parts_on : List Leg → List (List ℕ × List ℕ)
parts_on legs = map (λ (l : Leg). (l.name, l.piece)) legs

-- a literal is short, and has the bytes of a path
abbrev pub short_literal : List ℕ → Bool
short_literal text = leb (length text) 20 && list_all (λ b. is_key_byte b || eqb b 47) text

literal-bytes : (text : List ℕ) → short_literal text ≡ true → All IsPathByte text
literal-bytes text test = All-weaker (λ b. (is_key_byte b || eqb b 47) ≡ true) IsPathByte path_byte text
    (AllPass-from_list_all (λ b. is_key_byte b || eqb b 47) text (and_parts (leb (length text) 20) _ test).1)

literal-short : (text : List ℕ) → short_literal text ≡ true → length text ≤ 20
literal-short text test = leb-true (length text) 20 (and_parts (leb (length text) 20) _ test).0

-- the bytes of a route are a literal, and what a parameter takes is a word
abbrev pub AreLegs : List Leg → Type 0
AreLegs [] = ⊤
AreLegs (l ∷ legs) = (short_literal l.front ≡ true) × IsWord l.piece × AreLegs legs

-- the bytes of a route are ASCII
pub front-below : (text : List ℕ) → short_literal text ≡ true → All (λ b. b < 256) (47 ∷ text)
front-below text test =
    All-cons (λ b. b < 256) 47 text (omega arith)
    (All-weaker IsPathByte (λ b. b < 256) (λ b h. omega (arith, path-below b h)) text (literal-bytes text test))

bytes-on : (legs : List Leg) (end : List ℕ) → AreLegs legs → short_literal end ≡ true → All IsPathByte (path_on legs end)
bytes-on [] end are test = literal-bytes end test
bytes-on (l ∷ legs) end are test =
    All-cons IsPathByte 47 _ (inr refl) (All-append IsPathByte l.front _ (literal-bytes l.front are.0)
    (All-append IsPathByte l.piece _ (All-weaker IsKeyByte IsPathByte (λ b k. inl k) l.piece are.1.bytes) (bytes-on legs end are.2 test)))

short-on : (legs : List Leg) (end : List ℕ) → AreLegs legs → short_literal end ≡ true → length (path_on legs end) ≤ 61 * length legs + 20
short-on [] end are test = literal-short end test
short-on (l ∷ legs) end are test =
    simp length-append (omega (arith, literal-short l.front are.0, are.1.short, short-on legs end are.2 test))

some-on : (legs : List Leg) (end : List ℕ) → 1 ≤ length (tokens_on legs end) → 0 < length (path_on legs end)
some-on [] end some = some
some-on (l ∷ legs) end some = omega arith

-- the path of a route with at most two parameters
pub whole-on : (legs : List Leg) (end : List ℕ) → AreLegs legs → short_literal end ≡ true → length legs ≤ 2 → 1 ≤ length (tokens_on legs end)
    → IsPath 200 (path_on legs end)
whole-on legs end are test few some = record {
  some = some-on legs end some;
  short = omega (arith, short-on legs end are test, few);
  bytes = bytes-on legs end are test;
}

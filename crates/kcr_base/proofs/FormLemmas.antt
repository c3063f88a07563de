-- A text is of a form if and only if the test says so.
use Rattle.std.proofs.Common.{◌≡◌, ◌≤◌, ℕ, ◌⊎◌, List, Bool, true, Option, Some, None, if◌then◌else◌, arith}
use Rattle.std.specs.{Prelude.SomeIff, Prelude.All, Str.IsUtf8, List.list_all}
use Rattle.std.proofs.lemmas.{Bool.Decides.nat_tests, Str.is_utf8-from_IsUtf8, Str.IsUtf8-from_is_utf8}
use Rattle.std.proofs.lemmas.List.{Elements.All-weaker, Sums.AllPass-from_list_all, Sums.list_all-from_AllPass}
use Rattle.kcr_base.specs.{Initials.IsCapital, Initials.IsInitials, Key.IsKeyByte, Key.IsKey, Line.IsPrinting, Line.IsLine}
use Rattle.kcr_base.specs.{Serial.IsDigit, Serial.IsSerial, Reads.HasText, Reads.ReadsText}
use Rattle.kcr_base.specs.Forms.{is_between, is_capital, is_key_byte, is_serial_byte, is_printing, is_initials, is_key, is_serial, is_line}
use Rattle.kcr_base.specs.Forms.{initials_of, key_of, serial_of, line_of, script_of}

-- a reader that answers the text exactly on a form answers it if and only if the form's test does
pub if_form-is : {V : Type 0} (r : Option V) (P : Type 0) (text : V) (test : Bool) → SomeIff r P text → (test ≡ true → P) → (P → test ≡ true)
    → r ≡ (if test then Some text else None)
if_form-is r P text test h to from = grind (arith, to, from)

-- all elements pass the test if and only if all have the property, if that is so of each
all-is : (p : ℕ → Bool) (P : ℕ → Type 0) (xs : List ℕ) → ((x : ℕ) → (p x ≡ true → P x) × (P x → p x ≡ true))
    → (list_all p xs ≡ true → All P xs) × (All P xs → list_all p xs ≡ true)
all-is p P xs is =
    (λ h. All-weaker _ P (λ x. (is x).0) xs (AllPass-from_list_all p xs h), λ h. list_all-from_AllPass p xs (All-weaker P _ (λ x. (is x).1) xs h))

-- a number that passes the test of a range is in the range
pub within-from : (low high b : ℕ) → is_between low high b ≡ true → (low ≤ b) × (b ≤ high)
within-from low high b h = (grind (arith, nat_tests), grind (arith, nat_tests))

-- a number in the range passes its test
pub within-to : (low high b : ℕ) → (low ≤ b) × (b ≤ high) → is_between low high b ≡ true
within-to low high b h = grind (arith, nat_tests)

-- a text that passes the test of initials is one of initials
pub initials-from : (text : List ℕ) → is_initials text ≡ true → IsInitials text
unfolding is_initials
initials-from text e = grind (arith, nat_tests, all-is is_capital IsCapital text (λ b. grind (arith, nat_tests)))

-- a reader that answers exactly initials answers what `initials_of` gives
pub initials-read : (r : Option (List ℕ)) (text : List ℕ) → SomeIff r (IsInitials text) text → r ≡ initials_of text
unfolding initials_of is_initials
initials-read r text h = grind (arith, nat_tests, h, all-is is_capital IsCapital text (λ b. grind (arith, nat_tests)))

-- a reader that answers exactly keys answers what `key_of` gives
pub key-read : (r : Option (List ℕ)) (text : List ℕ) → SomeIff r (IsKey text) text → r ≡ key_of text
unfolding key_of is_key
key-read r text h = grind (arith, nat_tests, h, all-is is_key_byte IsKeyByte text (λ b. grind (arith, nat_tests)))

-- a text that passes the test of serials is a serial
pub serial-from : (text : List ℕ) → is_serial text ≡ true → IsSerial text
unfolding is_serial
serial-from text e = grind (arith, nat_tests, all-is is_serial_byte (λ b. IsCapital b ⊎ IsDigit b) text (λ b. grind (arith, nat_tests)))

-- a reader that answers exactly serials answers what `serial_of` gives
pub serial-read : (r : Option (List ℕ)) (text : List ℕ) → SomeIff r (IsSerial text) text → r ≡ serial_of text
unfolding serial_of is_serial
serial-read r text h = grind (arith, nat_tests, h, all-is is_serial_byte (λ b. IsCapital b ⊎ IsDigit b) text (λ b. grind (arith, nat_tests)))

-- a text that passes the test of lines is a line
pub line-from : (limit : ℕ) (text : List ℕ) → is_line limit text ≡ true → IsLine limit text
unfolding is_line
line-from limit text e =
    grind (arith, nat_tests, IsUtf8-from_is_utf8 text, all-is is_printing IsPrinting text (λ b. grind (arith, nat_tests)))

-- a reader that answers exactly lines of a limit answers what `line_of` gives
pub line-read : (limit : ℕ) (r : Option (List ℕ)) (text : List ℕ) → SomeIff r (IsLine limit text) text → r ≡ line_of limit text
unfolding line_of is_line
line-read limit r text h =
    grind (arith, nat_tests, h, IsUtf8-from_is_utf8, is_utf8-from_IsUtf8, all-is is_printing IsPrinting text (λ b. grind (arith, nat_tests)))

-- a reader that answers exactly UTF-8 texts answers what `script_of` gives
pub script-read : (r : Option (List ℕ)) (text : List ℕ) → SomeIff r (IsUtf8 text) text → r ≡ script_of text
unfolding script_of
script-read r text h = grind (arith, h, IsUtf8-from_is_utf8 text, is_utf8-from_IsUtf8 text)

-- a reader of texts that are their own value
pub own-has : (P : List ℕ → Type 0) (r : Option (List ℕ)) (text : List ℕ) → SomeIff r (P text) text → HasText P (λ v. v) text r
own-has P r text h = grind arith

-- a reader of texts that are their own value finds each text of its form
pub own-reads : (P : List ℕ → Type 0) (r : Option (List ℕ)) (text : List ℕ) → SomeIff r (P text) text → ReadsText P (λ v. v) text r
own-reads P r text h v is e = grind arith

-- what answers of readers cite
pub ruleset form_readings = (initials-read, key-read, serial-read, line-read, script-read)

pub ruleset own_readings = (own-has, own-reads)

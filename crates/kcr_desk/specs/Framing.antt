-- What the fields of a head ask for.
use Rattle.std.specs.Prelude.{◌≡◌, ℕ, ◌≤◌, Bool, true, false, not, ◌==◌, ◌&&◌, ◌||◌, List, [], ◌∷◌, map, length, Option}
use Rattle.std.specs.Prelude.{Some, None, Result, Ok, Err, if◌then◌else◌, nat_lt, codes, min}
use Rattle.std.specs.{Str.bytes_eq, Str.Parse.digits_value, List.list_all, Char.to_ascii_lowercase, Char.is_ascii_digit}
use Rattle.httparse.specs.Spans.{span_bytes, IsWithin}
use Rattle.kcr_desk.specs.{Members.some_has_member, declared.head.Framing.Framing, declared.head.TheConstants.MAX_BODY}
use Rattle.kcr_desk.specs.declared.head.FieldValues.{FieldValues, TheVariants.Absent, TheVariants.One, TheVariants.Many}
use Rattle.kcr_base.specs.declared.refusal.Refusal.{Refusal}
use Rattle.kcr_base.specs.declared.refusal.Refusal.TheVariants.{Host, Length, Coding, Large}

-- the name is this one, in any case
abbrev pub is_named : List ℕ → List ℕ × List ℕ → Bool
is_named name f = bytes_eq (map to_ascii_lowercase f.0) (map to_ascii_lowercase name)

-- the values of the fields of this name, in order
abbrev pub values_of : List ℕ → List (List ℕ × List ℕ) → List (List ℕ)
values_of name [] = []
values_of name (f ∷ fields) = if is_named name f then f.1 ∷ values_of name fields else values_of name fields

-- exactly one Host field in HTTP/1.1, and at most one in HTTP/1.0
abbrev pub is_hosted : ℕ → List (List ℕ) → Bool
is_hosted minor [] = minor == 0
is_hosted minor (v ∷ []) = true
is_hosted minor (v ∷ w ∷ vs) = false

-- one or more digits
abbrev pub is_number : List ℕ → Bool
is_number v = nat_lt 0 (length v) && list_all is_ascii_digit v

-- the body's length, or nothing if there are two or one is no number
abbrev pub length_in : List (List ℕ) → Option ℕ
length_in [] = Some 0
length_in (v ∷ []) = if is_number v then Some (digits_value 10 v) else None
length_in (v ∷ w ∷ vs) = None

-- the same, if a length that is too large is one more than the largest
abbrev pub bounded_length : Option ℕ → Option ℕ
bounded_length None = None
bounded_length (Some n) = Some (min n 131073)

abbrev pub is_empty : List (List ℕ) → Bool
is_empty [] = true
is_empty (v ∷ vs) = false

-- the tests on the length and on codings
abbrev pub measured : ℕ → Bool → Bool → Bool → Option ℕ → Result Framing Refusal
measured minor coded closing expecting None = Err Length
measured minor coded closing expecting (Some n) =
    if coded then Err Coding else
    if nat_lt MAX_BODY n then Err Large else
    Ok (record { length = n; closes = minor == 0 || closing; expects_continue = (minor == 1 && nat_lt 0 n) && expecting })

-- the first test that fails, or what is asked for
unfoldable pub planned : ℕ → List (List ℕ × List ℕ) → Result Framing Refusal
planned minor fields =
    if not (is_hosted minor (values_of (codes "host") fields)) then Err Host else
    measured minor (not (is_empty (values_of (codes "transfer-encoding") fields)))
    (some_has_member (codes "close") (values_of (codes "connection") fields))
    (some_has_member (codes "100-continue") (values_of (codes "expect") fields))
    (length_in (values_of (codes "content-length") fields))

unfoldable pub is_head : List ℕ → Bool
is_head method = bytes_eq method (codes "HEAD")

-- what the fields of one name are
abbrev pub IsNamed : List ℕ → List (List ℕ) → FieldValues → Type 0
IsNamed buf values Absent = values ≡ []
IsNamed buf values (One s) = (values ≡ span_bytes buf s ∷ []) × IsWithin (length buf) s
IsNamed buf values Many = 2 ≤ length values

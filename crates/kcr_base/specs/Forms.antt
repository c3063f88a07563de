-- The forms of texts, as the value that each of them tells.
use Rattle.std.specs.Prelude.{ℕ, ◌+◌, ◌*◌, ◌-◌, ◌&&◌, ◌||◌, ◌==◌, not, List, [], ◌∷◌, ◌++◌, length, map, nat_le}
use Rattle.std.specs.Prelude.{Bool, Option, Some, None, if◌then◌else◌}
use Rattle.std.specs.{Fmt.decimal, Str.is_utf8, List.list_all, List.find, List.range_with_len}
use Rattle.kcr_base.specs.{Same.same_text, Day.day_text, Place.place_text, Role.role_text, Facility.facility_text, Moment.moment_text}
use Rattle.kcr_base.specs.declared.limits.TheConstants.{MAX_BOX, MAX_CEREMONY, MAX_STEPS}
use Rattle.kcr_base.specs.declared.place.Facility.{Facility, TheVariants.East, TheVariants.West}
use Rattle.kcr_base.specs.declared.place.{Place.Place, Place.TheVariants.Co, Place.TheVariants.Rksh, Role.Role}
use Rattle.kcr_base.specs.declared.place.Role.TheVariants.{Ca, Iw, Sa, Ssc1, Ssc2, Rkos, Sw}

-- TEXTS THAT ARE THEIR OWN VALUE

-- a number, or a byte, from `low` to `high`
abbrev pub is_between : ℕ → ℕ → ℕ → Bool
is_between low high b = nat_le low b && nat_le b high

-- a capital letter A to Z
abbrev pub is_capital : ℕ → Bool
is_capital b = is_between 65 90 b

-- two to four capital letters
unfoldable pub is_initials : List ℕ → Bool
is_initials text = is_between 2 4 (length text) && list_all is_capital text

-- a letter, a digit or `-`
abbrev pub is_key_byte : ℕ → Bool
is_key_byte b = is_capital b || (is_between 97 122 b || (is_between 48 57 b || (b == 45)))

-- one to forty of them
unfoldable pub is_key : List ℕ → Bool
is_key text = is_between 1 40 (length text) && list_all is_key_byte text

-- a capital letter or a digit
abbrev pub is_serial_byte : ℕ → Bool
is_serial_byte b = is_capital b || is_between 48 57 b

-- four to sixteen of them
unfoldable pub is_serial : List ℕ → Bool
is_serial text = is_between 4 16 (length text) && list_all is_serial_byte text

-- no control character
abbrev pub is_printing : ℕ → Bool
is_printing b = nat_le 32 b && not (b == 127)

-- 1 to `limit` bytes of text with no control character
unfoldable pub is_line : ℕ → List ℕ → Bool
is_line limit text = is_between 1 limit (length text) && (is_utf8 text && list_all is_printing text)

-- the text itself, if it is of a form
abbrev pub if_form : Bool → List ℕ → Option (List ℕ)
if_form is text = if is then Some text else None

-- the initials that a text is
unfoldable pub initials_of : List ℕ → Option (List ℕ)
initials_of text = if_form (is_initials text) text

-- the key that a text is
unfoldable pub key_of : List ℕ → Option (List ℕ)
key_of text = if_form (is_key text) text

-- the serial of a bag, or the code of an item, that a text is
unfoldable pub serial_of : List ℕ → Option (List ℕ)
serial_of text = if_form (is_serial text) text

-- the line that a text is, as a name of at most 120 bytes or a remark
unfoldable pub line_of : ℕ → List ℕ → Option (List ℕ)
line_of limit text = if_form (is_line limit text) text

-- a script's text, if it is UTF-8
unfoldable pub script_of : List ℕ → Option (List ℕ)
script_of text = if_form (is_utf8 text) text

-- VALUES BY THEIR TEXTS

-- the value, of a list of them, that has this text
abbrev pub by_text : {V : Type 0} → (V → List ℕ) → List V → List ℕ → Option V
by_text text_of values text = find (λ v. same_text (text_of v) text) values

-- the number that has this text, of those from the first to the last
unfoldable pub number_by_text : (ℕ → List ℕ) → ℕ → ℕ → List ℕ → Option ℕ
number_by_text text_of first last text = by_text text_of (range_with_len first (last + 1 - first)) text

-- the day whose text this is: 10,957 is the number of 2000-01-01, and 47,481 that of 2099-12-31
unfoldable pub day_of : List ℕ → Option ℕ
day_of text = number_by_text day_text 10957 47481 text

-- the moment whose text this is, from the first second of those days to the last
unfoldable pub moment_of : List ℕ → Option ℕ
moment_of text = number_by_text moment_text (10957 * 86400) (47481 * 86400 + 86399) text

-- the number of a ceremony whose decimal text this is
unfoldable pub ceremony_of : List ℕ → Option ℕ
ceremony_of text = number_by_text decimal 1 MAX_CEREMONY text

-- the number of a box whose decimal text this is
unfoldable pub box_of : List ℕ → Option ℕ
box_of text = number_by_text decimal 1 MAX_BOX text

-- the number of a step whose decimal text this is
unfoldable pub step_of : List ℕ → Option ℕ
step_of text = number_by_text decimal 1 MAX_STEPS text

-- the number from 1 to `limit` whose decimal text this is
unfoldable pub number_of : ℕ → List ℕ → Option ℕ
number_of limit text = number_by_text decimal 1 limit text

-- the role whose text this is
unfoldable pub role_of : List ℕ → Option Role
role_of text = by_text role_text (Ca ∷ Iw ∷ Sa ∷ Ssc1 ∷ Ssc2 ∷ Rkos ∷ Sw ∷ []) text

-- the facility whose text this is
unfoldable pub facility_of : List ℕ → Option Facility
facility_of text = by_text facility_text (East ∷ West ∷ []) text

-- the places of custodians: seven of Crypto Officers at each facility, and seven of Recovery Key Share Holders
abbrev pub places : List Place
places = map (Co East) (range_with_len 1 7) ++ (map (Co West) (range_with_len 1 7) ++ map Rksh (range_with_len 1 7))

-- the place whose text this is
unfoldable pub place_of : List ℕ → Option Place
place_of text = by_text place_text places text

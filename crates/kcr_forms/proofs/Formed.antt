-- The readers of the forms read the texts of their values and no others.
use Rattle.std.proofs.Common.{◌≡◌, ℕ, ◌+◌, ◌-◌, ◌*◌, ◌≤◌, ◌<◌, ◌⊎◌, Bool, true, false, ◌&&◌, eqb, nat_le, List, [], ◌∷◌}
use Rattle.std.proofs.Common.{length, codes, Option, Some, IfSome, refl, sym, ap, ◌∙◌, arith, All}
use Rattle.std.specs.Bool.{⊤}
use Rattle.std.specs.{Fmt.decimal, Int.Digits.digits_of, Str.IsUtf8, Str.is_utf8, Cmp.Lexicographic.same_text as equal_texts}
use Rattle.std.specs.List.{AllByRecursion, find, list_all, range_with_len}
use Rattle.std.proofs.lemmas.{Bool.cond_both, Bool.false_from_ne_true, Bool.Decides.nat_tests, Str.IsUtf8-from_ascii, Str.IsUtf8-from_is_utf8}
use Rattle.std.proofs.lemmas.Fmt.{decimal_injective, decimal-digits_of, IsAscii-decimal}
use Rattle.std.proofs.lemmas.List.Elements.{All-nil, All-weaker, All-map, All-append, All-head, All-tail, All-from_recursion, recursion_from_All}
use Rattle.std.proofs.lemmas.List.{Sums.AllPass-from_list_all, Splits.slice_split_none, Splits.slice_split_at}
use Rattle.kcr_base.specs.{Same.same_text, Role.role_text, Reads.HasText, Reads.ReadsText}
use Rattle.kcr_base.specs.{Day.IsDay, Day.day_text, Line.IsPrinting, Line.IsLine, Initials.IsCapital, Initials.IsInitials}
use Rattle.kcr_base.specs.{Facility.facility_text, Number.IsNumber, Moment.IsMoment, Moment.moment_text}
use Rattle.kcr_base.specs.{Place.IsPlace, Place.place_text, Serial.IsDigit, Serial.IsSerial}
use Rattle.kcr_base.specs.declared.{place.Facility.TheVariants.East, place.Facility.TheVariants.West, place.Place.Place, limits.TheConstants.MAX_BOX}
use Rattle.kcr_base.specs.declared.place.Role.TheVariants.{Ca, Iw, Sa, Ssc1, Ssc2, Rkos, Sw}
use Rattle.kcr_base.specs.Forms.{by_text, number_by_text, initials_of, serial_of, line_of, day_of, is_initials, is_serial, is_line}
use Rattle.kcr_base.specs.Forms.{moment_of, ceremony_of, box_of, step_of, role_of, facility_of, places, place_of, script_of}
use Rattle.kcr_base.proofs.{DayLemmas.day_ascii, DayLemmas.moment_ascii, TextLemmas.number-read, TextLemmas.each-range}
use Rattle.kcr_base.proofs.FormLemmas.{initials-read, serial-read, line-read, script-read, initials-from, serial-from, line-from}
use Rattle.kcr_base.proofs.ValueLemmas.{day-read, moment-read, place-read, each-place, one_place}
use Rattle.kcr_custody.specs.declared.SafeNumber.TheVariants.{One, Two}
use Rattle.kcr_custody.specs.declared.Destination.{Destination, TheVariants.SafeOne, TheVariants.DepositBox}
use Rattle.kcr_custody.specs.Destinations.{IsDestination, destination_text, destination_of}
use Rattle.kcr_custody.proofs.DestinationLemmas.{number-no_word}
use Rattle.kcr_room.specs.{declared.Way.TheVariants.Enter, declared.Way.TheVariants.Leave, Room.way_text, Forms.way_of}
use Rattle.kcr_history.specs.Texts.{safe_text, truth_text, listed}
use Rattle.kcr_forms.specs.{Forms.safe_of, Forms.truth_of, Lines.each_of, Lines.between_commas}
use Rattle.kcr_forms.proofs.Cutting.{Lacks}
use Rattle.kcr_forms.proofs.Dates.{day-same, moment-same, day-printing, moment-printing}
use Rattle.kcr_forms.proofs.Readers.{Reads, Value, AtLeast, ascii-utf8, lacks-below, at_least-less, tested, mapped}

-- ---- the bytes of texts

abbrev is_plain : ℕ → Bool
is_plain b = nat_le 32 b && nat_le b 127

-- a text that is printing ASCII by a test
plain : (text : List ℕ) → list_all is_plain text ≡ true → AtLeast 32 text × IsUtf8 text
plain text test =
    let each = AllPass-from_list_all is_plain text test in (
      All-weaker (λ b. is_plain b ≡ true) (λ b. 32 ≤ b) (λ b h. grind (arith, nat_tests, h)) text each,
      ascii-utf8 text (All-weaker (λ b. is_plain b ≡ true) (λ b. b < 128) (λ b h. grind (arith, nat_tests, h)) text each),
    )

initials-at_least : (text : List ℕ) → IsInitials text → AtLeast 65 text
initials-at_least text is = All-weaker IsCapital (λ b. 65 ≤ b) (λ b h. h.0) text is.capitals

serial-at_least : (text : List ℕ) → IsSerial text → AtLeast 48 text
serial-at_least text is = All-weaker (λ b. IsCapital b ⊎ IsDigit b) (λ b. 48 ≤ b) (λ b h. grind arith) text is.each

number-at_least : (limit n : ℕ) → limit < 10000 → IsNumber limit n → AtLeast 48 (decimal n)
number-at_least limit n few is = rw (decimal-digits_of n (omega (arith, is.from)) (omega (arith, few, is.until)))
    (All-map (λ b. 48 ≤ b) (λ d. 48 + d) (digits_of 10 n) (λ i d h. omega arith))

-- ---- values that are found by their texts

-- what is found among values is one
found-one : {V : Type 0} (IsValue : V → Type 0) (test : V → Bool) (values : List V) → AllByRecursion IsValue values → IfSome (find test values) IsValue
found-one IsValue test [] each = tt
found-one IsValue test (x ∷ xs) each =
    cond_both (test x) (Some x) (find test xs) (λ o. IfSome o IsValue) (λ _. each.0) (λ _. found-one IsValue test xs each.1)

-- the same of numbers from one to another
number-found : (IsValue : ℕ → Type 0) (text_of : ℕ → List ℕ) (low high : ℕ) → ((n : ℕ) → low ≤ n → n ≤ high → IsValue n)
    → (text : List ℕ) → IfSome (number_by_text text_of low high text) IsValue
unfolding number_by_text
number-found IsValue text_of low high is text =
    found-one IsValue _ (range_with_len low (high + 1 - low)) (each-range IsValue low (high + 1 - low) (λ n from below. is n from (omega (arith, from, below))))

-- of some values all is known
each-known : {V : Type 0} (values : List V) → AllByRecursion (λ _. ⊤) values
each-known [] = tt
each-known (v ∷ values) = (tt, each-known values)

-- a reader of the values reads each again, if no two have one text
again-by : {V : Type 0} {IsValue : V → Type 0} {text_of : V → List ℕ} {read : List ℕ → Option V}
    → ((bytes : List ℕ) (r : Option V) → HasText IsValue text_of bytes r → ReadsText IsValue text_of bytes r → r ≡ read bytes)
    → ((v w : V) → IsValue v → IsValue w → text_of v ≡ text_of w → v ≡ w) → Reads IsValue text_of read
again-by {text_of = text_of} reads same v is = sym (reads (text_of v) (Some v) (is, refl) (λ w is_w e. ap Some (same v w is is_w (sym e))))

-- the text of a listed value passes a test that all of them pass
text-passes : {V : Type 0} {IsValue : V → Type 0} (text_of : V → List ℕ) (values : List V) → Reads IsValue text_of (by_text text_of values)
    → (test : List ℕ → Bool) → list_all (λ v. test (text_of v)) values ≡ true → (v : V) → IsValue v → test (text_of v) ≡ true
text-passes text_of values again test all v is =
    rw (again v is) at (found-one (λ w. test (text_of w) ≡ true) (λ w. same_text (text_of w) (text_of v)) values
    (recursion_from_All _ values (AllPass-from_list_all (λ w. test (text_of w)) values all)))

-- listed values whose texts are printing ASCII
texts-value : {V : Type 0} {IsValue : V → Type 0} (text_of : V → List ℕ) (values : List V) → Reads IsValue text_of (by_text text_of values)
    → AllByRecursion IsValue values → list_all (λ v. list_all is_plain (text_of v)) values ≡ true → Value IsValue text_of (by_text text_of values)
texts-value {IsValue = IsValue} text_of values again each all = record {
  again = again;
  found = λ text. found-one IsValue _ values each;
  printing = λ v is. (plain (text_of v) (text-passes text_of values again (list_all is_plain) all v is)).0;
  utf8 = λ v is. (plain (text_of v) (text-passes text_of values again (list_all is_plain) all v is)).1;
}

-- the reader of days
pub days : Value IsDay day_text day_of
unfolding day_of
days = record {
  again = again-by day-read day-same;
  found = number-found IsDay day_text 10957 47481 (λ n low high. record { from = low; until = omega (arith, high) });
  printing = λ v _. day-printing v;
  utf8 = λ v is. ascii-utf8 (day_text v) (day_ascii v is);
}

-- the reader of moments
pub moments : Value IsMoment moment_text moment_of
unfolding moment_of
moments = record {
  again = again-by moment-read moment-same;
  found = number-found IsMoment moment_text (10957 * 86400) (47481 * 86400 + 86399)
      (λ n low high. record { from = low; until = omega (arith, high) });
  printing = λ v _. moment-printing v;
  utf8 = λ v is. ascii-utf8 (moment_text v) (moment_ascii v is);
}

decimals : (limit : ℕ) → limit < 10000 → Value (IsNumber limit) decimal (number_by_text decimal 1 limit)
decimals limit few = record {
  again = again-by
      (λ bytes r. number-read (IsNumber limit) decimal 1 limit bytes r (λ n low high. record { from = low; until = high }) (λ n is. (is.from, is.until)))
      (λ m n is_m is_n e. decimal_injective m n (omega (arith, few, is_m.until)) (omega (arith, few, is_n.until)) e);
  found = number-found (IsNumber limit) decimal 1 limit (λ n low high. record { from = low; until = high });
  printing = λ v is. at_least-less 48 32 (decimal v) (omega arith) (number-at_least limit v few is);
  utf8 = λ v is. IsUtf8-from_ascii (decimal v) (IsAscii-decimal v (omega (arith, few, is.until)));
}

-- the reader of ceremonies' numbers
pub ceremonies : Value (IsNumber 9999) decimal ceremony_of
unfolding ceremony_of
ceremonies = decimals 9999 (omega arith)

-- the reader of boxes' numbers
pub boxes : Value (IsNumber 9999) decimal box_of
unfolding box_of
boxes = decimals 9999 (omega arith)

-- the reader of steps' numbers
pub steps : Value (IsNumber 400) decimal step_of
unfolding step_of
steps = decimals 400 (omega arith)

-- the reader of roles
pub roles : Value (λ _. ⊤) role_text role_of
unfolding role_of
roles =
    let all = Ca ∷ Iw ∷ Sa ∷ Ssc1 ∷ Ssc2 ∷ Rkos ∷ Sw ∷ [] in
    texts-value role_text all (λ v _. grind arith) (each-known all) refl

-- the reader of facilities
pub facilities : Value (λ _. ⊤) facility_text facility_of
unfolding facility_of
facilities = texts-value facility_text (East ∷ West ∷ []) (λ v _. grind arith) (each-known (East ∷ West ∷ [])) refl

-- the reader of ways into the room and out of it
pub ways : Value (λ _. ⊤) way_text way_of
unfolding way_of
ways = texts-value way_text (Enter ∷ Leave ∷ []) (λ v _. grind arith) (each-known (Enter ∷ Leave ∷ [])) refl

-- the reader of safes' numbers
pub safes : Value (λ _. ⊤) safe_text safe_of
unfolding safe_of
safes = texts-value safe_text (One ∷ Two ∷ []) (λ v _. grind arith) (each-known (One ∷ Two ∷ [])) refl

-- the reader of places
pub places-read : Value IsPlace place_text place_of
unfolding place_of
places-read = texts-value place_text places (again-by place-read (λ v w _ _. one_place v w)) each-place refl

-- a place's text passes a test that the texts of all places pass
pub place-passes : (test : List ℕ → Bool) → list_all (λ v. test (place_text v)) places ≡ true → (v : Place) → IsPlace v → test (place_text v) ≡ true
unfolding place_of
place-passes = text-passes place_text places places-read.again

-- ---- texts that are their own value

-- the reader of initials
pub initials : Value IsInitials (λ text. text) initials_of
unfolding initials_of
initials = record {
  again = λ v is. sym (initials-read (Some v) v (is, refl));
  found = λ text. tested IsInitials (is_initials text) text (initials-from text);
  printing = λ v is. at_least-less 65 32 v (omega arith) (initials-at_least v is);
  utf8 = λ v is. ascii-utf8 v (All-weaker IsCapital (λ b. b < 128) (λ b h. omega (arith, h.1)) v is.capitals);
}

-- the reader of bags' serials and of items' codes
pub serials : Value IsSerial (λ text. text) serial_of
unfolding serial_of
serials = record {
  again = λ v is. sym (serial-read (Some v) v (is, refl));
  found = λ text. tested IsSerial (is_serial text) text (serial-from text);
  printing = λ v is. at_least-less 48 32 v (omega arith) (serial-at_least v is);
  utf8 = λ v is. ascii-utf8 v (All-weaker (λ b. IsCapital b ⊎ IsDigit b) (λ b. b < 128) (λ b h. grind arith) v is.each);
}

-- the reader of lines, as of names and remarks
pub lines-read : (limit : ℕ) → Value (IsLine limit) (λ text. text) (line_of limit)
unfolding line_of
lines-read limit = record {
  again = λ v is. sym (line-read limit (Some v) v (is, refl));
  found = λ text. tested (IsLine limit) (is_line limit text) text (line-from limit text);
  printing = λ v is. All-weaker IsPrinting (λ b. 32 ≤ b) (λ b h. h.0) v is.printing;
  utf8 = λ v is. is.text;
}

-- a script is read again from its text
pub scripts : Reads IsUtf8 (λ text. text) script_of
scripts v is = sym (script-read (Some v) v (is, refl))

-- what is read as a script is UTF-8
pub script-found : (text : List ℕ) → IfSome (script_of text) IsUtf8
unfolding script_of
script-found text = tested IsUtf8 (is_utf8 text) text (IsUtf8-from_is_utf8 text)

-- the reader of truth values
pub truths : Value (λ _. ⊤) truth_text truth_of
unfolding truth_of
truths = texts-value truth_text (true ∷ false ∷ []) (λ v _. grind arith) (each-known (true ∷ false ∷ [])) refl

-- ---- where a bag is put

destination-again : (v : Destination) → IsDestination v → destination_of (destination_text v) ≡ Some v
unfolding destination_of
destination-again SafeOne is = refl
destination-again (DepositBox n) is =
    let other = false_from_ne_true (same_text (decimal n) (codes "safe1"))
    (λ e. number-no_word n is (equal_texts (decimal n) (codes "safe1") (sym e))) in
    rw (other, boxes.again n is) refl

destination-plain : (v : Destination) → IsDestination v → AtLeast 32 (destination_text v) × IsUtf8 (destination_text v)
destination-plain SafeOne is = plain (codes "safe1") refl
destination-plain (DepositBox n) is = (boxes.printing n is, boxes.utf8 n is)

destination-found : (text : List ℕ) → IfSome (destination_of text) IsDestination
unfolding destination_of
destination-found text =
    cond_both (same_text text (codes "safe1")) (Some SafeOne) _ (λ o. IfSome o IsDestination) (λ _. tt)
    (λ _. mapped (IsNumber MAX_BOX) IsDestination DepositBox (λ n is. is) (box_of text) (boxes.found text))

-- the reader of destinations of bags
pub destinations : Value IsDestination destination_text destination_of
destinations = record {
  again = destination-again;
  found = destination-found;
  printing = λ v is. (destination-plain v is).0;
  utf8 = λ v is. (destination-plain v is).1;
}

-- ---- lists

-- each code of a list is read again
pub each-again : (IsValue : List ℕ → Type 0) (read : List ℕ → Option (List ℕ)) → Reads IsValue (λ text. text) read → (list : List (List ℕ))
    → All IsValue list → each_of read list ≡ Some list
each-again IsValue read reads [] each = refl
each-again IsValue read reads (code ∷ codes) each =
    rw (reads code (All-head IsValue code codes each), each-again IsValue read reads codes (All-tail IsValue code codes each)) refl

-- a list is cut at its commas into its codes
pub pieces : (list : List (List ℕ)) → 1 ≤ length list → All (λ code. Lacks 44 code) list → between_commas (listed list) ≡ list
pieces [] some each = absurd (omega (arith, some))
pieces (code ∷ []) some each = slice_split_none (λ b. eqb b 44) code (All-head (λ c. Lacks 44 c) code [] each)
pieces (code ∷ next ∷ more) some each =
    slice_split_at (λ b. eqb b 44) code 44 (listed (next ∷ more)) (All-head (λ c. Lacks 44 c) code (next ∷ more) each) refl
    ∙ ap (λ (texts : List (List ℕ)). code ∷ texts) (pieces (next ∷ more) (omega arith) (All-tail (λ c. Lacks 44 c) code (next ∷ more) each))

join-at_least : (low : ℕ) (list : List (List ℕ)) → low ≤ 44 → All (λ code. AtLeast low code) list → AtLeast low (listed list)
join-at_least low [] le each = All-nil (λ b. low ≤ b)
join-at_least low (code ∷ []) le each = All-head (λ c. AtLeast low c) code [] each
join-at_least low (code ∷ next ∷ more) le each =
    All-append (λ b. low ≤ b) code (44 ∷ listed (next ∷ more)) (All-head (λ c. AtLeast low c) code (next ∷ more) each)
    (All-append (λ b. low ≤ b) (44 ∷ []) (listed (next ∷ more)) (All-from_recursion (λ b. low ≤ b) (44 ∷ []) (le, tt))
    (join-at_least low (next ∷ more) le (All-tail (λ c. AtLeast low c) code (next ∷ more) each)))

-- a list of printing codes has no line feed
pub codes-feed : (IsValue : List ℕ → Type 0) → ((v : List ℕ) → IsValue v → AtLeast 32 v) → (list : List (List ℕ)) → All IsValue list → Lacks 10 (listed list)
codes-feed IsValue printing list each =
    lacks-below 10 32 (listed list) (omega arith) (join-at_least 32 list (omega arith) (All-weaker IsValue (λ code. AtLeast 32 code) printing list each))

-- a code has no comma
pub initials-lack : (code : List ℕ) → IsInitials code → Lacks 44 code
initials-lack code is = lacks-below 44 65 code (omega arith) (initials-at_least code is)

-- an item's code has no comma
pub items-lack : (code : List ℕ) → IsSerial code → Lacks 44 code
items-lack code is = lacks-below 44 48 code (omega arith) (serial-at_least code is)

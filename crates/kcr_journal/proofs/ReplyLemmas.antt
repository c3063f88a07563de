-- What is read from a reply's text is what the reply has.
use Rattle.std.proofs.Common.{◌≡◌, ℕ, zero, suc, ◌+◌, ◌/◌, ◌%◌, ◌<◌, ◌==◌, ◌||◌, ◌&&◌, Bool, true, false, not, if◌then◌else◌, List, [], ◌∷◌, ◌++◌}
use Rattle.std.proofs.Common.{length, map, take, drop, Option, Some, None, codes, refl, sym, ap, ◌∙◌, arith, append_assoc, append-nil, All, length-append}
use Rattle.std.specs.Fmt.{decimal, digits, digits_onto, digit_glyph}
use Rattle.std.specs.List.{position, position_or_len, list_all, filter_map, cons_option, join_with_byte, AllByRecursion}
use Rattle.std.specs.Option.{option_map_or}
use Rattle.std.proofs.Math.{Seq.drop-append-add, Seq.take-append_seam, Seq.get_or-append_seam, ListN.get_or-append}
use Rattle.std.proofs.lemmas.Bool.{lt-ltb, and_parts, Decides.nat_tests}
use Rattle.std.proofs.lemmas.List.Elements.{All-get_or, All-weaker, All-nil, All-cons}
use Rattle.std.proofs.lemmas.List.{Folds.list_all-append, Splits.slice_split_at, Splits.slice_split_none}
use Rattle.std.proofs.lemmas.List.Sums.{position_or_len_is, AllPass-from_list_all, list_all-from_AllPass}
use Rattle.kcr_base.specs.{Initials.IsCapital, Initials.IsInitials, Serial.IsDigit, Forms.is_capital, Forms.is_initials}
use Rattle.kcr_forms.specs.Forms.{initials_of}
use Rattle.kcr_base.proofs.FormLemmas.{initials-read}
use Rattle.kcr_history.specs.{Json.quoted, Json.member, Json.object, Texts.people_array}
use Rattle.kcr_journal.specs.Replies.{after_byte, after_two, value_in, exception_in, passed_in, seated_in}

-- whether no byte of the text passes the test
abbrev lacks : (ℕ → Bool) → List ℕ → Bool
lacks p text = list_all (λ b. not (p b)) text

lacking : (p : ℕ → Bool) (text : List ℕ) → lacks p text ≡ true → All (λ b. p b ≡ false) text
lacking p text test =
    All-weaker (λ b. not (p b) ≡ true) (λ b. p b ≡ false) (λ b h. grind (arith, h)) text
    (AllPass-from_list_all (λ b. not (p b)) text test)

lacks-all : (p : ℕ → Bool) (P : ℕ → Type 0) (text : List ℕ) → ((b : ℕ) → P b → p b ≡ false) → All P text → lacks p text ≡ true
lacks-all p P text apart all =
    list_all-from_AllPass (λ b. not (p b)) text (All-weaker P (λ b. not (p b) ≡ true) (λ b h. rw (apart b h) refl) text all)

abbrev is_colon : ℕ → Bool
is_colon b = b == 58

abbrev is_end : ℕ → Bool
is_end b = b == 44 || b == 125

abbrev is_quote : ℕ → Bool
is_quote b = b == 34

-- DIGITS

glyph : (n : ℕ) → IsDigit (digit_glyph false (n % 10))
glyph n = let low : n % 10 < 10 = omega arith in rw (lt-ltb (n % 10) 10 low) (omega arith, omega arith)

onto : (k n : ℕ) (acc : List ℕ) → All IsDigit acc → All IsDigit (digits_onto k 10 false n acc)
onto zero n acc h = h
onto (suc k) n acc h =
    let more = digit_glyph false (n % 10) ∷ acc in
    let longer : All IsDigit more = All-cons IsDigit (digit_glyph false (n % 10)) acc (glyph n) h in
    elim (n / 10 == 0) as (λ b. All IsDigit (if b then more else digits_onto k 10 false (n / 10) more)) [
      | true ↦ longer
      | false ↦ onto k (n / 10) more longer
    ]

number-lacks : (p : ℕ → Bool) (n : ℕ) → ((b : ℕ) → IsDigit b → p b ≡ false) → lacks p (decimal n) ≡ true
unfolding digits
number-lacks p n apart = lacks-all p IsDigit (decimal n) apart (onto 64 n [] (All-nil IsDigit))

-- NUMBERS

-- where the first such byte stands
first-at : (p : ℕ → Bool) (w : List ℕ) (b : ℕ) (rest : List ℕ) → lacks p w ≡ true → p b ≡ true → position p (w ++ b ∷ rest) ≡ Some (length w)
first-at p w b rest none here =
    let within : length w < length (w ++ b ∷ rest) = omega (arith, length-append w (b ∷ rest)) in
    let place : position_or_len p (w ++ b ∷ rest) ≡ length w =
    position_or_len_is p (w ++ b ∷ rest) (length w) 0 (omega (arith, length-append w (b ∷ rest)))
    (λ k h. rw (get_or-append w (b ∷ rest) 0 k h) (All-get_or (λ x. p x ≡ false) w k 0 h (lacking p w none)))
    (λ h. rw (get_or-append_seam w b rest 0) here) in
    rw (place, lt-ltb (length w) (length (w ++ b ∷ rest)) within) refl

-- behind a value and the next member's name and colon
after-colon : (w name rest : List ℕ) → lacks is_colon w ≡ true → lacks is_colon name ≡ true → after_byte 58 (w ++ (name ++ 58 ∷ rest)) ≡ rest
unfolding after_byte
after-colon w name rest none other =
    let all : lacks is_colon (w ++ name) ≡ true = rw (list_all-append (λ b. not (is_colon b)) w name, none, other) refl in
    ap (after_byte 58) (sym (append_assoc w name (58 ∷ rest)))
    ∙ ap (λ (o : Option ℕ). option_map_or (λ i. drop (i + 1) ((w ++ name) ++ 58 ∷ rest)) o []) (first-at is_colon (w ++ name) 58 rest all refl)
    ∙ drop-append-add (w ++ name) (58 ∷ rest) 1

number-colon : (n : ℕ) → lacks is_colon (decimal n) ≡ true
number-colon n = number-lacks is_colon n (λ b h. grind (arith, nat_tests))

value-is : (n b : ℕ) (rest : List ℕ) → is_end b ≡ true → value_in (decimal n ++ b ∷ rest) ≡ decimal n
unfolding value_in
value-is n b rest here =
    ap (λ (o : Option ℕ). option_map_or (λ i. take i (decimal n ++ b ∷ rest)) o (decimal n ++ b ∷ rest))
    (first-at is_end (decimal n) b rest (number-lacks is_end n (λ b h. grind (arith, nat_tests))) here)
    ∙ take-append_seam (decimal n) (b ∷ rest)

-- from the reply of an exception that passes no step its number is read
pub stated-number : (n e : ℕ)
    → exception_in (object (member (codes "accepted") (decimal n) ∷ member (codes "exception") (decimal e) ∷ [])) ≡ decimal e
stated-number n e =
    ap (λ t. exception_in (codes "{\"accepted\":" ++ t)) (append_assoc (decimal n) (codes ",\"exception\":" ++ decimal e) (codes "}"))
    ∙ ap (λ t. value_in (after_byte 58 t)) (after-colon [] (codes "{\"accepted\"") _ refl refl)
    ∙ ap value_in (after-colon (decimal n) (codes ",\"exception\"") (decimal e ++ codes "}") (number-colon n) refl)
    ∙ value-is e 125 [] refl

-- PEOPLE

-- a part that is no person's initials: it begins with no capital letter
abbrev is_other : List ℕ → Bool
is_other [] = true
is_other (c ∷ cs) = not (is_capital c)

abbrev IsSkipped : List ℕ → Type 0
IsSkipped w = (lacks is_quote w && is_other w) ≡ true

other : (w : List ℕ) → is_other w ≡ true → initials_of w ≡ None
unfolding initials_of is_initials
other [] h = refl
other (c ∷ cs) h = grind (arith, h)

part : (w rest : List ℕ) → lacks is_quote w ≡ true → seated_in (w ++ 34 ∷ rest) ≡ cons_option (initials_of w) (seated_in rest)
unfolding seated_in
part w rest none = ap (filter_map initials_of) (slice_split_at is_quote w 34 rest (lacking is_quote w none) refl)

skip : (w rest : List ℕ) → IsSkipped w → seated_in (w ++ 34 ∷ rest) ≡ seated_in rest
skip w rest h =
    let both = and_parts (lacks is_quote w) (is_other w) h in
    part w rest both.0 ∙ ap (λ o. cons_option o (seated_in rest)) (other w both.1)

ends : (w : List ℕ) → IsSkipped w → seated_in w ≡ []
unfolding seated_in
ends w h =
    let both = and_parts (lacks is_quote w) (is_other w) h in
    ap (filter_map initials_of) (slice_split_none is_quote w (lacking is_quote w both.0)) ∙ ap (λ o. cons_option o []) (other w both.1)

keep : (p rest : List ℕ) → IsInitials p → seated_in (p ++ 34 ∷ rest) ≡ p ∷ seated_in rest
keep p rest is =
    part p rest (lacks-all is_quote IsCapital p (λ b h. grind (arith, nat_tests)) is.capitals)
    ∙ ap (λ o. cons_option o (seated_in rest)) (sym (initials-read (Some p) p (is, refl)))

quoted-more : (p j rest : List ℕ) → ((p ++ 34 ∷ []) ++ 44 ∷ j) ++ rest ≡ p ++ 34 ∷ (44 ∷ (j ++ rest))
quoted-more p j rest = simp append_assoc

-- people between quotes, with commas between them
people-in : (people : List (List ℕ)) (c : ℕ) (cs rest : List ℕ) → IsSkipped (c ∷ cs) → IsSkipped ((c ∷ cs) ++ codes "],")
    → AllByRecursion IsInitials people
    → seated_in ((c ∷ cs) ++ (join_with_byte 44 (map quoted people) ++ (codes "]," ++ 34 ∷ rest))) ≡ people ++ seated_in rest
people-in [] c cs rest front all each = ap seated_in (sym (append_assoc (c ∷ cs) (codes "],") (34 ∷ rest))) ∙ skip ((c ∷ cs) ++ codes "],") rest all
people-in (p ∷ []) c cs rest front all each =
    skip (c ∷ cs) _ front ∙ ap seated_in (append_assoc p (34 ∷ []) (codes "]," ++ 34 ∷ rest))
    ∙ keep p _ each.0 ∙ ap (λ ps. p ∷ ps) (skip (codes "],") rest refl)
people-in (p ∷ q ∷ ps) c cs rest front all each =
    skip (c ∷ cs) _ front ∙ ap seated_in (quoted-more p (join_with_byte 44 (map quoted (q ∷ ps))) (codes "]," ++ 34 ∷ rest))
    ∙ keep p _ each.0 ∙ ap (λ ps. p ∷ ps) (people-in (q ∷ ps) 44 [] rest refl refl each.1)

-- a number between a colon and a comma or brace
number : (n c : ℕ) → is_quote c ≡ false → IsSkipped (58 ∷ (decimal n ++ c ∷ []))
number n c apart =
    rw (list_all-append (λ b. not (is_quote b)) (decimal n) (c ∷ []), number-lacks is_quote n (λ b h. grind (arith, nat_tests)), apart) refl

behind-number : (n : ℕ) (rest : List ℕ) → seated_in (58 ∷ (decimal n ++ 44 ∷ 34 ∷ rest)) ≡ seated_in rest
behind-number n rest =
    ap (λ t. seated_in (58 ∷ t)) (sym (append_assoc (decimal n) (44 ∷ []) (34 ∷ rest))) ∙ skip (58 ∷ (decimal n ++ 44 ∷ [])) rest (number n 44 refl)

behind-first : (n : ℕ) (rest : List ℕ) → seated_in (codes "{\"accepted\":" ++ (decimal n ++ 44 ∷ 34 ∷ rest)) ≡ seated_in rest
behind-first n rest = skip (codes "{") _ refl ∙ skip (codes "accepted") _ refl ∙ behind-number n rest

module _ (people : List (List ℕ)) (each : AllByRecursion IsInitials people) where
  -- the array of some people's initials has no colon
  people-colon : lacks is_colon (people_array people) ≡ true
  people-colon = rw (list_all-append (λ b. not (is_colon b)) (join_with_byte 44 (map quoted people)) (codes "]"), joined people each) refl
    where
      plain : (p : List ℕ) → IsInitials p → lacks is_colon p ≡ true
      plain p is = lacks-all is_colon IsCapital p (λ b h. grind (arith, nat_tests)) is.capitals

      joined : (ps : List (List ℕ)) → AllByRecursion IsInitials ps → lacks is_colon (join_with_byte 44 (map quoted ps)) ≡ true
      joined [] each = refl
      joined (p ∷ []) each = rw (list_all-append (λ b. not (is_colon b)) p (34 ∷ []), plain p each.0) refl
      joined (p ∷ q ∷ ps) each =
          rw (
            list_all-append (λ b. not (is_colon b)) (p ++ 34 ∷ []) (44 ∷ join_with_byte 44 (map quoted (q ∷ ps))),
            list_all-append (λ b. not (is_colon b)) p (34 ∷ []),
            plain p each.0,
            joined (q ∷ ps) each.1,
          ) refl

  -- who is listed before the step
  listed : (k : ℕ) → seated_in (codes ":" ++ (people_array people ++ (codes ",\"step\":" ++ decimal k ++ codes "}"))) ≡ people
  listed k =
      ap (λ t. seated_in (codes ":[" ++ t))
      (append_assoc (join_with_byte 44 (map quoted people)) (codes "]") (codes ",\"step\":" ++ decimal k ++ codes "}"))
      ∙ people-in people 58 (91 ∷ []) (codes "step\":" ++ decimal k ++ codes "}") refl refl each
      ∙ ap (λ rest. people ++ rest) (skip (codes "step") _ refl ∙ ends (58 ∷ (decimal k ++ 125 ∷ [])) (number k 125 refl))
      ∙ append-nil people

  -- from the reply of a signature those who are seated are read
  pub signed-people : (n k : ℕ)
      → seated_in (object (member (codes "accepted") (decimal n) ∷ member (codes "seating") (people_array people)
      ∷ member (codes "step") (decimal k) ∷ [])) ≡ people
  signed-people n k =
      ap (λ t. seated_in (codes "{\"accepted\":" ++ t))
      (regrouped (decimal n) (codes ",\"seating\":") (people_array people) (codes ",\"step\":" ++ decimal k) (codes "}"))
      ∙ behind-first n _ ∙ skip (codes "seating") _ refl ∙ listed k
    where
      regrouped : (a s e k z : List ℕ) → (a ++ (s ++ (e ++ k))) ++ z ≡ a ++ (s ++ (e ++ (k ++ z)))
      regrouped a s e k z = simp append_assoc

  module _ (n e k : ℕ) where
    abbrev passing : List ℕ
    passing =
        object (member (codes "accepted") (decimal n) ∷ member (codes "exception") (decimal e)
        ∷ member (codes "seating") (people_array people) ∷ member (codes "step") (decimal k) ∷ [])

    abbrev behind : List ℕ
    behind = codes ",\"seating\":" ++ (people_array people ++ (codes ",\"step\":" ++ decimal k ++ codes "}"))

    regrouped : (a s e t j k z : List ℕ) → (a ++ (s ++ (e ++ (t ++ (j ++ k))))) ++ z ≡ a ++ (s ++ (e ++ (t ++ (j ++ (k ++ z)))))
    regrouped a s e t j k z = simp append_assoc

    flat : passing ≡ codes "{\"accepted\":" ++ (decimal n ++ (codes ",\"exception\":" ++ (decimal e ++ behind)))
    flat =
        ap (λ t. codes "{\"accepted\":" ++ t)
        (regrouped (decimal n) (codes ",\"exception\":") (decimal e) (codes ",\"seating\":") (people_array people)
        (codes ",\"step\":" ++ decimal k) (codes "}"))

    two-colons : after_two passing ≡ decimal e ++ behind
    two-colons =
        ap after_two flat ∙ ap (after_byte 58) (after-colon [] (codes "{\"accepted\"") _ refl refl)
        ∙ after-colon (decimal n) (codes ",\"exception\"") _ (number-colon n) refl

    -- from the reply of an exception that passes a step its number is read
    pub passing-number : exception_in passing ≡ decimal e
    passing-number = ap value_in two-colons ∙ value-is e 44 _ refl

    -- from the reply of an exception that passes a step the step is read
    pub passing-step : passed_in passing ≡ decimal k
    passing-step =
        ap (λ text. value_in (after_two text)) two-colons
        ∙ ap (λ t. value_in (after_byte 58 t)) (after-colon (decimal e) (codes ",\"seating\"") _ (number-colon e) refl)
        ∙ ap value_in (after-colon (people_array people) (codes ",\"step\"") _ people-colon refl) ∙ value-is k 125 [] refl

    -- from the reply of an exception that passes a step those who are seated are read
    pub passing-people : seated_in passing ≡ people
    passing-people =
        ap seated_in flat ∙ behind-first n _ ∙ skip (codes "exception") _ refl ∙ behind-number e _ ∙ skip (codes "seating") _ refl ∙ listed k

-- The values of the register that are found by their texts.
use Rattle.std.proofs.Common.{◌≡◌, ℕ, ◌+◌, ◌*◌, List, [], ◌∷◌, Option, Some, IfSome, arith}
use Rattle.std.specs.Bool.{⊤}
use Rattle.std.specs.{Fmt.decimal, List.AllByRecursion}
use Rattle.kcr_base.specs.{Reads.HasText, Reads.ReadsText, Day.IsDay, Day.day_text}
use Rattle.kcr_base.specs.{Facility.facility_text, Role.role_text, Number.IsNumber, Number.IsNumberText}
use Rattle.kcr_base.specs.{Moment.IsMoment, Moment.moment_text, Place.IsPlace, Place.place_text}
use Rattle.kcr_base.specs.declared.place.{Facility.Facility, Facility.TheVariants.East, Facility.TheVariants.West, Place.Place, Role.Role}
use Rattle.kcr_base.specs.declared.place.Role.TheVariants.{Ca, Iw, Sa, Ssc1, Ssc2, Rkos, Sw}
use Rattle.kcr_base.specs.Forms.{number_of, day_of, moment_of, ceremony_of, box_of, step_of, role_of, facility_of, places, place_of}
use Rattle.std.proofs.lemmas.Option.{IfSome_then}
use Rattle.kcr_base.proofs.TextLemmas.{by_text-read, number-read}

module _ (text : List ℕ) (r : Option ℕ) where
  -- a reader that finds exactly the days by their texts answers what `day_of` gives
  pub day-read : HasText IsDay day_text text r → ReadsText IsDay day_text text r → r ≡ day_of text
  unfolding day_of
  day-read = number-read IsDay day_text 10957 47481 text r (omega arith) (omega arith)

  -- a reader that finds exactly the moments by their texts answers what `moment_of` gives
  pub moment-read : HasText IsMoment moment_text text r → ReadsText IsMoment moment_text text r → r ≡ moment_of text
  unfolding moment_of
  moment-read = number-read IsMoment moment_text (10957 * 86400) (47481 * 86400 + 86399) text r (omega arith) (omega arith)

  -- a reader that finds exactly the decimal texts up to a limit answers what `number_of` gives
  pub numeral-read : (limit : ℕ) → IfSome r (IsNumberText limit text) → ((n : ℕ) → IsNumberText limit text n → r ≡ Some n) → r ≡ number_of limit text
  unfolding number_of
  numeral-read limit found only = number-read (IsNumber limit) decimal 1 limit text r (omega arith) (omega arith)
      (IfSome_then r found (λ n h. (h.number, h.text))) (λ v h t. only v (record { number = h; text = t }))

  -- a reader that finds exactly the decimal texts of ceremonies answers what `ceremony_of` gives
  pub ceremony-read : IfSome r (IsNumberText 9999 text) → ((n : ℕ) → IsNumberText 9999 text n → r ≡ Some n) → r ≡ ceremony_of text
  unfolding ceremony_of number_of
  ceremony-read = numeral-read 9999

  -- a reader that finds exactly the decimal texts of boxes answers what `box_of` gives
  pub box-read : IfSome r (IsNumberText 9999 text) → ((n : ℕ) → IsNumberText 9999 text n → r ≡ Some n) → r ≡ box_of text
  unfolding box_of number_of
  box-read = numeral-read 9999

  -- a reader that finds exactly the decimal texts of steps answers what `step_of` gives
  pub step-read : IfSome r (IsNumberText 400 text) → ((n : ℕ) → IsNumberText 400 text n → r ≡ Some n) → r ≡ step_of text
  unfolding step_of number_of
  step-read = numeral-read 400

-- places with the same text are equal
pub one_place : (p q : Place) → place_text p ≡ place_text q → p ≡ q
one_place p q h = grind arith

-- each of the listed places is one
pub each-place : AllByRecursion IsPlace places
each-place = omega arith

module _ (text : List ℕ) where
  -- a reader that finds exactly the roles by their texts answers what `role_of` gives
  pub role-read : (r : Option Role) → HasText (λ _. ⊤) role_text text r → ReadsText (λ _. ⊤) role_text text r → r ≡ role_of text
  unfolding role_of
  role-read r = by_text-read (λ _. ⊤) role_text text r (Ca ∷ Iw ∷ Sa ∷ Ssc1 ∷ Ssc2 ∷ Rkos ∷ Sw ∷ []) (grind arith) (λ v _. grind arith)

  -- a reader that finds exactly the facilities by their texts answers what `facility_of` gives
  pub facility-read : (r : Option Facility) → HasText (λ _. ⊤) facility_text text r → ReadsText (λ _. ⊤) facility_text text r → r ≡ facility_of text
  unfolding facility_of
  facility-read r found only = by_text-read (λ _. ⊤) facility_text text r (East ∷ West ∷ []) (grind arith) (λ v _. grind arith) found only

  -- a reader that finds exactly the places by their texts answers what `place_of` gives
  pub place-read : (r : Option Place) → HasText IsPlace place_text text r → ReadsText IsPlace place_text text r → r ≡ place_of text
  unfolding place_of
  place-read r found only = by_text-read IsPlace place_text text r places each-place (λ v h. grind arith) found only

-- what answers of readers cite
pub ruleset value_readings = (day-read, moment-read, ceremony-read, box-read, step-read, numeral-read, role-read, facility-read, place-read)

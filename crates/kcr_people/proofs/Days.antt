-- Laws of days: what the rows say from a day on they say of that day or a later one, and of no other.
use Rattle.std.proofs.Common.{◌≡◌, ℕ, ◌≤◌, Bool, true, ◌&&◌, nat_le, max, is_some, inl, inr, List, [], ◌∷◌, refl, arith}
use Rattle.std.specs.List.{list_any, list_all}
use Rattle.std.proofs.lemmas.Bool.{false≢true, or_cases, or_right, Decides.nat_tests}
use Rattle.kcr_base.specs.{Same.same_text, Same.same_place, declared.place.Place.Place, declared.place.Role.Role}
use Rattle.kcr_base.proofs.ListLemmas.{any-more, any-find}
use Rattle.kcr_people.specs.declared.{Appointment.Appointment, Training.Training, Withdrawal.Withdrawal}
use Rattle.kcr_people.specs.People.{is_of, is_withdrawn_by, trains, trained_by, trained_from_by, lasts, lasts_beyond, holds}
use Rattle.kcr_people.specs.People.{holder_by, holds_some_by, place_held_from_by, person_holds_from_by}

-- what passes one test passes another on the day or a later one: so does some element
some_day : {X : Type 0} (P : X → Bool) (Q : ℕ → X → Bool) (day : ℕ) → ((x : X) → P x ≡ true → (d : ℕ) × (day ≤ d) × (Q d x ≡ true)) → (xs : List X)
    → list_any P xs ≡ true → (d : ℕ) × (day ≤ d) × (list_any (Q d) xs ≡ true)
some_day P Q day f [] h = absurd (false≢true h)
some_day P Q day f (x ∷ xs) h = elim (or_cases (P x) (list_any P xs) h) [
  | inl e ↦ let w = f x e in (w.0, w.1, rw w.2 refl)
  | inr e ↦ let w = some_day P Q day f xs e in (w.0, w.1, or_right (Q w.0 x) (list_any (Q w.0) xs) w.2)
]

-- TRAININGS

-- a withdrawal is refused as vacant if the person is trained for the role neither on its day nor on a later one: who is trained from a day on is trained on
-- one of these days
pub trained_on_some_day : (ts : List Training) (ws : List Withdrawal) (who : List ℕ) (role : Role) (day : ℕ) → trained_from_by ts ws who role day ≡ true
    → (d : ℕ) × (day ≤ d) × (trained_by ts ws who role d ≡ true)
trained_on_some_day ts ws who role day h = some_day _ (λ d. trains ws who role d) day (λ row e. (max row.since day, omega arith, e)) ts h

-- a training that is withdrawn on a day is so on a later one
still-withdrawn : (ws : List Withdrawal) (row : Training) (day d : ℕ) → day ≤ d → is_withdrawn_by ws row day ≡ true → is_withdrawn_by ws row d ≡ true
still-withdrawn ws row day d l h =
    any-more (λ w. is_of row w && nat_le w.day day) (λ w. is_of row w && nat_le w.day d) ws (λ w e. grind (arith, nat_tests, e)) h

-- and it is refused so only then: who is trained on one of these days is trained from the day on
pub trained_on_no_other : (ts : List Training) (ws : List Withdrawal) (who : List ℕ) (role : Role) (day d : ℕ) → day ≤ d → trained_by ts ws who role d ≡ true
    → trained_from_by ts ws who role day ≡ true
trained_on_no_other ts ws who role day d l h =
    any-more (trains ws who role d) (λ row. trains ws who role (max row.since day) row) ts
    (λ row e. grind (arith, nat_tests, e, still-withdrawn ws row (max row.since day) d)) h

-- APPOINTMENTS

any_both : {X : Type 0} (L P : X → Bool) (xs : List X) → list_all L xs ≡ true → list_any P xs ≡ true → list_any (λ x. L x && P x) xs ≡ true
any_both L P [] l h = h
any_both L P (x ∷ xs) l h = grind (arith, l, h, any_both L P xs)

-- rows of which some pass a test from a day on hold on a day: s is the test of the place or of the person
module _ (s : Appointment → Bool) where
  abbrev held_on : ℕ → Appointment → Bool
  held_on d row = s row && nat_le row.since d && lasts_beyond d row

  -- if a row of these lasts beyond the day, some row holds on the day or a later one
  pub held_on_some_day : (rows : List Appointment) (day : ℕ) → list_all lasts rows ≡ true → list_any (λ row. s row && lasts_beyond day row) rows ≡ true
      → (d : ℕ) × (day ≤ d) × (list_any (held_on d) rows ≡ true)
  held_on_some_day rows day l h =
      some_day (λ row. lasts row && (s row && lasts_beyond day row)) held_on day
      (λ row e. (max row.since day, omega arith, grind (arith, nat_tests, e))) rows (any_both lasts _ rows l h)

  -- if some row holds on one of these days, a row of these lasts beyond the day
  pub held_on_no_other : (rows : List Appointment) (day d : ℕ) → day ≤ d → list_any (held_on d) rows ≡ true
      → list_any (λ row. s row && lasts_beyond day row) rows ≡ true
  held_on_no_other rows day d l h =
      any-more (held_on d) (λ row. s row && lasts_beyond day row) rows (λ row e. grind (arith, nat_tests, e)) h

-- where each appointment lasts beyond its first day, a place that is held from a day on, so that nobody is appointed to it then, has a holder on the day or
-- a later one
pub place_on_some_day : (rows : List Appointment) → list_all lasts rows ≡ true → (place : Place) (day : ℕ) → place_held_from_by rows place day ≡ true
    → (d : ℕ) × (day ≤ d) × (is_some (holder_by rows place d) ≡ true)
place_on_some_day rows l place day h =
    let w = held_on_some_day (λ row. same_place row.place place) rows day l h in
    (w.0, w.1, grind (arith, w.2, any-find (holds place w.0) rows))

-- and a place that has a holder on the day or a later one is held from the day on
pub place_on_no_other : (rows : List Appointment) (place : Place) (day d : ℕ) → day ≤ d → is_some (holder_by rows place d) ≡ true
    → place_held_from_by rows place day ≡ true
place_on_no_other rows place day d l h =
    held_on_no_other (λ row. same_place row.place place) rows day d l (grind (arith, h, any-find (holds place d) rows))

-- where each appointment lasts beyond its first day, a person who holds places from a day on, and so is put in no other, holds one on the day or a later one
pub person_on_some_day : (rows : List Appointment) → list_all lasts rows ≡ true → (who : List ℕ) (day : ℕ) → person_holds_from_by rows who day ≡ true
    → (d : ℕ) × (day ≤ d) × (holds_some_by rows who d ≡ true)
person_on_some_day rows l who day h = held_on_some_day (λ row. same_text row.who who) rows day l h

-- and a person who holds a place on the day or a later one holds places from the day on
pub person_on_no_other : (rows : List Appointment) (who : List ℕ) (day d : ℕ) → day ≤ d → holds_some_by rows who d ≡ true
    → person_holds_from_by rows who day ≡ true
person_on_no_other rows who day d l h = held_on_no_other (λ row. same_text row.who who) rows day d l h

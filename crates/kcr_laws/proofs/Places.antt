-- Who holds a place from a day on, and since when, by the rows and by the commands.
use Rattle.kcr_laws.proofs.Common.{◌≡◌, ℕ, ◌≤◌, true, false, not, ◌&&◌, nat_le, List, [], ◌∷◌, map, Option, Some, None, option_map, is_some, inl, inr}
use Rattle.kcr_laws.proofs.Common.{refl, sym, ap, ◌∙◌, arith, unwrap_or, list_any, false≢true, and_parts, or_cases, nat_tests, option_or, same_text}
use Rattle.kcr_laws.proofs.Common.{same_place, is_this, Place, Role, Range, Vacant, place-same, place-itself, Appointment, holds, holder_by}
use Rattle.kcr_laws.proofs.Common.{lasts_beyond, place_held_from_by, holds_some_by, open_row_by, trained_by, first_day_refusal, vacant_refusal, Act}
use Rattle.kcr_laws.proofs.Common.{Appoint, Replace, Release, History, last_value_of_acts, trainings, withdrawals, appointments, appointments_after}
use Rattle.kcr_laws.proofs.Common.{ended, IsRegister, stacked, orderly, holder-appointments, trained-rows, IsHeldOnOrAfter, HoldsPlaceOnOrAfter}
use Rattle.kcr_laws.proofs.Common.{IsTrainedOnOrAfter, says_since, held_since, BeginsFrom}
use Rattle.kcr_laws.proofs.Finds.{none-below}

-- A PLACE FROM A DAY ON

-- the same by the rows
abbrev pub RowsHold : History → Place → ℕ → Type 0
RowsHold A place day = (d : ℕ) × (day ≤ d) × (is_some (holder_by (appointments A) place d) ≡ true)

-- a place held on the day or later by the rows is so by the history
pub place_told : (A : History) → IsRegister A → (place : Place) (day : ℕ) → RowsHold A place day → IsHeldOnOrAfter A place day
place_told A r place day (d, l, h) = (d, l, ap is_some (sym (holder-appointments A r place d)) ∙ h)

-- a place held on the day or later by the history is so by the rows
pub place_holds : (A : History) → IsRegister A → (place : Place) (day : ℕ) → IsHeldOnOrAfter A place day → RowsHold A place day
place_holds A r place day (d, l, h) = (d, l, ap is_some (holder-appointments A r place d) ∙ h)

-- A PERSON FROM A DAY ON

-- a place with a holder on a day is held on it
some_holder : (rows : List Appointment) (place : Place) (d : ℕ) (who : List ℕ) → is_this who (holder_by rows place d) ≡ true
    → list_any (holds place d) rows ≡ true
some_holder [] place d who h = h
some_holder (row ∷ rows) place d who h = grind (arith, some_holder rows place d who)

-- the place has one holder on the day: who is found by an older row is found by all
older_holder : (row : Appointment) (rows : List Appointment) (place : Place) (d : ℕ) (who : List ℕ) → stacked (row ∷ rows) ≡ true
    → is_this who (holder_by rows place d) ≡ true → is_this who (holder_by (row ∷ rows) place d) ≡ true
older_holder row rows place d who s h = grind (arith, none-below place d row rows s, some_holder rows place d who h)

-- whoever holds by some row is the holder of its place
its_holder : (rows : List Appointment) (who : List ℕ) (d : ℕ) → stacked rows ≡ true → holds_some_by rows who d ≡ true
    → (place : Place) × (is_this who (holder_by rows place d) ≡ true)
its_holder [] who d s h = absurd (false≢true h)
its_holder (row ∷ rows) who d s h = elim (or_cases (same_text row.who who && nat_le row.since d && lasts_beyond d row) (holds_some_by rows who d) h) [
  | inl e ↦ (row.place, grind (arith, place-itself row.place))
  | inr e ↦
      let w = its_holder rows who d (and_parts (not (place_held_from_by rows row.place row.since)) (stacked rows) s).1 e in
      (w.0, older_holder row rows w.0 d who s w.1)
]

-- the holder of a place holds by some row
by_some_row : (rows : List Appointment) (place : Place) (d : ℕ) (who : List ℕ) → is_this who (holder_by rows place d) ≡ true → holds_some_by rows who d ≡ true
by_some_row [] place d who h = h
by_some_row (row ∷ rows) place d who h = grind (arith, by_some_row rows place d who)

-- the same by the rows
abbrev pub RowsPut : History → List ℕ → ℕ → Type 0
RowsPut A who day = (d : ℕ) × (day ≤ d) × (holds_some_by (appointments A) who d ≡ true)

-- a person who holds a place on the day or later by the rows does so by the history
pub person_told : (A : History) → IsRegister A → (who : List ℕ) (day : ℕ) → RowsPut A who day → HoldsPlaceOnOrAfter A who day
person_told A r who day (d, l, h) =
    let p = its_holder (appointments A) who d (orderly A r).0 h in
    (d, l, (p.0, ap (is_this who) (sym (holder-appointments A r p.0 d)) ∙ p.1))

-- a person who holds a place on the day or later by the history does so by the rows
pub person_holds : (A : History) → IsRegister A → (who : List ℕ) (day : ℕ) → HoldsPlaceOnOrAfter A who day → RowsPut A who day
person_holds A r who day (d, l, p) = (d, l, by_some_row (appointments A) p.0 d who (ap (is_this who) (holder-appointments A r p.0 d) ∙ p.1))

-- SINCE WHEN

-- the first day of an open row
abbrev since_of : Option Appointment → Option ℕ
since_of o = option_map (λ row. row.since) o

-- an end of another place leaves the open row's first day as it is
other_end : (at place : Place) (day : ℕ) (rows : List Appointment) → same_place at place ≡ false
    → since_of (open_row_by (map (ended at day) rows) place) ≡ since_of (open_row_by rows place)
other_end at place day [] d = refl
other_end at place day (row ∷ rows) d = grind (arith, place-same row.place place, place-same row.place at, place-itself place, other_end at place day rows d)

-- after an end of the place it has no open row
own_end : (at place : Place) (day : ℕ) (rows : List Appointment) → same_place at place ≡ true → open_row_by (map (ended at day) rows) place ≡ None
own_end at place day [] d = refl
own_end at place day (row ∷ rows) d = grind (arith, place-same row.place place, place-same at place, place-itself place, own_end at place day rows d)

since_after : (A : History) (act : Act) (place : Place) → since_of (open_row_by (appointments A) place) ≡ held_since A place
    → since_of (open_row_by (appointments_after act (appointments A)) place)
    ≡ unwrap_or (option_or (says_since place act) (last_value_of_acts (says_since place) A)) None
since_after A (Appoint at who day) place ih = grind (arith, ih)
since_after A (Replace at who day) place ih = grind (arith, ih, other_end at place day (appointments A))
since_after A (Release at day) place ih = grind (arith, ih, other_end at place day (appointments A), own_end at place day (appointments A))
since_after A act place ih = ih

-- the open row of a place begins on the day from which its last command puts somebody there
pub since_said : (A : History) (place : Place) → since_of (open_row_by (appointments A) place) ≡ held_since A place
since_said [] place = refl
since_said (entry ∷ A) place = since_after A entry.command.act place (since_said A place)

-- TOO EARLY, AND VACANT

-- a day is out of range only if the place's last command puts somebody there from that day or a later one on
pub early_told : (A : History) (place : Place) (day : ℕ) → first_day_refusal (appointments A) place day ≡ Some Range → BeginsFrom A place day
early_told A place day h = grind (arith, nat_tests, since_said A place)

-- a day is out of range if the place's last command puts somebody there from that day or a later one on
pub early_holds : (A : History) (place : Place) (day : ℕ) → BeginsFrom A place day → first_day_refusal (appointments A) place day ≡ Some Range
early_holds A place day (since, s, l) = grind (arith, nat_tests, since_said A place)

-- a place is refused as vacant only if its last command puts nobody there
pub vacant_told : (A : History) (place : Place) → vacant_refusal (appointments A) place ≡ Some Vacant → held_since A place ≡ None
vacant_told A place h = grind (arith, since_said A place)

-- a place is refused as vacant if its last command puts nobody there
pub vacant_holds : (A : History) (place : Place) → held_since A place ≡ None → vacant_refusal (appointments A) place ≡ Some Vacant
vacant_holds A place e = grind (arith, since_said A place)

-- TRAINED FROM A DAY ON

-- the same by the rows
abbrev pub RowsTrain : History → List ℕ → Role → ℕ → Type 0
RowsTrain A who role day = (d : ℕ) × (day ≤ d) × (trained_by (trainings A) (withdrawals A) who role d ≡ true)

-- a person trained for the role on the day or later by the rows is so by the history
pub trained_told : (A : History) → IsRegister A → (who : List ℕ) (role : Role) (day : ℕ) → RowsTrain A who role day → IsTrainedOnOrAfter A who role day
trained_told A r who role day (d, l, h) = (d, l, sym (trained-rows A r who role d) ∙ h)

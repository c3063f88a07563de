-- Who is eligible for a seat, what a seating is, and what a shortage is.
use Rattle.std.specs.Prelude.{◌≡◌, ◌≢◌, ℕ, suc, ◌==◌, Bool, true, false, not, ◌&&◌, nat_lt, nat_le, List, [], ◌∷◌}
use Rattle.std.specs.Prelude.{filter, length, Option, Some, None, slice_get, if◌then◌else◌, IsTrue}
use Rattle.std.specs.List.{list_any, list_all}
use Rattle.kcr_base.specs.{Same.same_text, Same.is_before, Days.day_of, declared.place.Facility.Facility}
use Rattle.kcr_base.specs.declared.place.Place.TheVariants as Places
use Rattle.kcr_script.specs.declared.seat.Seat.{Seat}
use Rattle.kcr_script.specs.declared.seat.Seat.TheVariants.{Staff, AnyCo, AnyRksh, Co, Rksh}
use Rattle.kcr_history.specs.{History.History, Ceremonies.facility_of, Training.trained, Training.is_holder, Room.is_in, Room.present}

-- ELIGIBLE

abbrev pub one_to_seven : List ℕ
one_to_seven = 1 ∷ 2 ∷ 3 ∷ 4 ∷ 5 ∷ 6 ∷ 7 ∷ []

-- the person fits the seat on the day, in a ceremony of the facility: a role, if trained for it; a Crypto Officer,
-- if holder of one of the facility's places or of the one named; a Recovery Key Share Holder in the same way
abbrev pub fits : History → Facility → ℕ → Seat → List ℕ → Bool
fits A facility day (Staff role) who = trained A who role day
fits A facility day AnyCo who = list_any (λ n. is_holder A (Places.Co facility n) day who) one_to_seven
fits A facility day (Co n) who = is_holder A (Places.Co facility n) day who
fits A facility day AnyRksh who = list_any (λ n. is_holder A (Places.Rksh n) day who) one_to_seven
fits A facility day (Rksh n) who = is_holder A (Places.Rksh n) day who

-- the person is in the room at t and fits the seat on its day
abbrev pub eligible : History → ℕ → ℕ → Seat → List ℕ → Bool
eligible A ceremony t seat who = is_in A who ceremony t && fits A (facility_of A ceremony) (day_of t) seat who

-- SEATINGS

-- the people, all distinct, are each eligible for the seat in their position
abbrev pub is_seating : History → ℕ → ℕ → List Seat → List (List ℕ) → Bool
is_seating A ceremony t [] [] = true
is_seating A ceremony t (seat ∷ seats) (who ∷ people) =
    eligible A ceremony t seat who && not (list_any (same_text who) people) && is_seating A ceremony t seats people
is_seating A ceremony t seats people = false

-- of two lists of people of one length: at the first position that differs, the first list's person comes earlier in
-- byte order
abbrev pub comes_first : List (List ℕ) → List (List ℕ) → Bool
comes_first (a ∷ people) (b ∷ others) = if same_text a b then comes_first people others else is_before a b
comes_first people others = false

-- the first seating: in every other one the first position that differs has initials later in byte order
pub record IsFirst (A : History) (ceremony t : ℕ) (seats : List Seat) (people : List (List ℕ)) : Type 0 where
  pub seating : IsTrue (is_seating A ceremony t seats people)
  pub first : (others : List (List ℕ)) → IsTrue (is_seating A ceremony t seats others) → others ≢ people
      → IsTrue (comes_first people others)

-- SHORTAGES

-- the person is eligible for the seat in the position, counted from 0
abbrev pub is_eligible_at : History → ℕ → ℕ → List Seat → List ℕ → ℕ → Bool
is_eligible_at A ceremony t seats who position = eligible_if (slice_get seats position)
  where
    eligible_if : Option Seat → Bool
    eligible_if None = false
    eligible_if (Some seat) = eligible A ceremony t seat who

-- everybody in the room who is eligible for at least one of the positions
abbrev pub who_fit : History → ℕ → ℕ → List Seat → List ℕ → List (List ℕ)
who_fit A ceremony t seats positions =
    filter (λ who. list_any (is_eligible_at A ceremony t seats who) positions) (present A ceremony t)

-- the positions rise, each from `low` on and below `high`
abbrev pub rise : ℕ → ℕ → List ℕ → Bool
rise low high [] = true
rise low high (position ∷ positions) = nat_le low position && nat_lt position high && rise (suc position) high positions

-- positions of seats, rising from 0: fewer people than there are of them are eligible for at least one
abbrev pub is_short : History → ℕ → ℕ → List Seat → List ℕ → Bool
is_short A ceremony t seats positions =
    rise 0 (length seats) positions && nat_lt (length (who_fit A ceremony t seats positions)) (length positions)

-- each of the first positions is one of the second, and they are fewer
abbrev pub is_proper_part : List ℕ → List ℕ → Bool
is_proper_part part whole = list_all (λ p. list_any (λ q. q == p) whole) part && nat_lt (length part) (length whole)

-- a least shortage: no proper part of it is one
pub record IsLeast (A : History) (ceremony t : ℕ) (seats : List Seat) (positions : List ℕ) : Type 0 where
  pub short : IsTrue (is_short A ceremony t seats positions)
  pub least : (part : List ℕ) → IsTrue (is_proper_part part positions) → is_short A ceremony t seats part ≡ false

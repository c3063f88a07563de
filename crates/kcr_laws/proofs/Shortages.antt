-- Where nobody can fill the seats of a step there is a least set of them that too few people fit.
use Rattle.kcr_laws.proofs.Common.{◌≡◌, ℕ, zero, suc, ◌+◌, ◌<◌, ◌≤◌, Bool, true, false, not, List, [], ◌∷◌, filter, length, ◌⊎◌, inl, inr, refl, ap}
use Rattle.kcr_laws.proofs.Common.{arith, list_any, list_all, true≢false, and_from, and_cases, not-false, cases_Bool, nat_tests, same_text, same-is}
use Rattle.kcr_laws.proofs.Common.{are_rising, present_are_rising, Seat, History, sheet, present, is_seating, is_eligible_at, rise, is_short, IsLeast}
use Rattle.kcr_room.proofs.Lists.{any-filter}
use Rattle.kcr_laws.proofs.Hall.{is_one, count, takers, IsAssigned, IsScarce, stand_once, hall}
use Rattle.kcr_laws.proofs.{Rooms.not_itself, Trials.every, Trials.every_shorter, Trials.least_by_trial}

-- LEAST SHORTAGES

-- a test that not every member passes fails for one
fails_at : {X : Type 0} (test : X → Bool) (xs : List X) → list_all test xs ≡ false → (x : X) × (test x ≡ false)
fails_at test [] h = absurd (true≢false h)
fails_at test (x ∷ xs) h = elim (and_cases (test x) (list_all test xs) h) [ inl e ↦ (x, e) | inr e ↦ fails_at test xs e ]

-- so does one that not every list of members passes
every_fails : {X : Type 0} (test : List X → Bool) (xs : List X) (n : ℕ) → every test xs n ≡ false → (ys : List X) × (length ys ≡ n) × (test ys ≡ false)
every_fails test xs zero h = ([], refl, h)
every_fails test xs (suc n) h =
    let m = fails_at (λ x. every (λ rest. test (x ∷ rest)) xs n) xs h in
    let w = every_fails (λ rest. test (m.0 ∷ rest)) xs n m.1 in
    (m.0 ∷ w.0, ap suc w.1, w.2)

shorter_fails : {X : Type 0} (test : List X → Bool) (xs : List X) (n : ℕ) → every_shorter test xs n ≡ false
    → (ys : List X) × (length ys < n) × (test ys ≡ false)
shorter_fails test xs zero h = absurd (true≢false h)
shorter_fails test xs (suc n) h = elim (and_cases (every test xs n) (every_shorter test xs n) h) [
  | inl e ↦ let w = every_fails test xs n e in (w.0, omega (arith, w.1), w.2)
  | inr e ↦ let w = shorter_fails test xs n e in (w.0, omega (arith, w.1), w.2)
]

trial : (A : History) (c t : ℕ) (seats : List Seat) (positions : List ℕ) → is_short A c t seats positions ≡ true
    → ((part : List ℕ) → length part < length positions → is_short A c t seats part ≡ true → (least : List ℕ) × IsLeast A c t seats least)
    → (least : List ℕ) × IsLeast A c t seats least
trial A c t seats positions h ih =
    let other = λ (part : List ℕ). not (is_short A c t seats part) in
    elim (cases_Bool (every_shorter other positions (length positions))) [
      | inl e ↦ (positions, least_by_trial A c t seats positions (and_from (is_short A c t seats positions) _ h e))
      | inr e ↦ let w = shorter_fails other positions (length positions) e in ih w.0 w.1 (not-false (is_short A c t seats w.0) w.2)
    ]

-- if some positions are short, some are a least shortage
least_of_short : (fuel : ℕ) (A : History) (c t : ℕ) (seats : List Seat) (positions : List ℕ) → length positions ≤ fuel → is_short A c t seats positions ≡ true
    → (least : List ℕ) × IsLeast A c t seats least
least_of_short zero A c t seats positions l h = trial A c t seats positions h (λ part m g. absurd (omega (arith, l, m)))
least_of_short (suc fuel) A c t seats positions l h = trial A c t seats positions h (λ part m g. least_of_short fuel A c t seats part (omega (arith, l, m)) g)

-- POSITIONS

-- N numbers from the first one on
abbrev from : ℕ → ℕ → List ℕ
from low zero = []
from low (suc n) = low ∷ from (suc low) n

in_from : (n low i : ℕ) → low ≤ i → i < low + n → is_one i (from low n) ≡ true
in_from zero low i l m = absurd (omega (arith, l, m))
in_from (suc n) low i l m = grind (arith, nat_tests, in_from n (suc low) i)

rise_from : (s : ℕ → Bool) (n low first high : ℕ) → first ≤ low → low + n ≤ high → rise first high (filter s (from low n)) ≡ true
rise_from s zero low first high l m = refl
rise_from s (suc n) low first high l m = grind (arith, nat_tests, rise_from s n (suc low) (suc low) high, rise_from s n (suc low) first high)

count_filter : (is : List ℕ) (s : ℕ → Bool) → count is s ≡ length (filter s is)
count_filter [] s = refl
count_filter (i ∷ is) s = grind (arith, count_filter is s)

-- those who fit a seat of a set are those who fit one of a list
abbrev fit_one : (ℕ → List ℕ → Bool) → List ℕ → List ℕ → Bool
fit_one fits is who = list_any (λ i. fits i who) is

takers_filter : (all : List ℕ) (fits : ℕ → List ℕ → Bool) (s : ℕ → Bool) (people : List (List ℕ))
    → takers all fits s people ≡ length (filter (fit_one fits (filter s all)) people)
takers_filter all fits s [] = refl
takers_filter all fits s (who ∷ people) = grind (arith, any-filter s (λ i. fits i who) all, takers_filter all fits s people)

-- SEATINGS

-- the people of the first n numbers
abbrev list_by : ℕ → (ℕ → List ℕ) → List (List ℕ)
list_by zero w = []
list_by (suc n) w = w 0 ∷ list_by n (λ i. w (suc i))

not_among : (x : List ℕ) (n : ℕ) (w : ℕ → List ℕ) → ((i : ℕ) → i < n → x ≡ w i → ⊥) → list_any (same_text x) (list_by n w) ≡ false
not_among x zero w f = refl
not_among x (suc n) w f = grind (arith, same-is x (w 0), f 0, not_among x n (λ i. w (suc i)) (λ i l. f (suc i) (omega (arith, l))))

seated_by : (A : History) (c t : ℕ) (seats : List Seat) (w : ℕ → List ℕ) → ((i : ℕ) → i < length seats → is_eligible_at A c t seats (w i) i ≡ true)
    → ((i j : ℕ) → i < length seats → j < length seats → w i ≡ w j → i ≡ j) → is_seating A c t seats (list_by (length seats) w) ≡ true
seated_by A c t [] w fit apart = refl
seated_by A c t (seat ∷ seats) w fit apart =
    grind (arith, fit 0 (omega arith), alone, seated_by A c t seats (λ i. w (suc i)) (λ i l. fit (suc i) (omega (arith, l))) others)
  where
    alone : list_any (same_text (w 0)) (list_by (length seats) (λ i. w (suc i))) ≡ false
    alone = not_among (w 0) (length seats) (λ i. w (suc i)) (λ i l e. omega (arith, apart 0 (suc i) (omega arith) (omega (arith, l)) e))

    others : (i j : ℕ) → i < length seats → j < length seats → w (suc i) ≡ w (suc j) → i ≡ j
    others i j l m e = omega (arith, apart (suc i) (suc j) (omega (arith, l)) (omega (arith, m)) e)

-- ONE OF THE TWO

rising_once : (people : List (List ℕ)) → are_rising people ≡ true → stand_once people ≡ true
rising_once [] r = refl
rising_once (who ∷ people) r = grind (arith, not_itself who people, rising_once people)

module _ (A : History) (c t : ℕ) (seats : List Seat) where
  abbrev positions_of : List ℕ
  positions_of = from 0 (length seats)

  abbrev fits_at : ℕ → List ℕ → Bool
  fits_at i who = is_eligible_at A c t seats who i

  in_all : (i : ℕ) → i < length seats → is_one i positions_of ≡ true
  in_all i l = in_from (length seats) 0 i (omega arith) (omega (arith, l))

  seated_so : (w : ℕ → List ℕ) → IsAssigned positions_of fits_at (present A c t) (λ i. true) w → is_seating A c t seats (list_by (length seats) w) ≡ true
  seated_so w a = seated_by A c t seats w (λ i l. a.fit i (in_all i l) refl) (λ i j l m e. a.apart i j (in_all i l) (in_all j m) refl refl e)

  short_so : (s : ℕ → Bool) → IsScarce positions_of fits_at (present A c t) (λ i. true) s → is_short A c t seats (filter s positions_of) ≡ true
  short_so s d =
      let rises = rise_from s (length seats) 0 0 (length seats) (omega arith) (omega arith) in
      grind (arith, nat_tests, rises, d.few, takers_filter positions_of fits_at s (present A c t), count_filter positions_of s)

  -- the seats can be filled, or some of them are a least shortage
  pub seating_or_least : ((people : List (List ℕ)) × (is_seating A c t seats people ≡ true)) ⊎ ((least : List ℕ) × IsLeast A c t seats least)
  seating_or_least = elim (hall positions_of fits_at (present A c t) (rising_once (present A c t) (present_are_rising (sheet A) c t)) (λ i. true)) [
    | inl (w, a) ↦ inl (list_by (length seats) w, seated_so w a)
    | inr (s, d) ↦ inr (least_of_short (length (filter s positions_of)) A c t seats (filter s positions_of) (omega arith) (short_so s d))
  ]

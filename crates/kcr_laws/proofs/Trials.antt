-- A test that all lists of some length pass, tried list by list; what a seating is made of; and a shortage that is confirmed
-- as a least one by trying its parts.
use Rattle.kcr_laws.proofs.Common.{◌≡◌, ℕ, zero, suc, ◌<◌, Bool, true, false, not, ◌&&◌, ◌==◌, List, [], ◌∷◌, length, inl, inr, refl, sym, ap, arith}
use Rattle.kcr_laws.proofs.Common.{IsTrue, list_any, list_all, false≢true, not-true, eqb-true, cases_lt, nat_tests, same_text, present_are_in, Seat}
use Rattle.kcr_laws.proofs.Common.{History, sheet, present, is_seating, is_short, is_proper_part, IsLeast}
use Rattle.std.specs.Cmp.Lexicographic.{pointwise, bytes_decides}
use Rattle.std.proofs.lemmas.Slice.Eq.{slice_eq-Decides}

-- EVERY LIST

-- every list of n members of xs passes the test
abbrev pub every : {X : Type 0} → (List X → Bool) → List X → ℕ → Bool
every test xs zero = test []
every test xs (suc n) = list_all (λ x. every (λ rest. test (x ∷ rest)) xs n) xs

-- every list of fewer than n members
abbrev pub every_shorter : {X : Type 0} → (List X → Bool) → List X → ℕ → Bool
every_shorter test xs zero = true
every_shorter test xs (suc n) = every test xs n && every_shorter test xs n

-- a test that every member passes, one of them passes
pub one_of : {X : Type 0} (same : X → X → Bool) → ((a b : X) → same a b ≡ true → a ≡ b) → (y : X) (good : X → Bool) (xs : List X) → list_any (same y) xs ≡ true
    → list_all good xs ≡ true → good y ≡ true
one_of same sound y good [] a g = cc
one_of same sound y good (x ∷ xs) a g = grind (arith, sound y x, one_of same sound y good xs)

-- so does a list of that many members
pub every_holds : {X : Type 0} (same : X → X → Bool) → ((a b : X) → same a b ≡ true → a ≡ b) → (xs ys : List X) (n : ℕ) → length ys ≡ n
    → list_all (λ y. list_any (same y) xs) ys ≡ true
    → (test : List X → Bool) → every test xs n ≡ true → test ys ≡ true
every_holds same sound xs [] zero e i test h = h
every_holds same sound xs [] (suc n) e i test h = absurd (omega arith)
every_holds same sound xs (y ∷ ys) zero e i test h = absurd (omega arith)
every_holds same sound xs (y ∷ ys) (suc n) e i test h =
    every_holds same sound xs ys n (omega arith) (grind arith) (λ rest. test (y ∷ rest))
    (one_of same sound y (λ x. every (λ rest. test (x ∷ rest)) xs n) xs (grind arith) h)

shorter_holds : {X : Type 0} (same : X → X → Bool) → ((a b : X) → same a b ≡ true → a ≡ b) → (xs ys : List X) (n : ℕ) → length ys < n
    → list_all (λ y. list_any (same y) xs) ys ≡ true
    → (test : List X → Bool) → every_shorter test xs n ≡ true → test ys ≡ true
shorter_holds same sound xs ys zero l i test h = absurd (omega arith)
shorter_holds same sound xs ys (suc n) l i test h =
    elim (cases_lt (length ys) n) [
      | inl less ↦ shorter_holds same sound xs ys n less i test (grind arith)
      | inr more ↦ every_holds same sound xs ys n (omega (arith, l, more)) i test (grind arith)
    ]

-- SEATINGS

abbrev pub same_people : List (List ℕ) → List (List ℕ) → Bool
same_people a b = pointwise same_text a b

-- lists of people that are found the same are equal
pub people-are : (a b : List (List ℕ)) → same_people a b ≡ true → a ≡ b
people-are a b h = (slice_eq-Decides bytes_decides a b (same_people a b) refl).0 h

-- the others of a seating are one of the other seats
pub rest_seated : (A : History) (c t : ℕ) (seat : Seat) (seats : List Seat) (who : List ℕ) (others : List (List ℕ))
    → is_seating A c t (seat ∷ seats) (who ∷ others) ≡ true
    → is_seating A c t seats others ≡ true
rest_seated A c t seat seats who others h = grind arith

-- whoever sits is present
pub seated_inside : (A : History) (c t : ℕ) (seats : List Seat) (others : List (List ℕ)) → is_seating A c t seats others ≡ true
    → (length others ≡ length seats) × (list_all (λ who. list_any (same_text who) (present A c t)) others ≡ true)
seated_inside A c t [] [] h = (refl, refl)
seated_inside A c t [] (who ∷ others) h = absurd (false≢true h)
seated_inside A c t (seat ∷ seats) [] h = absurd (false≢true h)
seated_inside A c t (seat ∷ seats) (who ∷ others) h =
    let more = seated_inside A c t seats others (rest_seated A c t seat seats who others h) in
    (ap suc more.0, grind (arith, present_are_in (sheet A) who c t, more.1))

-- LEAST SHORTAGES

-- short, and no shorter list of these positions is
abbrev pub is_least_by_trial : History → ℕ → ℕ → List Seat → List ℕ → Bool
is_least_by_trial A c t seats positions = is_short A c t seats positions && every_shorter (λ part. not (is_short A c t seats part)) positions (length positions)

-- a shortage is a least one if no shorter list of its positions is a shortage
pub least_by_trial : (A : History) (c t : ℕ) (seats : List Seat) (positions : List ℕ) → is_least_by_trial A c t seats positions ≡ true
    → IsLeast A c t seats positions
least_by_trial A c t seats positions h = record { short = grind arith; least = least }
  where
    least : (part : List ℕ) → IsTrue (is_proper_part part positions) → is_short A c t seats part ≡ false
    least part p =
        let other = λ (one : List ℕ). not (is_short A c t seats one) in
        not-true (is_short A c t seats part) (shorter_holds (λ a b. b == a) (λ a b e. sym (eqb-true b a e)) positions part (length positions)
        (grind (arith, nat_tests)) (grind arith) other (grind arith))

-- Where there is a seating nothing is short: of the two halves of the machine's answer at most one is possible.
use Rattle.kcr_laws.proofs.Common.{◌≡◌, ℕ, zero, suc, ◌<◌, ◌≤◌, Bool, true, false, not, ◌&&◌, ◌==◌, nat_le, nat_lt, List, [], ◌∷◌, filter, length}
use Rattle.kcr_laws.proofs.Common.{get_or, arith, list_any, false≢true, both_ways, and_parts, or_right, ltb-true, false_from_ne_true, nat_tests}
use Rattle.kcr_laws.proofs.Common.{same_text, same-is, present_are_in, Seat, History, sheet, present, is_seating, is_eligible_at, who_fit, rise}
use Rattle.kcr_laws.proofs.{Common.is_short, Hall.is_one, Hall.some_from, Trials.seated_inside, Trials.rest_seated}
use Rattle.std.proofs.lemmas.List.Folds.{list_any_at}

-- AS MANY PEOPLE AS POSITIONS

-- the others of a list
abbrev others : List ℕ → List (List ℕ) → List (List ℕ)
others x ys = filter (λ y. not (same_text x y)) ys

no_more : (x : List ℕ) (ys : List (List ℕ)) → length (others x ys) ≤ length ys
no_more x [] = omega arith
no_more x (y ∷ ys) = grind (arith, no_more x ys)

fewer : (x : List ℕ) (ys : List (List ℕ)) → list_any (same_text x) ys ≡ true → length (others x ys) < length ys
fewer x [] h = cc
fewer x (y ∷ ys) h = grind (arith, no_more x ys, fewer x ys)

still_there : (x w : List ℕ) (ys : List (List ℕ)) → same_text x w ≡ false → list_any (same_text w) ys ≡ true → list_any (same_text w) (others x ys) ≡ true
still_there x w [] d h = h
still_there x w (y ∷ ys) d h = grind (arith, same-is w y, still_there x w ys d)

-- positions that rise lie between the bounds
below : (low high : ℕ) (ps : List ℕ) → rise low high ps ≡ true → (p : ℕ) → is_one p ps ≡ true → (low ≤ p) × (p < high)
below low high [] r p h = absurd (false≢true h)
below low high (q ∷ ps) r p h = grind (arith, nat_tests, below (suc q) high ps)

-- if different positions have different people, all of a list, that list is at least as long as the positions
as_many : (f : ℕ → List ℕ) (low high : ℕ) (ps : List ℕ) (ys : List (List ℕ)) → rise low high ps ≡ true
    → ((p q : ℕ) → p < q → q < high → same_text (f p) (f q) ≡ false)
    → ((p : ℕ) → is_one p ps ≡ true → list_any (same_text (f p)) ys ≡ true) → length ps ≤ length ys
as_many f low high [] ys r apart there = omega arith
as_many f low high (p ∷ ps) ys r apart there =
    let k = and_parts (nat_le low p && nat_lt p high) (rise (suc p) high ps) r in
    let here : list_any (same_text (f p)) ys ≡ true = there p (grind (arith, nat_tests)) in
    let bounds = λ (q : ℕ) (o : is_one q ps ≡ true). below (suc p) high ps k.1 q o in
    let rest = λ (q : ℕ) (o : is_one q ps ≡ true). still_there (f p) (f q) ys (apart p q (bounds q o).0 (bounds q o).1) (there q (or_right (p == q) _ o)) in
    omega (arith, fewer (f p) ys here, as_many f (suc p) high ps (others (f p) ys) k.1 apart rest)

in_filter : (test : List ℕ → Bool) (w : List ℕ) (ys : List (List ℕ)) → list_any (same_text w) ys ≡ true → test w ≡ true
    → list_any (same_text w) (filter test ys) ≡ true
in_filter test w [] h k = h
in_filter test w (y ∷ ys) h k = grind (arith, same-is w y, in_filter test w ys)

-- WHO SITS WHERE

-- who sits at a position
abbrev sitter : List (List ℕ) → ℕ → List ℕ
sitter people p = get_or people p []

module _ (A : History) (c t : ℕ) where
  -- nobody sits twice
  apart : (seats : List Seat) (people : List (List ℕ)) → is_seating A c t seats people ≡ true → (p q : ℕ) → p < q → q < length seats
      → same_text (sitter people p) (sitter people q) ≡ false
  apart [] people h p q l m = absurd (omega (arith, m))
  apart (seat ∷ seats) [] h p q l m = absurd (false≢true h)
  apart (seat ∷ seats) (who ∷ people) h p zero l m = absurd (omega (arith, l))
  apart (seat ∷ seats) (who ∷ people) h zero (suc q) l m =
      let count = (seated_inside A c t seats people (rest_seated A c t seat seats who people h)).0 in
      false_from_ne_true _ (λ e. both_ways (list_any (same_text who) people) (grind arith)
      (list_any_at (same_text who) people q [] (omega (arith, m, count)) e))
  apart (seat ∷ seats) (who ∷ people) h (suc p) (suc q) l m =
      apart seats people (rest_seated A c t seat seats who people h) p q (omega (arith, l)) (omega (arith, m))

  -- whoever sits is present, and eligible for the seat
  sits : (seats : List Seat) (people : List (List ℕ)) → is_seating A c t seats people ≡ true → (p : ℕ) → p < length seats
      → (list_any (same_text (sitter people p)) (present A c t) ≡ true) × (is_eligible_at A c t seats (sitter people p) p ≡ true)
  sits [] people h p l = absurd (omega (arith, l))
  sits (seat ∷ seats) [] h p l = absurd (false≢true h)
  sits (seat ∷ seats) (who ∷ people) h zero l = grind (arith, present_are_in (sheet A) who c t)
  sits (seat ∷ seats) (who ∷ people) h (suc p) l =
      sits seats people (rest_seated A c t seat seats who people h) p (omega (arith, l))

  -- if people are seated, no positions are short
  pub one_half : (seats : List Seat) (people : List (List ℕ)) (positions : List ℕ) → is_seating A c t seats people ≡ true
      → is_short A c t seats positions ≡ true → ⊥
  one_half seats people positions h s =
      let low : rise 0 (length seats) positions ≡ true = grind arith in
      let few : nat_lt (length (who_fit A c t seats positions)) (length positions) ≡ true = grind arith in
      let there = λ (p : ℕ) (o : is_one p positions ≡ true).
      let w = sits seats people h p (below 0 (length seats) positions low p o).1 in
      let fit = some_from (is_eligible_at A c t seats (sitter people p)) positions p o w.1 in
      in_filter (λ who. list_any (is_eligible_at A c t seats who) positions) (sitter people p) (present A c t) w.0 fit in
      let enough = as_many (sitter people) 0 (length seats) positions (who_fit A c t seats positions) low (apart seats people h) there in
      omega (arith, ltb-true _ _ few, enough)

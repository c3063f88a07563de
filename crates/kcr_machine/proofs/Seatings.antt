-- The search's answers by numbers, over those present, are the machine's: a first seating of people, and a least shortage of seats.
use Rattle.kcr_machine.proofs.Common.{◌≡◌, ◌≢◌, ℕ, zero, suc, ◌+◌, ◌<◌, ◌≤◌, Bool, true, false, cond, nat_lt, List, [], ◌∷◌, map, filter, length}
use Rattle.kcr_machine.proofs.Common.{get_or, refl, sym, ap, ◌∙◌, arith, ◌==◌, slice_get, slice_index, if◌then◌else◌, EachIndex, list_any, list_all}
use Rattle.kcr_machine.proofs.Common.{false≢true, both_ways, ltb-true, and_parts, and_from, eqb-true, eq-eqb, lt-ltb, false_from_ne_true}
use Rattle.kcr_machine.proofs.Common.{true_from_ne_false, length-map, get_or-map, same_text, is_before, before-turned, Seat, on_seat, fits_of}
use Rattle.kcr_machine.proofs.Common.{IsStrictlyIncreasing, day_of, same-is, same-itself, any-same, are_rising, present_are_in, History, facility_of}
use Rattle.kcr_machine.proofs.Common.{sheet, present, fits, eligible, is_seating, comes_first, IsFirst, is_eligible_at, who_fit, rise, is_short}
use Rattle.kcr_machine.proofs.Common.{IsLeast, filter_agree}
use Rattle.std.proofs.lemmas.List.Folds.{list_any_at, list_all_at}
use Rattle.kcr_seats.specs.Seating as Search
use Rattle.kcr_seats.specs.Seating.{count_below, can_take}
use Rattle.kcr_room.proofs.Rising.{present_are_rising}
use Rattle.kcr_laws.proofs.Hall.{is_one}
use Rattle.kcr_seats.proofs.{Counting.length_under, Counting.count_all, Least.rising_apart}

-- SEATINGS OF PEOPLE, POSITION BY POSITION

-- the people, as many as there are seats and all distinct, are each eligible for the seat in their position
pub record IsSeatingOf (E : Seat → List ℕ → Bool) (seats : List Seat) (people : List (List ℕ)) : Type 0 where
  pub each_seat : length people ≡ length seats
  pub fitting : (k : ℕ) → k < length seats → on_seat E (slice_get seats k) (get_or people k []) ≡ true
  pub distinct : (j k : ℕ) → j < length seats → k < length seats → get_or people j [] ≡ get_or people k [] → j ≡ k

-- a seating, and in every other seating the first position that differs has initials later in byte order
pub record IsFirstOf (E : Seat → List ℕ → Bool) (seats : List Seat) (people : List (List ℕ)) : Type 0 where
  pub seating : IsSeatingOf E seats people
  pub first : (others : List (List ℕ)) (k : ℕ) → IsSeatingOf E seats others → k < length seats
      → ((j : ℕ) → j < k → get_or others j [] ≡ get_or people j []) → get_or others k [] ≢ get_or people k []
      → is_before (get_or people k []) (get_or others k []) ≡ true

-- the person is eligible for at least one of the positions
abbrev pub can_take_one : (Seat → List ℕ → Bool) → List Seat → List ℕ → List ℕ → Bool
can_take_one E seats S who = list_any (λ s. on_seat E (slice_get seats s) who) S

before_itself : (a : List ℕ) → is_before a a ≡ false
before_itself a = grind (arith, before-turned a a)

-- where a value of the list stands
abbrev position_in : {X : Type 0} → (X → X → Bool) → List X → X → ℕ
position_in same [] x = 0
position_in same (y ∷ ys) x = if same x y then 0 else suc (position_in same ys x)

position : {X : Type 0} (same : X → X → Bool) → ((a b : X) → same a b ≡ true → a ≡ b) → (d : X) (xs : List X) (x : X) → list_any (same x) xs ≡ true
    → (position_in same xs x < length xs) × (get_or xs (position_in same xs x) d ≡ x)
position same is d [] x h = absurd (false≢true h)
position same is d (y ∷ ys) x h = grind (arith, is x y, position same is d ys x)

-- COUNTING

count-shift : (test : ℕ → Bool) (n : ℕ) → count_below test (suc n) ≡ cond (test 0) 1 0 + count_below (λ i. test (suc i)) n
unfolding count_below
count-shift test zero = omega arith
count-shift test (suc n) = omega (arith, count-shift test n)

count-people : (test : List ℕ → Bool) (P : List (List ℕ)) → count_below (λ p. test (get_or P p [])) (length P) ≡ length (filter test P)
unfolding count_below
count-people test [] = refl
count-people test (x ∷ P) = grind (arith, count-shift (λ p. test (get_or (x ∷ P) p [])) (length P), count-people test P)

count-agree : (f g : ℕ → Bool) (n : ℕ) → ((i : ℕ) → i < n → f i ≡ g i) → count_below f n ≡ count_below g n
unfolding count_below
count-agree f g zero e = refl
count-agree f g (suc n) e = grind (arith, count-agree f g n (λ i l. e i (omega (arith, l))))

-- E says who is eligible, F who fits by the rows; P are the people present
module _ (E F : Seat → List ℕ → Bool) (L : List Seat) (P : List (List ℕ))
    (rising : (i j : ℕ) → i < j → j < length P → is_before (get_or P i []) (get_or P j []) ≡ true)
    (agree : (k : ℕ) (who : List ℕ) → list_any (same_text who) P ≡ true → on_seat F (slice_get L k) who ≡ on_seat E (slice_get L k) who)
    (inside : (k : ℕ) (who : List ℕ) → on_seat E (slice_get L k) who ≡ true → list_any (same_text who) P ≡ true) where
  apart : (i j : ℕ) → i < length P → j < length P → get_or P i [] ≡ get_or P j [] → i ≡ j
  apart i j a b e = grind (arith, rising i j, rising j i, before_itself (get_or P i []))

  here : (p : ℕ) → p < length P → list_any (same_text (get_or P p [])) P ≡ true
  here p l = list_any_at (same_text (get_or P p [])) P p [] l (same-itself (get_or P p []))

  fits-same : (k p : ℕ) → p < length P → fits_of F L P k p ≡ on_seat E (slice_get L k) (get_or P p [])
  fits-same k p l = agree k (get_or P p []) (here p l)

  abbrev named : List ℕ → List (List ℕ)
  named w = map (λ p. get_or P p []) w

  name-at : (w : List ℕ) (k : ℕ) → k < length w → get_or (named w) k [] ≡ get_or P (slice_index w k) []
  name-at w k l = get_or-map (λ p. get_or P p []) w k 0 [] l

  -- a seating of numbers is one of people
  pub seating-lift : (w : List ℕ) → Search.IsSeating (fits_of F L P) (length L) (length P) w → IsSeatingOf E L (named w)
  seating-lift w s =
      let named_at = λ (k : ℕ) (l : k < length L). name-at w k (omega (arith, l, s.each_seat)) in record {
        each_seat = length-map w (λ p. get_or P p []) ∙ s.each_seat;
        fitting = λ k l. ap (on_seat E (slice_get L k)) (named_at k l) ∙ sym (fits-same k (slice_index w k) (s.in_range k l)) ∙ s.fitting k l;
        distinct = λ j k a b e. s.distinct j k a b (apart _ _ (s.in_range j a) (s.in_range k b) (sym (named_at j a) ∙ e ∙ named_at k b));
      }

  abbrev numbered_as : List (List ℕ) → List ℕ
  numbered_as W = map (position_in same_text P) W

  -- the people of a seating are present, so they have numbers
  placed : (W : List (List ℕ)) → IsSeatingOf E L W → (k : ℕ) → k < length L
      → (slice_index (numbered_as W) k < length P) × (get_or P (slice_index (numbered_as W) k) [] ≡ get_or W k [])
  placed W s k l =
      let q = position same_text same-is [] P (get_or W k []) (inside k (get_or W k []) (s.fitting k l)) in
      rw (get_or-map (position_in same_text P) W k [] 0 (omega (arith, l, s.each_seat))) q

  seating-back : (W : List (List ℕ)) → IsSeatingOf E L W → Search.IsSeating (fits_of F L P) (length L) (length P) (numbered_as W)
  seating-back W s = record {
    each_seat = length-map W (position_in same_text P) ∙ s.each_seat;
    in_range = λ k l. (placed W s k l).0;
    fitting = λ k l.
        let q = placed W s k l in
        fits-same k (slice_index (numbered_as W) k) q.0 ∙ ap (on_seat E (slice_get L k)) q.1 ∙ s.fitting k l;
    distinct = λ j k a b e. s.distinct j k a b (sym (placed W s j a).1 ∙ ap (λ p. get_or P p []) e ∙ (placed W s k b).1);
  }

  -- the first seating of numbers is the first one of people
  pub first-lift : (w : List ℕ) → Search.IsFirst (fits_of F L P) (length L) (length P) w → IsFirstOf E L (named w)
  first-lift w f = record {
    seating = seating-lift w f.seating;
    first = λ others k s l same differ.
        let at : (j : ℕ) → j < length L → get_or (named w) j [] ≡ get_or P (slice_index w j) [] = λ j m. name-at w j (omega (arith, m, f.seating.each_seat)) in
        let q = placed others s k l in
        let alike : (j : ℕ) → j < k → slice_index (numbered_as others) j ≡ slice_index w j
        = λ j m.
        let r = placed others s j (omega (arith, m, l)) in
        apart _ _ r.0 (f.seating.in_range j (omega (arith, m, l))) (r.1 ∙ same j m ∙ at j (omega (arith, m, l))) in
        let low : slice_index w k ≤ slice_index (numbered_as others) k = f.first (numbered_as others) k (seating-back others s) l alike in
        let other : slice_index w k ≢ slice_index (numbered_as others) k = λ e. differ (sym q.1 ∙ ap (λ p. get_or P p []) (sym e) ∙ sym (at k l)) in
        let up : slice_index w k < slice_index (numbered_as others) k = omega (arith, low, other) in
        rw (at k l, sym q.1) (rising (slice_index w k) (slice_index (numbered_as others) k) up q.0);
  }

  -- SHORT

  -- as many of them can take one of the seats as the search counts
  pub takers : (S : List ℕ) → count_below (can_take (fits_of F L P) S) (length P) ≡ length (filter (can_take_one E L S) P)
  takers S =
      count-agree (can_take (fits_of F L P) S) (λ p. can_take_one E L S (get_or P p [])) (length P)
      (λ p l. any-same (λ k. fits_of F L P k p) (λ k. on_seat E (slice_get L k) (get_or P p [])) S (λ k. fits-same k p l))
      ∙ count-people (can_take_one E L S) P

-- SEATINGS, POSITION BY POSITION AND ONE AFTER THE OTHER

not_there : (who : List ℕ) (people : List (List ℕ)) → ((j : ℕ) → j < length people → get_or people j [] ≡ who → ⊥) → list_any (same_text who) people ≡ false
not_there who [] f = refl
not_there who (p ∷ people) f = grind (arith, same-is who p, f 0, not_there who people (λ j l. f (suc j) (omega (arith, l))))

seating-is : (A : History) (c t : ℕ) (L : List Seat) (people : List (List ℕ)) → IsSeatingOf (eligible A c t) L people → is_seating A c t L people ≡ true
seating-is A c t [] [] s = refl
seating-is A c t [] (who ∷ people) s = absurd (omega (arith, s.each_seat))
seating-is A c t (seat ∷ L) [] s = absurd (omega (arith, s.each_seat))
seating-is A c t (seat ∷ L) (who ∷ people) s =
    let count : length people ≡ length L = omega (arith, s.each_seat) in
    let rest : IsSeatingOf (eligible A c t) L people = record {
      each_seat = count;
      fitting = λ k l. s.fitting (suc k) (omega (arith, l));
      distinct = λ j k a b e. grind (arith, s.distinct (suc j) (suc k));
    } in
    let alone = not_there who people (λ j l e. grind (arith, s.distinct (suc j) 0, count)) in
    grind (arith, s.fitting 0 (omega arith), seating-is A c t L people rest)

one_more_seat : (E : Seat → List ℕ → Bool) (seat : Seat) (who : List ℕ) (L : List Seat) (people : List (List ℕ)) → E seat who ≡ true
    → list_any (same_text who) people ≡ false → IsSeatingOf E L people
    → IsSeatingOf E (seat ∷ L) (who ∷ people)
one_more_seat E seat who L people e free s = grind (arith, both_ways, list_any_at, same-itself)

seating-of : (A : History) (c t : ℕ) (L : List Seat) (people : List (List ℕ)) → is_seating A c t L people ≡ true → IsSeatingOf (eligible A c t) L people
seating-of A c t [] [] h = record { each_seat = refl; fitting = λ k l. absurd (omega (arith, l)); distinct = λ j k l. absurd (omega (arith, l)) }
seating-of A c t [] (who ∷ people) h = absurd (false≢true h)
seating-of A c t (seat ∷ L) [] h = absurd (false≢true h)
seating-of A c t (seat ∷ L) (who ∷ people) h =
    one_more_seat (eligible A c t) seat who L people (grind arith) (grind arith) (seating-of A c t L people (grind arith))

-- the first position that differs has a person later in byte order
abbrev LaterAt : List (List ℕ) → List (List ℕ) → Type 0
LaterAt people others =
    (k : ℕ) → k < length people → ((j : ℕ) → j < k → get_or others j [] ≡ get_or people j []) → get_or others k [] ≢ get_or people k []
    → is_before (get_or people k []) (get_or others k []) ≡ true

-- so the first list comes first
comes-first : (people others : List (List ℕ)) → length people ≡ length others → others ≢ people → LaterAt people others → comes_first people others ≡ true
comes-first [] [] n ne f = absurd (ne refl)
comes-first (a ∷ people) (b ∷ others) n ne f = by_test (same_text a b) refl (comes-first people others (omega (arith, n)))
  where
    later : (same : a ≡ b) → (k : ℕ) → ((j : ℕ) → j < k → get_or others j [] ≡ get_or people j []) → (j : ℕ) → j < suc k
        → get_or (b ∷ others) j [] ≡ get_or (a ∷ people) j []
    later same k e zero l = sym same
    later same k e (suc j) l = e j (omega (arith, l))

    by_test : (x : Bool) → same_text a b ≡ x → (others ≢ people → LaterAt people others → comes_first people others ≡ true)
        → cond x (comes_first people others) (is_before a b) ≡ true
    by_test true e ih =
        let same : a ≡ b = same-is a b e in
        ih (λ q. ne (rw (same, q) refl)) (λ k l g d. f (suc k) (omega (arith, l)) (later same k g) d)
    by_test false e ih = f 0 (omega arith) (λ j l. absurd (omega (arith, l))) (λ q. absurd (both_ways _ e (ap (same_text a) q ∙ same-itself a)))
comes-first people others n ne f = absurd (grind arith)

first-is : (A : History) (c t : ℕ) (L : List Seat) (people : List (List ℕ)) → IsFirstOf (eligible A c t) L people → IsFirst A c t L people
first-is A c t L people f = grind (arith, seating-is, seating-of, comes-first)

-- SHORTAGES

-- whether a person is eligible for the seat in a position
at-seat : (A : History) (c t : ℕ) (L : List Seat) (who : List ℕ) (p : ℕ) → is_eligible_at A c t L who p ≡ on_seat (eligible A c t) (slice_get L p) who
at-seat A c t [] who p = refl
at-seat A c t (seat ∷ L) who zero = refl
at-seat A c t (seat ∷ L) who (suc p) = at-seat A c t L who p

takers-fit : (A : History) (c t : ℕ) (L : List Seat) (S : List ℕ) → who_fit A c t L S ≡ filter (can_take_one (eligible A c t) L S) (present A c t)
takers-fit A c t L S = grind (arith, filter_agree, any-same, at-seat)

-- rising numbers in a range, position by position and one after the other
tail-rises : (p : ℕ) (S : List ℕ) → IsStrictlyIncreasing (p ∷ S) → IsStrictlyIncreasing S
tail-rises p S h = λ k l. grind (arith, h (suc k))

rise-is : (low high : ℕ) (S : List ℕ) → IsStrictlyIncreasing S → EachIndex S (λ i. slice_index S i < high) → (0 < length S → low ≤ slice_index S 0)
    → rise low high S ≡ true
rise-is low high [] inc range first = refl
rise-is low high (p ∷ S) inc range first =
    let above : low ≤ p = first (omega arith) in
    let below : p < high = range 0 (omega arith) in
    grind (arith, rise-is (suc p) high S (tail-rises p S inc) (λ i l. range (suc i) (omega (arith, l))) (λ l. inc 0 (omega (arith, l))))

range-of : (low high : ℕ) (S : List ℕ) → rise low high S ≡ true → (i : ℕ) → i < length S → slice_index S i < high
range-of low high [] r i l = grind arith
range-of low high (p ∷ S) r i l = grind (arith, range-of (suc p) high S)

rises-of : (low high : ℕ) (S : List ℕ) → rise low high S ≡ true → (k : ℕ) → k + 1 < length S → slice_index S k < slice_index S (k + 1)
rises-of low high [] r k l = grind arith
rises-of low high (p ∷ []) r k l = grind arith
rises-of low high (p ∷ q ∷ S) r k l = grind (arith, rises-of (suc p) high (q ∷ S))

-- PARTS

part-of : (part whole : List ℕ) → list_all (λ p. is_one p whole) part ≡ true → Search.IsPart part whole
part-of [] whole h i l = absurd (omega (arith, l))
part-of (p ∷ part) whole h zero l =
    let q = position (λ p q. q == p) (λ p q e. sym (eqb-true q p e)) 0 whole p (grind arith) in
    (position_in (λ p q. q == p) whole p, q.0, q.1)
part-of (p ∷ part) whole h (suc i) l = part-of part whole (grind arith) i (omega (arith, l))

-- rising numbers that are all in a list are not more than it has
pigeon : (S T : List ℕ) → IsStrictlyIncreasing S → Search.IsPart S T → length S ≤ length T
pigeon S T rises part =
    let at = λ (i : ℕ) (l : i < length S). (let j = part i l in
    position (λ p q. q == p) (λ p q e. sym (eqb-true q p e)) 0 T (slice_index S i)
    (list_any_at (λ q. q == slice_index S i) T j.0 0 j.1 (eq-eqb (slice_index T j.0) (slice_index S i) j.2))) in
    let fit = length_under S (position_in (λ p q. q == p) T) (λ p. true) (length T) (λ i l. (at i l).0) (λ i l. refl)
    (λ i j l m e. rising_apart S rises i j l m (sym (at i l).1 ∙ ap (λ p. get_or T p 0) e ∙ (at j m).1)) in
    omega (arith, fit, count_all (length T))

-- OVER THOSE PRESENT

rising-at : (P : List (List ℕ)) → are_rising P ≡ true → (i j : ℕ) → i < j → j < length P → is_before (get_or P i []) (get_or P j []) ≡ true
rising-at [] h i j l m = grind arith
rising-at (x ∷ P) h i j l m = grind (arith, true_from_ne_false, list_all_at, rising-at P)

-- F says who fits by the rows, and of the seats at hand says what the history does
module _ (A : History) (c t : ℕ) (F : Seat → List ℕ → Bool) (L : List Seat)
    (fit : (k : ℕ) (who : List ℕ) → on_seat F (slice_get L k) who ≡ on_seat (fits A (facility_of A c) (day_of t)) (slice_get L k) who) where
  rising : (i j : ℕ) → i < j → j < length (present A c t) → is_before (get_or (present A c t) i []) (get_or (present A c t) j []) ≡ true
  rising = rising-at (present A c t) (present_are_rising (sheet A) c t)

  agree : (k : ℕ) (who : List ℕ) → list_any (same_text who) (present A c t) ≡ true
      → on_seat F (slice_get L k) who ≡ on_seat (eligible A c t) (slice_get L k) who
  agree k who e = grind (arith, present_are_in)

  inside : (k : ℕ) (who : List ℕ) → on_seat (eligible A c t) (slice_get L k) who ≡ true → list_any (same_text who) (present A c t) ≡ true
  inside k who e = grind (arith, false≢true, present_are_in)

  -- the first seating
  pub first-of : (w : List ℕ) → Search.IsFirst (fits_of F L (present A c t)) (length L) (length (present A c t)) w
      → IsFirst A c t L (map (λ p. get_or (present A c t) p []) w)
  first-of w f = first-is A c t L (map (λ p. get_or (present A c t) p []) w) (first-lift (eligible A c t) F L (present A c t) rising agree inside w f)

  counted : (S : List ℕ) → Search.count_below (Search.can_take (fits_of F L (present A c t)) S) (length (present A c t)) ≡ length (who_fit A c t L S)
  counted S = takers (eligible A c t) F L (present A c t) rising agree inside S ∙ ap length (sym (takers-fit A c t L S))

  short-is : (S : List ℕ) → Search.IsShort (fits_of F L (present A c t)) (length L) (length (present A c t)) S → is_short A c t L S ≡ true
  short-is S s = grind (arith, and_from, rise-is, lt-ltb, counted)

  short-of : (S : List ℕ) → is_short A c t L S ≡ true → Search.IsShort (fits_of F L (present A c t)) (length L) (length (present A c t)) S
  short-of S h = grind (arith, and_parts, rising, rises-of, range-of, counted, ltb-true)

  -- a least shortage
  pub least-of : (S : List ℕ) → Search.IsLeast (fits_of F L (present A c t)) (length L) (length (present A c t)) S → IsLeast A c t L S
  least-of S f =
      record {
        short = short-is S f.short;
        least = λ part proper. false_from_ne_true (is_short A c t L part) (λ e.
            let p = and_parts (list_all (λ p. is_one p S) part) (nat_lt (length part) (length S)) proper in
            let back = f.least part (short-of part e) (part-of part S p.0) in
            omega (arith, ltb-true (length part) (length S) p.1, pigeon S part f.short.rising back));
      }

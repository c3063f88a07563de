-- A law: of a sheet made in turn, a request that is not refused changes rows and stays alike (`same_stays`), and it is refused by both alike where nobody
-- was ever alone in the room, nor too many (`same_refusal`).
use Rattle.kcr_room.proofs.Common.{◌≡◌, ℕ, Bool, true, false, ◌||◌, ◌==◌, nat_lt, List, [], ◌∷◌, Option, Some, None, refl, sym, ap, ◌∙◌, subst, arith}
use Rattle.kcr_room.proofs.Common.{find, IsFirstMoment, IsEver, headcount_in_by, is_lone_in_by, is_crowd_in_by, stays_by, stays_from_moment}
use Rattle.kcr_room.proofs.Common.{occupancy_refusal, sheet_refusal, is_overfull, stay_count, is_out_of_turn_in, is_out_of_turn_by}
use Rattle.kcr_room.proofs.Common.{IsNeverLoneOrCrowded, SameRefusal, SameStays}
use Rattle.kcr_room.proofs.{Words.nat_tests, Words.Way, Words.Stay, Keeping.taken, Moments.first_lone-is_first, Moments.crowded-is_ever}
use Rattle.kcr_room.proofs.Sheets.{added, same-turns, rows-added, same-added}
use Rattle.kcr_room.proofs.Crowds.{crowd-before, crowd-later, overfull-added}

-- there is one first moment of a test
first-unique : (p q : ℕ → Bool) → ((t : ℕ) → p t ≡ q t) → (o r : Option ℕ) → IsFirstMoment p o → IsFirstMoment q r → o ≡ r
first-unique p q same None None f g = refl
first-unique p q same None (Some m) f g = grind (arith, same m, f m, g.0)
first-unique p q same (Some m) None f g = grind (arith, same m, f.0, g m)
first-unique p q same (Some m) (Some n) f g = grind (arith, nat_tests, same m, same n, f.0, g.0, f.1 n, g.1 m)

ever-unique : (p q : ℕ → Bool) → ((t : ℕ) → p t ≡ q t) → (a b : Bool) → IsEver p a → IsEver q b → a ≡ b
ever-unique p q same true true f g = refl
ever-unique p q same false false f g = refl
ever-unique p q same true false f g = grind (arith, same f.0, f.1, g f.0)
ever-unique p q same false true f g = grind (arith, same g.0, g.1, f g.0)

-- alone and too many at the same moments: refused alike
tested-same : (xs ys : List Stay) (c : ℕ) (full : Bool)
    → ((t : ℕ) → is_lone_in_by xs c t ≡ is_lone_in_by ys c t) → ((t : ℕ) → is_crowd_in_by xs c t ≡ is_crowd_in_by ys c t)
    → occupancy_refusal xs c full ≡ occupancy_refusal ys c full
tested-same xs ys c full lone crowd =
    let alone = first-unique (is_lone_in_by xs c) (is_lone_in_by ys c) lone _ _ (first_lone-is_first xs c) (first_lone-is_first ys c) in
    rw (alone, ever-unique (is_crowd_in_by xs c) (is_crowd_in_by ys c) crowd _ _ (crowded-is_ever xs c) (crowded-is_ever ys c))

-- so it is if as many people are there at each moment
pub refused-same : (xs ys : List Stay) (c : ℕ) (full : Bool) → ((t : ℕ) → headcount_in_by xs c t ≡ headcount_in_by ys c t)
    → occupancy_refusal xs c full ≡ occupancy_refusal ys c full
refused-same xs ys c full same = tested-same xs ys c full (λ t. ap (λ n. n == 1) (same t)) (λ t. ap (nat_lt 128) (same t))

-- a room that was allowed before is refused by the stays from the moment on for what it is refused for by all
module _ (stays : List Stay) (c : ℕ) (way : Way) (at : ℕ) (people : List (List ℕ)) (settled : IsNeverLoneOrCrowded stays c) where
  -- a test of how many people are there that held never before, and does not hold of nobody
  test-later : (test : ℕ → Bool) → test 0 ≡ false → ((t : ℕ) → test (headcount_in_by stays c t) ≡ false) → (t : ℕ)
      → test (headcount_in_by (stays_from_moment stays c way people at) c t) ≡ test (headcount_in_by (added c way at people stays) c t)
  test-later test none never t =
      grind (arith, nat_tests, none, never t, crowd-later stays c way at t people, crowd-before stays c way at t people)

  settled-refusal : (full : Bool)
      → occupancy_refusal (stays_from_moment stays c way people at) c (full || is_overfull (stay_count stays c) way people)
      ≡ sheet_refusal (added c way at people stays) c full way
  settled-refusal full =
      ap (λ b. occupancy_refusal (stays_from_moment stays c way people at) c (full || b)) (overfull-added stays c way at people)
      ∙ tested-same (stays_from_moment stays c way people at) (added c way at people stays) c _
      (test-later (λ n. n == 1) refl (subst (IsFirstMoment (is_lone_in_by stays c)) settled.lone (first_lone-is_first stays c)))
      (test-later (nat_lt 128) refl (subst (IsEver (is_crowd_in_by stays c)) settled.crowded (crowded-is_ever stays c)))

-- of two tests that answer alike, each finds the same person
pub find-same : (p q : List ℕ → Bool) → ((who : List ℕ) → p who ≡ q who) → (people : List (List ℕ)) → find p people ≡ find q people
find-same p q same [] = refl
find-same p q same (who ∷ rest) = rw (same who, find-same p q same rest)

-- of a sheet made in turn, a request that is not refused gives the ceremony the same stays by stays and by rows
pub same_stays : SameStays
same_stays rows s c mark full way people at a h = sym (same-added rows s c way at people a (taken rows c mark full way people at h).0)

-- of a sheet made in turn, where in the room of the ceremony nobody was ever alone, nor too many, rows and stays refuse a request alike
pub same_refusal : SameRefusal
same_refusal rows s c mark full way people at a settled =
    let turns = find-same (is_out_of_turn_by rows c way at) (is_out_of_turn_in (stays_by rows) c way at) (same-turns rows s c way at) people in
    grind (arith, nat_tests, rows-added c way at people rows s a, settled-refusal (stays_by rows) c way at people settled full)

-- How many people are in a room at each moment with the rows of a request.
use Rattle.kcr_room.proofs.Common.{◌≡◌, ℕ, ◌+◌, true, cond, ◌==◌, nat_le, nat_lt, List, [], ◌∷◌, map, length, refl, ◌∙◌, arith, filter, sum_by-append}
use Rattle.kcr_room.proofs.Common.{stay_covers, headcount_in_by, new_stay, with_end, of_ceremony, stays_after_request, clipped_to_moment}
use Rattle.kcr_room.proofs.Common.{stays_from_moment, stay_count, is_overfull, is_overfull_by}
use Rattle.kcr_room.proofs.Words.{nat_tests, Way, Enter, Leave, Stay}
use Rattle.kcr_room.proofs.{Lists.count-filter, Lists.count-cons, Moments.crowd-cons, Sheets.added, Sheets.after-added}

-- the ceremony's stays alone tell how many people are in its room
crowd-filter : (stays : List Stay) (c t : ℕ) → headcount_in_by (filter (of_ceremony c) stays) c t ≡ headcount_in_by stays c t
crowd-filter stays c t = count-filter (stay_covers c t) (of_ceremony c) stays (λ stay h. grind (arith, nat_tests))

-- those who come are there from the moment on
crowd-new : (c at t : ℕ) (people : List (List ℕ)) → headcount_in_by (map (new_stay c at) people) c t ≡ cond (nat_le at t) (length people) 0
crowd-new c at t [] = grind (arith, nat_tests)
crowd-new c at t (who ∷ rest) = grind (arith, nat_tests, crowd-cons (new_stay c at who) (map (new_stay c at) rest) c t, crowd-new c at t rest)

-- those who come raise the headcount by their number from the moment on, and not before
pub crowd-enter : (stays : List Stay) (c at t : ℕ) (people : List (List ℕ))
    → headcount_in_by (added c Enter at people stays) c t ≡ headcount_in_by stays c t + cond (nat_le at t) (length people) 0
crowd-enter stays c at t people = sum_by-append (λ stay. cond (stay_covers c t stay) 1 0) stays _ ∙ rw (crowd-new c at t people)

-- BEFORE THE MOMENT

-- a stay that ends at a moment holds before it as it did
holds-before : (c at t : ℕ) (people : List (List ℕ)) (stay : Stay) → nat_lt t at ≡ true → stay_covers c t (with_end people at stay) ≡ stay_covers c t stay
holds-before c at t people stay h = grind (arith, nat_tests, h)

-- as many people were there as there were
pub crowd-before : (stays : List Stay) (c : ℕ) (way : Way) (at t : ℕ) (people : List (List ℕ)) → nat_lt t at ≡ true
    → headcount_in_by (added c way at people stays) c t ≡ headcount_in_by stays c t
crowd-before stays c Enter at t people h = grind (arith, nat_tests, crowd-enter stays c at t people)
crowd-before [] c Leave at t people h = refl
crowd-before (stay ∷ stays) c Leave at t people h =
    let one = crowd-cons (with_end people at stay) (map (with_end people at) stays) c t in
    grind (arith, nat_tests, holds-before c at t people stay h, crowd-cons stay stays c t, crowd-before stays c Leave at t people h)

-- FROM THE MOMENT ON

-- stays that are cut at a moment tell from it on how many people are there, and before it nobody
crowd-cut : (stays : List Stay) (c at t : ℕ) → headcount_in_by (map (clipped_to_moment at) stays) c t ≡ cond (nat_le at t) (headcount_in_by stays c t) 0
crowd-cut [] c at t = grind (arith, nat_tests)
crowd-cut (stay ∷ stays) c at t =
    let one = crowd-cons (clipped_to_moment at stay) (map (clipped_to_moment at) stays) c t in
    grind (arith, nat_tests, crowd-cons stay stays c t, crowd-cut stays c at t)

-- so do those of the ceremony with the rows of a request
pub crowd-later : (stays : List Stay) (c : ℕ) (way : Way) (at t : ℕ) (people : List (List ℕ))
    → headcount_in_by (stays_from_moment stays c way people at) c t ≡ cond (nat_le at t) (headcount_in_by (added c way at people stays) c t) 0
crowd-later stays c way at t people =
    crowd-cut (stays_after_request stays c way people at) c at t
    ∙ rw (← after-added stays c way at people, crowd-filter (added c way at people stays) c t)

-- HOW MANY HAVE COME

entries-new : (c at : ℕ) (people : List (List ℕ)) → stay_count (map (new_stay c at) people) c ≡ length people
entries-new c at [] = refl
entries-new c at (who ∷ rest) =
    let k = count-cons (of_ceremony c) (new_stay c at who) (map (new_stay c at) rest) (c == c) refl in grind (arith, nat_tests, k, entries-new c at rest)

-- a request exceeds the limit of entries if and only if the stays with its rows do
pub overfull-added : (stays : List Stay) (c : ℕ) (way : Way) (at : ℕ) (people : List (List ℕ))
    → is_overfull (stay_count stays c) way people ≡ is_overfull_by (added c way at people stays) c way
overfull-added stays c Enter at people =
    rw (sum_by-append (λ stay. cond (of_ceremony c stay) 1 0) stays (map (new_stay c at) people), entries-new c at people)
overfull-added stays c Leave at people = refl

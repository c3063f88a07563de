-- The stays that last to the moment of a request tell how many people are in the room from it on.
use Rattle.kcr_room.proofs.Common.{◌≡◌, ℕ, Bool, true, nat_le, List, [], ◌∷◌, map, refl, sym, ◌∙◌, arith, filter, IsPermutation, stay_reaches}
use Rattle.kcr_room.proofs.Common.{stay_covers, headcount_in_by, with_end, stays_from_moment, occupancy_refusal}
use Rattle.kcr_room.proofs.Words.{nat_tests, Way, Enter, Leave, Stay}
use Rattle.kcr_room.proofs.{Lists.count-filter, Sheets.added, Refusals.refused-same}
use Rattle.kcr_room.proofs.{Moments.crowd-cons, Orders.later-order, Crowds.crowd-enter, Crowds.crowd-later}

-- a stay by which somebody is there at the moment or later, whether or not it is to end there, lasts to it
holds-lasting : (c at t : ℕ) (people : List (List ℕ)) (stay : Stay) → nat_le at t ≡ true → stay_covers c t (with_end people at stay) ≡ true
    → stay_reaches c at stay ≡ true
holds-lasting c at t people stay k h = grind (arith, nat_tests, k, h)

-- as many as by all, with those who come and those who go
crowd-added-lasting : (stays : List Stay) (c : ℕ) (way : Way) (people : List (List ℕ)) (at t : ℕ) → nat_le at t ≡ true
    → headcount_in_by (added c way at people (filter (stay_reaches c at) stays)) c t ≡ headcount_in_by (added c way at people stays) c t
crowd-added-lasting stays c Enter people at t k =
    let kept = count-filter (stay_covers c t) (stay_reaches c at) stays (λ stay. holds-lasting c at t [] stay k) in
    grind (arith, crowd-enter (filter (stay_reaches c at) stays) c at t people, crowd-enter stays c at t people)
crowd-added-lasting [] c Leave people at t k = refl
crowd-added-lasting (stay ∷ stays) c Leave people at t k =
    let all = crowd-cons (with_end people at stay) (map (with_end people at) stays) c t in
    let own = crowd-cons (with_end people at stay) (map (with_end people at) (filter (stay_reaches c at) stays)) c t in
    grind (arith, nat_tests, holds-lasting c at t people stay k, crowd-added-lasting stays c Leave people at t k)

crowd-later-lasting : (stays : List Stay) (c : ℕ) (way : Way) (people : List (List ℕ)) (at t : ℕ)
    → headcount_in_by (stays_from_moment (filter (stay_reaches c at) stays) c way people at) c t ≡ headcount_in_by (stays_from_moment stays c way people at) c t
crowd-later-lasting stays c way people at t =
    let lasting = crowd-added-lasting stays c way people at t in
    grind (arith, nat_tests, crowd-later (filter (stay_reaches c at) stays) c way at t people, crowd-later stays c way at t people)

-- so those that are shown are refused alike if they have the ones that last to the moment, in any order
pub later-lasting : (all shown : List Stay) (c at : ℕ) → IsPermutation (filter (stay_reaches c at) all) (filter (stay_reaches c at) shown)
    → (way : Way) (people : List (List ℕ)) (full : Bool)
    → occupancy_refusal (stays_from_moment shown c way people at) c full ≡ occupancy_refusal (stays_from_moment all c way people at) c full
later-lasting all shown c at p way people full = refused-same (stays_from_moment shown c way people at) (stays_from_moment all c way people at) c full (λ t.
    sym (crowd-later-lasting shown c way people at t)
    ∙ later-order (filter (stay_reaches c at) all) (filter (stay_reaches c at) shown) p c way people at t
    ∙ crowd-later-lasting all c way people at t)

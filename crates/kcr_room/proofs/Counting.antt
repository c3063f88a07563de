-- The moments at which people come and go tell how many are in a room.
use Rattle.kcr_room.proofs.Common.{◌≡◌, ℕ, zero, suc, ◌≤◌, Bool, true, false, cond, not, ◌&&◌, ◌==◌, nat_le, nat_lt, List, [], ◌∷◌, ◌++◌, length}
use Rattle.kcr_room.proofs.Common.{refl, sym, ap, ◌∙◌, arith, count_by, AllByRecursion, list_any, filter, IsPartitionPoint, IsNonDecreasing}
use Rattle.kcr_room.proofs.Common.{recursion_from_All, list_any-append, sum_by-IsPermutation, list_any-IsPermutation, IsPermutation-append}
use Rattle.kcr_room.proofs.Common.{min_moment, least, ends_after, headcount_in_by, is_lone_in_by, is_crowd_in_by, comings_by, first_lone_in_by}
use Rattle.kcr_room.proofs.{Common.is_crowded_in_by, Common.any-same, Firsts.end-unique, Firsts.lasts-sooner, Firsts.lasts-passing}
use Rattle.std.proofs.Common.{find}
use Rattle.kcr_room.specs.declared.occupancy.Occupancy.{Occupancy}
use Rattle.kcr_room.specs.Occupancy.{headcount_of, is_crowd_of, is_lone_of, HasMomentsOf}
use Rattle.kcr_room.proofs.{Words.nat_tests, Words.Stay, Lists.count-cons, Moments.balance}

-- of moments in order the point up to which they are not later is their number
pub parted-count : (test : ℕ → Bool) (moments : List ℕ) (i : ℕ) → i ≤ length moments → IsPartitionPoint (λ m. test m ≡ true) (λ m. test m ≡ false) moments i
    → i ≡ count_by test moments
parted-count test [] i h point = omega (arith, h)
parted-count test (m ∷ moments) zero h point =
    let k = count-cons test m moments false (point.1 0 m (omega arith) (omega arith)) in
    let n =
    parted-count test moments 0 (omega arith) ((λ k d l g. absurd (omega (arith, g))), (λ k d l g. point.1 (suc k) d (omega arith) (omega (arith, g)))) in
    omega (arith, k, n)
parted-count test (m ∷ moments) (suc i) h point =
    let k = count-cons test m moments true (point.0 0 m (omega arith) (omega arith)) in
    let n =
    parted-count test moments i (omega arith)
    ((λ k d l g. point.0 (suc k) d (omega arith) (omega (arith, g))), (λ k d l g. point.1 (suc k) d (omega (arith, l)) (omega (arith, g)))) in
    omega (arith, k, n)

-- those who have come without those who have gone are there
pub told-crowd : (traffic : Occupancy) (stays : List Stay) (c : ℕ) → HasMomentsOf traffic stays c → (t : ℕ) → headcount_of traffic t ≡ headcount_in_by stays c t
told-crowd traffic stays c told t =
    let m = sum_by-IsPermutation (λ moment. cond (nat_le moment t) 1 0) _ _ told.0 in
    let n = sum_by-IsPermutation (λ moment. cond (nat_le moment t) 1 0) _ _ told.1 in
    omega (arith, m, n, balance stays c t)

-- of moments in order the first that passes is the least
none-sooner : (test : ℕ → Bool) (t m : ℕ) (ts : List ℕ) → AllByRecursion (λ n. m ≤ n) ts → nat_lt t m ≡ true → list_any (λ n. test n && nat_le n t) ts ≡ false
none-sooner test t m [] a h = refl
none-sooner test t m (n ∷ ts) a h = grind (arith, nat_tests, a.0, h, none-sooner test t m ts a.1)

lasts-found : (test : ℕ → Bool) (t : ℕ) (ts : List ℕ) → IsNonDecreasing ts → ends_after t (find test ts) ≡ not (list_any (λ n. test n && nat_le n t) ts)
lasts-found test t [] rising = refl
lasts-found test t (m ∷ ts) rising =
    let behind = recursion_from_All (λ n. m ≤ n) ts (λ k d l. rising 0 (suc k) d (omega arith) (omega (arith, l))) in
    let rest = lasts-found test t ts (λ i j d k l. rising (suc i) (suc j) d (omega (arith, k)) (omega (arith, l))) in
    grind (arith, nat_tests, rest, none-sooner test t m ts behind)

-- the sooner of the first moments that pass in two lists in order is the least of all that pass
pub found-least : (test : ℕ → Bool) (ms ns : List ℕ) → IsNonDecreasing ms → IsNonDecreasing ns
    → min_moment (find test ms) (find test ns) ≡ least (filter test (ms ++ ns))
found-least test ms ns f g = end-unique _ _ (λ t.
    let passing = lasts-passing test t (ms ++ ns) in
    grind (arith, nat_tests, lasts-sooner t (find test ms) (find test ns), lasts-found test t ms f, lasts-found test t ns g, list_any-append))

-- the traffic of a room is crowded, and has its first moment with one person, as the stays have
pub told-crowded : (traffic : Occupancy) (stays : List Stay) (c : ℕ) → HasMomentsOf traffic stays c
    → list_any (is_crowd_of traffic) traffic.arrivals.items ≡ is_crowded_in_by stays c
told-crowded traffic stays c told =
    any-same (is_crowd_of traffic) (is_crowd_in_by stays c) traffic.arrivals.items (λ t. ap (nat_lt 128) (told-crowd traffic stays c told t))
    ∙ sym (list_any-IsPermutation (is_crowd_in_by stays c) (comings_by stays c) traffic.arrivals.items told.0)

-- the least moment of a room's traffic with one person is the first such moment by the stays
pub told-lone : (traffic : Occupancy) (stays : List Stay) (c : ℕ) → HasMomentsOf traffic stays c
    → least (filter (is_lone_of traffic) (traffic.arrivals.items ++ traffic.departures.items)) ≡ first_lone_in_by stays c
told-lone traffic stays c told =
    let moments = traffic.arrivals.items ++ traffic.departures.items in
    end-unique _ _ (λ t.
    let same = λ (n : ℕ). ap (λ crowd. crowd == 1 && nat_le n t) (told-crowd traffic stays c told n) in
    let moved = list_any-IsPermutation (λ n. is_lone_in_by stays c n && nat_le n t) _ _ (IsPermutation-append _ _ _ _ told.0 told.1) in
    let lone = any-same (λ n. is_lone_of traffic n && nat_le n t) (λ n. is_lone_in_by stays c n && nat_le n t) moments same in
    rw (lasts-passing, lasts-passing, lone, moved))

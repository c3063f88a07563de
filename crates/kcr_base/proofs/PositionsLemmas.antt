-- Indices and the positions that count from 1.
use Rattle.std.proofs.Common.{◌≡◌, ℕ, zero, suc, ◌+◌, ◌<◌, ◌≤◌, List, All, length, map, take, slice_set, slice_index_or, arith}
use Rattle.std.specs.List.{slice_index, Sorted.IsStrictlyIncreasing}
use Rattle.std.proofs.lemmas.List.{get_or-map, length-map, map_more, take_more_set, Elements.All-map}
use Rattle.kcr_base.specs.Positions.{IsPositions}

-- a number is at least its place among rising ones
place_below : (xs : List ℕ) → IsStrictlyIncreasing xs → (k : ℕ) → k < length xs → k ≤ slice_index xs k
place_below xs rises zero within = omega arith
place_below xs rises (suc k) within = grind (arith, place_below xs rises k, rises k)

-- rising numbers below n are at most n
pub length_below : (xs : List ℕ) (n : ℕ) → IsStrictlyIncreasing xs → All (λ x. x < n) xs → length xs ≤ n
length_below xs n rises below = grind (arith, place_below xs rises n, below n 0)

-- the positions of indices that are rising and below 16
pub positions_of : (xs : List ℕ) → IsStrictlyIncreasing xs → All (λ i. i < 16) xs → IsPositions (map suc xs)
positions_of xs rises below = record {
  rising = λ k within. grind (arith, length-map xs suc, get_or-map suc xs k 0 0, get_or-map suc xs (k + 1) 0 0, rises k);
  each = All-map (λ p. (1 ≤ p) × (p ≤ 16)) suc xs (λ k d within. (omega arith, below k d within));
  at_most_sixteen = rw (length-map xs suc) (length_below xs 16 rises below);
}

-- one more cell is filled
pub filled_more : (xs cells : List ℕ) (i : ℕ) → i < length xs → length xs ≤ length cells → take i cells ≡ map suc (take i xs)
    → take (i + 1) (slice_set cells i (slice_index_or xs i 0 + 1)) ≡ map suc (take (i + 1) xs)
filled_more xs cells i inside room so_far = grind (arith, take_more_set cells i, map_more suc xs i 0)

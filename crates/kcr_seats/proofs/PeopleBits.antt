-- Sets of people as bits.
use Rattle.std.proofs.Common.{◌≡◌, ◌≢◌, ℕ, ◌^◌, ◌<◌, inl, inr, bit_and, arith}
use Rattle.std.specs.Int.{bit_at, bit_not, trailing_zeros, w128}
use Rattle.std.proofs.lemmas.Nat.{and_le_l}
use Rattle.std.proofs.lemmas.Nat.Bits.{bit_at_and, bit_at_not, bit_at-lt, bit_at-zero, bit_at_above, bit_at-trailing_zeros}
use Rattle.kcr_seats.proofs.Least.{below_or_not}

-- a bit of the first number that the second lacks
pub in_both : (a b i : ℕ) → b < 2 ^ 128 → i < 128 → bit_at (bit_and a (bit_not w128 b)) i ≡ 1 → (bit_at a i ≡ 1) × (bit_at b i ≡ 0)
in_both a b i small low h =
    let m = bit_at_and a (bit_not w128 b) i in
    let n = bit_at_not w128 b i small low in
    (omega (arith, bit_at-lt a i, bit_at-lt b i), omega (arith, bit_at-lt a i, bit_at-lt b i))

-- if there is no such bit, each of the first number's is one of the second's
pub in_neither : (a b i : ℕ) → a < 2 ^ 128 → b < 2 ^ 128 → bit_and a (bit_not w128 b) ≡ 0 → bit_at a i ≡ 1 → bit_at b i ≡ 1
in_neither a b i small other none h = elim (below_or_not i 128) [
  | inl low ↦
      let z : bit_at (bit_and a (bit_not w128 b)) i ≡ 0 = rw none (bit_at-zero i) in
      omega (arith, bit_at_and a (bit_not w128 b) i, bit_at_not w128 b i other low, bit_at-lt b i)
  | inr high ↦ let z = bit_at_above a 128 i small high in absurd (omega arith)
]

-- the lowest such bit, if there is one
pub lowest : (a b : ℕ) → a < 2 ^ 128 → b < 2 ^ 128 → bit_and a (bit_not w128 b) ≢ 0
    → let i = trailing_zeros w128 (bit_and a (bit_not w128 b)) in (bit_at a i ≡ 1) × (bit_at b i ≡ 0)
lowest a b small other some =
    let most = and_le_l a (bit_not w128 b) in
    let t = bit_at-trailing_zeros w128 (bit_and a (bit_not w128 b)) (omega arith) (omega arith) in
    in_both a b (trailing_zeros w128 (bit_and a (bit_not w128 b))) other t.0 t.1

-- A reader of texts finds the value that has the text.
use Rattle.std.proofs.Common.{◌≡◌, ℕ, zero, suc, ◌+◌, ◌-◌, ◌≤◌, ◌<◌, Bool, List, find, Option, Some, arith}
use Rattle.std.specs.List.{AllByRecursion, range_with_len}
use Rattle.std.proofs.lemmas.Option.{IfSome_then}
use Rattle.kcr_base.specs.{Same.same_text, Reads.HasText, Reads.ReadsText, Forms.by_text, Forms.number_by_text}
use Rattle.kcr_base.proofs.{ListLemmas.first-is, ListLemmas.any-find, Members.IsIn, Members.in-any, SameLemmas.same-is, SameLemmas.same-itself}

-- a number from the first of a range on, and before its end, is in the range
pub in-range : (a n k : ℕ) → a ≤ k → k < a + n → IsIn k (range_with_len a n)
in-range a zero k le lt = absurd (omega (arith, le, lt))
in-range a (suc n) k le lt = grind (arith, in-range (a + 1) n k)

-- what holds of each number from the first of a range to before its end holds of the range
pub each-range : (P : ℕ → Type 0) (a n : ℕ) → ((k : ℕ) → a ≤ k → k < a + n → P k) → AllByRecursion P (range_with_len a n)
each-range P a zero h = tt
each-range P a (suc n) h = (h a (omega arith) (omega arith), each-range P (a + 1) n (λ k le lt. h k (omega arith) (omega arith)))

module _ {V : Type 0} (IsValue : V → Type 0) (text_of : V → List ℕ) (bytes : List ℕ) (r : Option V) where
  abbrev has_text : V → Bool
  has_text v = same_text (text_of v) bytes

  -- a reader that finds only values of the text, and each of them, finds the one of a list of all values
  pub by_text-read : (xs : List V) → AllByRecursion IsValue xs → ((v : V) → IsValue v → IsIn v xs)
      → HasText IsValue text_of bytes r → ReadsText IsValue text_of bytes r → r ≡ by_text text_of xs bytes
  by_text-read xs each all found only =
      let is : (v : V) → find has_text xs ≡ Some v → r ≡ Some v =
      λ v e. let first = first-is has_text IsValue v xs each e in only v first.1 (same-is (text_of v) bytes first.0) in
      grind (arith, is, any-find has_text xs, IfSome_then r found (λ v f. in-any has_text v xs (all v f.0) (rw f.1 (same-itself bytes))))

-- the same of numbers from one to another
pub number-read : (IsValue : ℕ → Type 0) (text_of : ℕ → List ℕ) (low high : ℕ) (bytes : List ℕ) (r : Option ℕ)
    → ((n : ℕ) → low ≤ n → n ≤ high → IsValue n) → ((n : ℕ) → IsValue n → (low ≤ n) × (n ≤ high))
    → HasText IsValue text_of bytes r → ReadsText IsValue text_of bytes r → r ≡ number_by_text text_of low high bytes
unfolding number_by_text
number-read IsValue text_of low high bytes r from to found only =
    by_text-read IsValue text_of bytes r (range_with_len low (high + 1 - low))
    (each-range IsValue low _ (λ k le lt. from k le (omega arith))) (λ v h. in-range low _ v (to v h).0 (omega (arith, to v h))) found only

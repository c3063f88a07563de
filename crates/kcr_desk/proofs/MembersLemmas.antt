-- Members between commas.
use Rattle.kcr_desk.proofs.Common.{◌≡◌, ℕ, suc, zero, ◌<◌, ◌≢◌, List, [], ◌∷◌, length, take, drop, get_or, map, refl, ap, arith, eq-eqb, ne_eqb}
use Rattle.kcr_desk.proofs.Common.{trim_ows, split_commas}
use Rattle.kcr_desk.specs.Members.{members}

-- the first piece ends at the first comma
split_commas_at : (xs : List ℕ) (i : ℕ) → i < length xs → get_or xs i 0 ≡ 44 → ((k : ℕ) → k < i → get_or xs k 0 ≢ 44)
    → split_commas xs ≡ take i xs ∷ split_commas (drop (suc i) xs)
split_commas_at [] i inside comma before = absurd (omega arith)
split_commas_at (b ∷ bs) zero inside comma before = rw (eq-eqb b 44 comma) refl
split_commas_at (b ∷ bs) (suc i) inside comma before =
    rw (ne_eqb b 44 (before 0 (omega arith)), split_commas_at bs i (omega arith) comma (λ k below. before (suc k) (omega arith))) refl

split_commas_whole : (xs : List ℕ) → ((k : ℕ) → k < length xs → get_or xs k 0 ≢ 44) → split_commas xs ≡ xs ∷ []
split_commas_whole [] none = refl
split_commas_whole (b ∷ bs) none = rw (ne_eqb b 44 (none 0 (omega arith)), split_commas_whole bs (λ k below. none (suc k) (omega arith))) refl

-- the members of a value are that before its first comma, and then those behind the comma
pub members_at : (xs : List ℕ) (i : ℕ) → i < length xs → get_or xs i 0 ≡ 44 → ((k : ℕ) → k < i → get_or xs k 0 ≢ 44)
    → members xs ≡ trim_ows (take i xs) ∷ members (drop (suc i) xs)
unfolding members
members_at xs i inside comma before = ap (map trim_ows) (split_commas_at xs i inside comma before)

-- a value without a comma is one member
pub members_whole : (xs : List ℕ) → ((k : ℕ) → k < length xs → get_or xs k 0 ≢ 44) → members xs ≡ trim_ows xs ∷ []
unfolding members
members_whole xs none = ap (map trim_ows) (split_commas_whole xs none)

-- Rows of people.
use Rattle.std.proofs.Common.{◌≡◌, ℕ, ◌+◌, ◌<◌, inl, inr, true, false, List, [], ◌∷◌, ◌++◌, length, get_or, refl, arith}
use Rattle.std.proofs.lemmas.{List.get_or_past, List.get_or_push, List.get_or_append_left, Nat.Bits.bit_at-zero}
use Rattle.kcr_seats.specs.{People.contains, People.nobody, declared.people.People.People}
use Rattle.kcr_seats.proofs.{Counting.same_or_not, Least.below_or_not}

-- nobody is in the empty set
nobody_in : (person : ℕ) → contains nobody person ≡ false
unfolding contains
nobody_in person = rw (bit_at-zero person) refl

-- what holds of who is in a row holds of who is in any row, there or not
pub any_row : (rows : List People) (people n : ℕ) → length rows ≡ n
    → ((i person : ℕ) → i < n → contains (get_or rows i nobody) person ≡ true → person < people)
    → (i person : ℕ) → contains (get_or rows i nobody) person ≡ true → person < people
any_row rows people n long old i person h = elim (below_or_not i n) [
  | inl low ↦ old i person low h
  | inr high ↦ let past : get_or rows i nobody ≡ nobody = get_or_past rows i nobody (omega arith) in absurd (cc (nobody_in person))
]

-- what holds of each row and of one more holds of each row with that one
pub row_more : (P : ℕ → People → Type 0) (rows : List People) (row : People) (n : ℕ) → length rows ≡ n
    → ((i : ℕ) → i < n → P i (get_or rows i nobody)) → P n row → (i : ℕ) → i < n + 1 → P i (get_or (rows ++ row ∷ []) i nobody)
row_more P rows row n long old here i h = elim (same_or_not i n) [
  | inl e ↦ rw (e, get_or_push rows row nobody n long) here
  | inr ne ↦ rw (get_or_append_left rows (row ∷ []) nobody i (omega arith)) (old i (omega arith))
]

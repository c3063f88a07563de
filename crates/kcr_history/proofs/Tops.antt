-- The greatest number of a step among seatings.
use Rattle.kcr_history.proofs.Common.{◌≡◌, ℕ, List, [], ◌∷◌, map, fold, max, arith}
use Rattle.kcr_history.specs.declared.row_types.SeatingRow.{SeatingRow}

-- 0 if there is no seating
abbrev pub top : List SeatingRow → ℕ
top rows = fold max 0 (map (λ row. row.step) rows)

fold-more : (n : ℕ) (xs : List ℕ) → fold max n xs ≡ max n (fold max 0 xs)
fold-more n [] = omega arith
fold-more n (x ∷ xs) = omega (arith, fold-more (max n x) xs, fold-more (max 0 x) xs)

-- the greatest step of one seating more is the greater of its step and the greatest of the others
pub top-more : (x : SeatingRow) (xs : List SeatingRow) → top (x ∷ xs) ≡ max x.step (top xs)
top-more x xs = omega (arith, fold-more (max 0 x.step) (map (λ (row : SeatingRow). row.step) xs))

-- The rows of a step's seats, in whatever order they come, are those people once they are put in order.
use Rattle.kcr_audit.proofs.Common.{◌≡◌, ℕ, suc, ◌<◌, true, List, [], ◌∷◌, map, refl, sym, ap, ◌∙◌, arith, inl, inr, IsPermutation, cases_order}
use Rattle.kcr_audit.proofs.Common.{ltb-true, ltb-false, lt-ltb, le-ltb, eq-eqb, Shuffled, shuffled, nothing, under, flipped, after, IsIn}
use Rattle.kcr_audit.proofs.Common.{in-shuffled, SeatingRow, seat_rows, are_numbered, put_row, rows_in_order}

-- BY SEATS

-- two rows of different seats, put in their places in either order
put-apart : (x y : SeatingRow) (zs : List SeatingRow) → x.seat < y.seat → put_row x (put_row y zs) ≡ put_row y (put_row x zs)
put-apart x y [] l = rw (le-ltb y.seat x.seat (omega arith), lt-ltb x.seat y.seat l) refl
put-apart x y (z ∷ zs) l = grind (arith, lt-ltb, le-ltb, ltb-true, ltb-false, put-apart x y zs l)

-- two rows put in their places in either order, if they are one if they have one seat
put-both : (x y : SeatingRow) (zs : List SeatingRow) → (x.seat ≡ y.seat → x ≡ y)
    → put_row x (put_row y zs) ≡ put_row y (put_row x zs)
put-both x y zs same = grind (arith, cases_order, put-apart)

-- ROWS THAT ARE ONE WHERE THEIR SEAT IS ONE

abbrev OneEach : List SeatingRow → Type 0
OneEach xs = (r o : SeatingRow) → IsIn r xs → IsIn o xs → r.seat ≡ o.seat → r ≡ o

-- they come in one order, however they came
order-same : {xs ys : List SeatingRow} → Shuffled xs ys → OneEach xs → rows_in_order xs ≡ rows_in_order ys
order-same nothing one = refl
order-same (under x xs ys s) one = ap (put_row x) (order-same s (λ r o m n. one r o (inr m) (inr n)))
order-same (flipped x y xs) one = put-both x y (rows_in_order xs) (one x y (inl refl) (inr (inl refl)))
order-same (after xs ys zs s t) one =
    order-same s one ∙ order-same t (λ r o m n. one r o (in-shuffled r s m) (in-shuffled o s n))

-- THE ROWS OF THE SEATS

seats-above : (c k i : ℕ) (people : List (List ℕ)) (y : SeatingRow) → IsIn y (seat_rows c k i people) → i < y.seat
seats-above c k i [] y m = grind arith
seats-above c k i (who ∷ people) y m = grind (arith, seats-above c k (suc i) people y)

seats-one : (c k i : ℕ) (people : List (List ℕ)) → OneEach (seat_rows c k i people)
seats-one c k i [] r o m n e = absurd m
seats-one c k i (who ∷ people) r o (inl f) (inl g) e = f ∙ sym g
seats-one c k i (who ∷ people) r o (inl f) (inr n) e = absurd
    (let l = seats-above c k (suc i) people o n in let s : r.seat ≡ suc i = ap (λ (row : SeatingRow). row.seat) f in omega arith)
seats-one c k i (who ∷ people) r o (inr m) (inl g) e = absurd
    (let l = seats-above c k (suc i) people r m in let s : o.seat ≡ suc i = ap (λ (row : SeatingRow). row.seat) g in omega arith)
seats-one c k i (who ∷ people) r o (inr m) (inr n) e = seats-one c k (suc i) people r o m n e

-- they stay as they are
seats-stay : (c k i : ℕ) (people : List (List ℕ)) → rows_in_order (seat_rows c k i people) ≡ seat_rows c k i people
seats-stay c k i [] = refl
seats-stay c k i (who ∷ []) = refl
seats-stay c k i (who ∷ next ∷ people) = grind (arith, seats-stay c k (suc i) (next ∷ people))

-- in order, the rows of the seats are those that they were before
pub seats-in-order : (c k i : ℕ) (people : List (List ℕ)) (rows : List SeatingRow) → IsPermutation (seat_rows c k i people) rows
    → rows_in_order rows ≡ seat_rows c k i people
seats-in-order c k i people rows p = sym (order-same (shuffled (seat_rows c k i people) rows p) (seats-one c k i people)) ∙ seats-stay c k i people

-- the rows of some people's seats name these people, in their order
pub people-of-seats : (c k i : ℕ) (people : List (List ℕ)) → map (λ row. row.who) (seat_rows c k i people) ≡ people
people-of-seats c k i [] = refl
people-of-seats c k i (who ∷ people) = ap (λ rest. who ∷ rest) (people-of-seats c k (suc i) people)

-- they are numbered one after the other
pub seats-numbered : (c k i : ℕ) (people : List (List ℕ)) → are_numbered (suc i) (seat_rows c k i people) ≡ true
seats-numbered c k i [] = refl
seats-numbered c k i (who ∷ people) = grind (arith, eq-eqb, seats-numbered c k (suc i) people)

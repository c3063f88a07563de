-- The lines of seats, one seat after the other.
use Rattle.kcr_print.proofs.Common.{◌≡◌, ℕ, zero, suc, ◌+◌, ◌<◌, List, [], ◌∷◌, ◌++◌, take, length, get_or, min, codes, refl, sym, ap, ◌∙◌}
use Rattle.kcr_print.proofs.Common.{append_assoc, append-nil, arith, ends_line, words, seat_lines}
use Rattle.kcr_script.specs.{Seat.seat_text, declared.seat.Seat.Seat}

-- the line of a seat: its text, then the initials of the person in it
abbrev pub seat_line : Seat → List ℕ → List ℕ
seat_line seat who = ends_line (codes "  " ++ words (seat_text seat ∷ who ∷ []))

-- the next seat stands behind those before it
pub lines_more : (seats : List Seat) (people : List (List ℕ)) (n : ℕ) (seat : Seat) (who : List ℕ) → n < length seats → n < length people
    → seat ≡ get_or seats n seat → who ≡ get_or people n who
    → seat_lines (take (suc n) seats) (take (suc n) people) ≡ seat_lines (take n seats) (take n people) ++ seat_line seat who
lines_more [] people n seat who s p e f = absurd (omega arith)
lines_more (x ∷ seats) [] n seat who s p e f = absurd (omega arith)
lines_more (x ∷ seats) (y ∷ people) zero seat who s p e f =
    append-nil (seat_line x y) ∙ ap (λ t. seat_line t y) (sym e) ∙ ap (λ t. seat_line seat t) (sym f)
lines_more (x ∷ seats) (y ∷ people) (suc n) seat who s p e f =
    ap (λ t. seat_line x y ++ t) (lines_more seats people n seat who (omega arith) (omega arith) e f)
    ∙ sym (append_assoc (seat_line x y) (seat_lines (take n seats) (take n people)) (seat_line seat who))

-- as many as there are of both are all
pub seats_all : (seats : List Seat) (people : List (List ℕ)) (n : ℕ) → n ≡ min (length seats) (length people)
    → seat_lines (take n seats) (take n people) ≡ seat_lines seats people
seats_all [] people zero e = refl
seats_all [] people (suc n) e = absurd (omega arith)
seats_all (x ∷ seats) [] zero e = refl
seats_all (x ∷ seats) [] (suc n) e = absurd (omega arith)
seats_all (x ∷ seats) (y ∷ people) zero e = absurd (omega arith)
seats_all (x ∷ seats) (y ∷ people) (suc n) e = ap (λ t. seat_line x y ++ t) (seats_all seats people n (omega arith))

-- Whole empty lines: the test decides, and no head begins so.
use Rattle.kcr_desk.proofs.Common.{arith, ◌≡◌, ℕ, false, not, cond, ◌&&◌, List, [], ◌∷◌, ◌++◌, refl, eqb, eqb-true, and_parts, list_all}
use Rattle.kcr_desk.proofs.Common.{list_all-append, LineEnd, crlf, lf, print_blank, blank_from}
use Rattle.std.proofs.Common.{Bool, true}
use Rattle.httparse.specs.Pieces.{Stops, is_newline}

-- the bytes, with the CR that stands before them
abbrev pub with_cr : Bool → List ℕ → List ℕ
with_cr cr bytes = cond cr (13 ∷ bytes) bytes

abbrev pub Blanks : Bool → List ℕ → Type 0
Blanks cr bytes = (ends : List LineEnd) × (with_cr cr bytes ≡ print_blank ends)

step : (b : ℕ) (bytes : List ℕ) → ((cr : Bool) → blank_from cr bytes ≡ true → Blanks cr bytes) → (cr t u : Bool) → eqb b 10 ≡ t → eqb b 13 ≡ u
    → cond t (blank_from false bytes) ((u && not cr) && blank_from true bytes) ≡ true → Blanks cr (b ∷ bytes)
step b bytes rest false true u p q e = let i = rest false e in (lf ∷ i.0, cc (eqb-true b 10 p, i.1))
step b bytes rest true true u p q e = let i = rest false e in (crlf ∷ i.0, cc (eqb-true b 10 p, i.1))
step b bytes rest false false true p q e = let i = rest true e in (i.0, cc (eqb-true b 13 q, i.1))
step b bytes rest true false true p q e = cc
step b bytes rest cr false false p q e = cc

-- bytes that pass the test are whole empty lines, with the CR that stands before them
pub blanks : (bytes : List ℕ) (cr : Bool) → blank_from cr bytes ≡ true → Blanks cr bytes
blanks [] false e = ([], refl)
blanks [] true e = cc
blanks (b ∷ bytes) cr e = step b bytes (blanks bytes) cr (eqb b 10) (eqb b 13) refl refl e

-- whole empty lines pass the test, and each of their bytes is of a line end
pub blank_from-print : (ends : List LineEnd) → (blank_from false (print_blank ends) ≡ true) × (list_all is_newline (print_blank ends) ≡ true)
blank_from-print [] = (refl, refl)
blank_from-print (crlf ∷ ends) = blank_from-print ends
blank_from-print (lf ∷ ends) = blank_from-print ends

stops_fails : (bytes : List ℕ) → Stops is_newline bytes → list_all is_newline bytes ≡ true → ⊥
stops_fails bytes s e = grind arith

-- no empty lines and then a byte of another kind are empty lines alone
pub blank_not_more : (ends blank : List LineEnd) (rest : List ℕ) → Stops is_newline rest → print_blank ends ≡ print_blank blank ++ rest → ⊥
blank_not_more ends blank rest s e =
    stops_fails rest s (and_parts (list_all is_newline (print_blank blank)) _ (rw (e, list_all-append) at (blank_from-print ends).1)).1

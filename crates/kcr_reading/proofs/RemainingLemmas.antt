-- Rows that were taken one after the other, and those that are left.
use Rattle.kcr_reading.proofs.Common.{◌≡◌, List, [], ◌∷◌, ◌++◌, Option, Some, None, sym, ap, subst, ◌∙◌, append_assoc, append-nil, IsNextOf}

-- one more row was taken
pub one_taken : {X : Type 0} (rows more left rest all : List X) (row : X) (given : Option X) → rows ++ left ≡ all → given ≡ Some row
    → IsNextOf left given rest → more ≡ rows ++ row ∷ [] → more ++ rest ≡ all
one_taken rows more left rest all row given had is next pushed =
    let first : left ≡ row ∷ rest = subst (λ o. IsNextOf left o rest) is next in
    ap (λ l. l ++ rest) pushed ∙ append_assoc rows (row ∷ []) rest ∙ ap (λ l. rows ++ l) (sym first) ∙ had

-- if none is left to be given, what was given is all
pub none_left : {X : Type 0} (rows left rest all : List X) (given : Option X) → rows ++ left ≡ all → given ≡ None → IsNextOf left given rest → rows ≡ all
none_left rows left rest all given had is next =
    let none = subst (λ o. IsNextOf left o rest) is next in sym (append-nil rows) ∙ ap (λ l. rows ++ l) (sym none.0) ∙ had

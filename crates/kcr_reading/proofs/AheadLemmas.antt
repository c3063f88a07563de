-- Rows that were read ahead, and those behind them.
use Rattle.kcr_reading.proofs.Common.{◌≡◌, List, [], ◌∷◌, ◌++◌, Option, Some, None, refl, sym, ap, subst, ◌∙◌, option_to_list, IsNextOf}
use Rattle.kcr_reading.proofs.Common.{IsNextBatchOf}

-- what is taken out of rows is the next of them
pub gives_taken : {X : Type 0} (rows left : List X) (found : Option X) → rows ≡ option_to_list found ++ left → (found ≡ None → rows ≡ [])
    → IsNextOf rows found left
gives_taken rows left None split none = (none refl, sym split ∙ none refl)
gives_taken rows left (Some row) split none = split

-- the first of those that were read ahead is the next row
pub gives_ready : {X : Type 0} (ready left come : List X) (found : Option X) (row : X) → found ≡ Some row → IsNextOf ready found left
    → ready ++ come ≡ row ∷ (left ++ come)
gives_ready ready left come found row is gives = ap (λ l. l ++ come) (subst (λ f. IsNextOf ready f left) is gives)

-- if none was left, several are read, and the first of them is the next row
pub gives_read : {X : Type 0} (ready still all rows later left : List X) (before found : Option X) → before ≡ None → IsNextOf ready before still
    → IsNextBatchOf all rows later → IsNextOf rows found left → IsNextOf (ready ++ all) found (left ++ later)
gives_read ready still all rows later left before None is spent read gives =
    let empty : ready ≡ [] = (subst (λ f. IsNextOf ready f still) is spent).0 in
    rw (empty, read.next, gives.0, gives.1, read.ends gives.0) (refl, refl)
gives_read ready still all rows later left before (Some x) is spent read gives =
    let empty : ready ≡ [] = (subst (λ f. IsNextOf ready f still) is spent).0 in rw (empty, read.next, gives)

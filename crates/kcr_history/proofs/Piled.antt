-- Rows that are put one after the other on older ones.
use Rattle.kcr_history.proofs.Common.{◌≡◌, Bool, ◌||◌, List, [], ◌∷◌, ◌++◌, map, filter, refl, sym, ◌∙◌, arith, subst, list_any, IsPermutation}
use Rattle.kcr_history.proofs.Common.{list_any-append, IsPermutation-refl, IsPermutation-sym, IsPermutation-trans, IsPermutation-middle}
use Rattle.kcr_history.proofs.Common.{list_any-IsPermutation, pushed_onto}
use Rattle.std.proofs.lemmas.List.{append-nil}

-- a list pushed onto another gives the elements of both
pub pushed-order : {X : Type 0} (xs ys : List X) → IsPermutation (xs ++ ys) (pushed_onto xs ys)
pushed-order [] ys = IsPermutation-refl ys
pushed-order (x ∷ xs) ys =
    IsPermutation-trans (x ∷ (xs ++ ys)) (xs ++ x ∷ ys) (pushed_onto xs (x ∷ ys))
    (IsPermutation-sym (xs ++ x ∷ ys) (x ∷ (xs ++ ys)) (IsPermutation-middle xs x ys)) (pushed-order xs (x ∷ ys))

-- a list pushed onto nothing keeps its elements
pub pushed-alone : {X : Type 0} (xs : List X) → IsPermutation xs (pushed_onto xs [])
pushed-alone xs = subst (λ zs. IsPermutation zs (pushed_onto xs [])) (append-nil xs) (pushed-order xs [])

-- some element passes after a push if and only if one of either list does
pub any-pushed : {X : Type 0} (p : X → Bool) (xs ys : List X) → list_any p (pushed_onto xs ys) ≡ (list_any p xs || list_any p ys)
any-pushed p xs ys = sym (list_any-IsPermutation p (xs ++ ys) (pushed_onto xs ys) (pushed-order xs ys)) ∙ list_any-append p xs ys

-- the elements that pass after a push are those of the one list pushed onto those of the other
pub filter-pushed : {X : Type 0} (p : X → Bool) (xs ys : List X) → filter p (pushed_onto xs ys) ≡ pushed_onto (filter p xs) (filter p ys)
filter-pushed p [] ys = refl
filter-pushed p (x ∷ xs) ys = grind (arith, filter-pushed p xs (x ∷ ys))

-- the values of the elements after a push are those of the one list pushed onto those of the other
pub map-pushed : {X Y : Type 0} (f : X → Y) (xs ys : List X) → map f (pushed_onto xs ys) ≡ pushed_onto (map f xs) (map f ys)
map-pushed f [] ys = refl
map-pushed f (x ∷ xs) ys = map-pushed f xs (x ∷ ys)

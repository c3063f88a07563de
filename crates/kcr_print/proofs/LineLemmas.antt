-- Words with blanks between them, one word after the other.
use Rattle.kcr_print.proofs.Common.{◌≡◌, ℕ, ◌+◌, ◌<◌, List, [], ◌∷◌, ◌++◌, map, take, length, get_or, refl, sym, ap, ◌∙◌, append_assoc, add-one}
use Rattle.kcr_print.proofs.Common.{arith, join_with_byte, map_more}

-- what stands between a list and the next word: a blank if the list is not empty
abbrev pub separator : {X : Type 0} → List X → List ℕ
separator [] = []
separator (x ∷ xs) = 32 ∷ []

joined-append : (xs : List (List ℕ)) (x : List ℕ) → join_with_byte 32 (xs ++ x ∷ []) ≡ join_with_byte 32 xs ++ (separator xs ++ x)
joined-append [] x = refl
joined-append (y ∷ []) x = refl
joined-append (y ∷ z ∷ ys) x =
    ap (λ rest. y ++ (32 ∷ rest)) (joined-append (z ∷ ys) x)
    ∙ sym (append_assoc y (32 ∷ join_with_byte 32 (z ∷ ys)) (32 ∷ x))

separator-map : {X : Type 0} (f : X → List ℕ) (xs : List X) → separator (map f xs) ≡ separator xs
separator-map f [] = refl
separator-map f (x ∷ xs) = refl

-- a list with its next element has a blank behind it
pub separator_more : {X : Type 0} (xs : List X) (i : ℕ) → i < length xs → separator (take (i + 1) xs) ≡ 32 ∷ []
separator_more [] i h = absurd (omega arith)
separator_more (x ∷ xs) i h = rw add-one

-- the next word stands behind those before it, and a blank if there are any
pub words_more : {X : Type 0} (f : X → List ℕ) (xs : List X) (i : ℕ) (d : X) → i < length xs
    → join_with_byte 32 (map f (take (i + 1) xs)) ≡ join_with_byte 32 (map f (take i xs)) ++ (separator (take i xs) ++ f (get_or xs i d))
words_more f xs i d h = rw (map_more f xs i d h, ← separator-map f (take i xs)) (joined-append (map f (take i xs)) (f (get_or xs i d)))

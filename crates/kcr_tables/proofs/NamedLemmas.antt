-- The rows of a list of keys, of which one may be named twice: each row once.
use Rattle.kcr_tables.proofs.Common.{arith, ◌≡◌, Bool, true, false, cond, ◌||◌, List, [], ◌∷◌, ◌++◌, filter, refl, sym, ap, subst, ◌∙◌, true≢false}
use Rattle.kcr_tables.proofs.Common.{append-nil, IsPermutation, list_any, IsPermutation-refl, IsPermutation-sym, IsPermutation-trans}
use Rattle.kcr_tables.proofs.Common.{IsPermutation-cons, IsPermutation-middle, IsPermutation-append_left, IsPermutation-filter, filter-filter}
use Rattle.kcr_tables.proofs.Common.{filter_as, asked_once, is_under_any}
use Rattle.std.proofs.lemmas.List.Folds.{list_any-append}

-- the rows that pass one test or the other, if none passes both
apart : {X : Type 0} (p q : X → Bool) → ((x : X) → p x ≡ true → q x ≡ true → ⊥) → (xs : List X)
    → IsPermutation (filter (λ x. p x || q x) xs) (filter p xs ++ filter q xs)
apart p q none [] = IsPermutation-refl []
apart {X = X} p q none (x ∷ xs) = by_tests (p x) (q x) refl refl (apart p q none xs)
  where
    by_tests : (a b : Bool) → p x ≡ a → q x ≡ b → IsPermutation (filter (λ x. p x || q x) xs) (filter p xs ++ filter q xs)
        → IsPermutation (cond (a || b) (x ∷ filter (λ x. p x || q x) xs) (filter (λ x. p x || q x) xs))
        (cond a (x ∷ filter p xs) (filter p xs) ++ cond b (x ∷ filter q xs) (filter q xs))
    by_tests true true e f ih = absurd (none x e f)
    by_tests true false e f ih = IsPermutation-cons x _ _ ih
    by_tests false true e f ih = IsPermutation-trans _ _ _ (IsPermutation-cons x _ _ ih)
        (IsPermutation-sym _ _ (IsPermutation-middle (filter p xs) x (filter q xs)))
    by_tests false false e f ih = ih

-- no keys have no rows
pub none_named : {X K : Type 0} (is_under : K → X → Bool) (xs : List X) → IsPermutation (filter (is_under_any is_under []) xs) []
none_named is_under [] = IsPermutation-refl []
none_named is_under (x ∷ xs) = none_named is_under xs

module _ {X K : Type 0} (same : K → K → Bool) (is_under : K → X → Bool) (one_key : (a b : K) (x : X) → is_under a x ≡ true → is_under b x ≡ same a b) where
  more_is : (keys : List K) (key : K) (x : X) → is_under_any is_under (keys ++ key ∷ []) x ≡ (is_under_any is_under keys x || is_under key x)
  more_is keys key x = list_any-append (λ k. is_under k x) keys (key ∷ []) ∙ grind arith

  same_key : (keys : List K) (key : K) (x : X) → is_under key x ≡ true → is_under_any is_under keys x ≡ list_any (same key) keys
  same_key [] key x is = refl
  same_key (k ∷ keys) key x is = ap (λ b. b || is_under_any is_under keys x) (one_key key k x is) ∙ ap (λ b. same key k || b) (same_key keys key x is)

  -- one key more adds its rows, and nothing if it was named before
  pub named_more : (keys : List K) (key : K) (xs rows found : List X) → IsPermutation (filter (is_under_any is_under keys) xs) rows
      → found ≡ asked_once same is_under key keys xs → IsPermutation (filter (is_under_any is_under (keys ++ key ∷ [])) xs) (rows ++ found)
  named_more keys key xs rows found so is = rw is (by_test (list_any (same key) keys) refl)
    where
      by_test : (b : Bool) → list_any (same key) keys ≡ b
          → IsPermutation (filter (is_under_any is_under (keys ++ key ∷ [])) xs) (rows ++ cond b [] (filter (is_under key) xs))
      by_test true there =
          rw (append-nil rows)
          (subst (λ l. IsPermutation l rows) (sym (filter_as _ _ (λ x. more_is keys key x ∙ grind (arith, same_key keys key x)) xs)) so)
      by_test false none =
          subst (λ l. IsPermutation l (rows ++ filter (is_under key) xs)) (sym (filter_as _ _ (more_is keys key) xs))
          (IsPermutation-trans _ _ _ (apart (is_under_any is_under keys) (is_under key) (λ x a b. true≢false (sym a ∙ same_key keys key x b ∙ none)) xs)
          (IsPermutation-append_left (filter (is_under key) xs) _ _ so))

-- ---- rows that were asked for, in any order

-- to filter twice by one test is to filter once
pub twice : {X : Type 0} (p : X → Bool) (xs : List X) → filter p (filter p xs) ≡ filter p xs
twice p xs = filter-filter p p (λ x h. h) xs

-- rows that all pass
pub passing : {X : Type 0} (p : X → Bool) (xs rows : List X) → IsPermutation (filter p xs) rows → IsPermutation (filter p xs) (filter p rows)
passing p xs rows so = subst (λ l. IsPermutation l (filter p rows)) (twice p xs) (IsPermutation-filter p (filter p xs) rows so)

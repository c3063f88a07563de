-- A row put in its place is the row put anywhere, up to order.
use Rattle.kcr_rows.proofs.Common.{◌≡◌, ◌≢◌, ◌||◌, Bool, true, false, cond, ℕ, List, [], ◌∷◌, map, refl, sym, subst, ◌∙◌, Ordering, Less, Equal}
use Rattle.kcr_rows.proofs.Common.{Greater, rules, list_any, All, AllByRecursion, match_ordering, is_eq, cond-false, IsPermutation-cons}
use Rattle.kcr_rows.proofs.Common.{IsPermutation-map, IsPermutation-refl, IsPermutation-sym, IsPermutation-trans, IsPermutation-middle}
use Rattle.kcr_rows.proofs.Common.{list_any-IsPermutation, Row, IsAscending, all_weaker, ascending_from_map, by_key, put_in}
use Rattle.std.proofs.Common.{IsPermutation}
use Rattle.std.proofs.lemmas.List.{Elements.All-from_recursion, Elements.All-weaker, Folds.list_any_none, Folds.map_fixed}
use Rattle.kcr_base.specs.Rows.{put}
use Rattle.kcr_rows.proofs.{PutLemmas.put_rising, SameLemmas.key_total, TableLemmas.put_in_rows}

-- values whose images ascend do so themselves, by their images
pub from_map : {X : Type 0} (R : Row → Row → Type 0) (f : X → Row) (xs : List X) → IsAscending R (map f xs) → IsAscending (λ a b. R (f a) (f b)) xs
from_map R f xs up = ascending_from_map R f xs up

module _ {X : Type 0} (keys : ℕ) (row_of : X → Row) (new : X) where
  abbrev cmp : X → X → Ordering
  cmp x y = by_key keys (row_of x) (row_of y)

  -- two rows have one key
  abbrev pub same : X → X → Bool
  same row old = is_eq (cmp old row)

  -- behind a row that is not below the new one no row has its key
  past : (x : X) → cmp x new ≢ Less → (y : X) → cmp x y ≡ Less → same new y ≡ false
  past x n y less =
      search (rules, key_total keys)

  none_behind : (x : X) → cmp x new ≢ Less → (xs : List X) → AllByRecursion (λ y. cmp x y ≡ Less) xs → All (λ y. same new y ≡ false) xs
  none_behind x n xs a = All-from_recursion _ xs (all_weaker _ (λ y. same new y ≡ false) (past x n) xs a)

  -- a row put under its key gives the rows with it in its place, in some order
  pub put-in : (xs : List X) → IsAscending (λ a b. cmp a b ≡ Less) xs → IsPermutation (put same new xs) (put_in keys row_of new xs)
  put-in [] r = IsPermutation-refl (new ∷ [])
  put-in (x ∷ xs) r = by_order (cmp x new) refl (put-in xs r.1)
    where
      less : (b : Bool) → IsPermutation (cond b (map (λ old. cond (same new old) new old) xs) (new ∷ xs)) (put_in keys row_of new xs)
          → IsPermutation (cond b (x ∷ map (λ old. cond (same new old) new old) xs) (new ∷ x ∷ xs)) (x ∷ put_in keys row_of new xs)
      less true ih = IsPermutation-cons x _ _ ih
      less false ih = IsPermutation-trans _ _ _ (IsPermutation-sym _ _ (IsPermutation-middle (x ∷ []) new xs)) (IsPermutation-cons x _ _ ih)

      by_order : (o : Ordering) → cmp x new ≡ o → IsPermutation (put same new xs) (put_in keys row_of new xs)
          → IsPermutation (cond (is_eq o || list_any (same new) xs) (cond (is_eq o) new x ∷ map (λ old. cond (same new old) new old) xs) (new ∷ x ∷ xs))
          (match_ordering o (x ∷ put_in keys row_of new xs) (new ∷ xs) (new ∷ x ∷ xs))
      by_order Less e ih = less (list_any (same new) xs) ih
      by_order Equal e ih =
          let none = none_behind x (λ l. let f : Equal ≡ Less = sym e ∙ l in cc) xs r.0 in
          rw (map_fixed _ xs (All-weaker _ _ (λ y e. cond-false (same new y) new y e) xs none)) (IsPermutation-refl (new ∷ xs))
      by_order Greater e ih =
          let none = none_behind x (λ l. let f : Greater ≡ Less = sym e ∙ l in cc) xs r.0 in
          rw (list_any_none (same new) xs none) (IsPermutation-refl (new ∷ x ∷ xs))

-- a row put into a list in another order gives the same rows, up to their order
pub put-order : {X : Type 0} (same : X → X → Bool) (row : X) (xs ys : List X) → IsPermutation xs ys → IsPermutation (put same row xs) (put same row ys)
put-order same row xs ys p = search (rules, list_any-IsPermutation, IsPermutation-map, IsPermutation-cons)

-- the machine's rows after a change of its own, and the database's after the same change
pub put-stands : {X : Type 0} (keys : ℕ) (row_of : X → Row) (test : X → X → Bool)
    → ((row old : X) → test row old ≡ is_eq (by_key keys (row_of old) (row_of row)))
    → (new : X) (xs ys : List X) → IsAscending (λ a b. by_key keys a b ≡ Less) (map row_of ys) → IsPermutation xs ys
    → IsPermutation (put test new xs) (put_in keys row_of new ys)
put-stands {X = X} keys row_of test is new xs ys up p =
    IsPermutation-trans _ _ _ (put-order test new xs ys p)
    (subst (λ (s : X → X → Bool). IsPermutation (put s new ys) (put_in keys row_of new ys)) (λ i row old. sym (is row old) i)
    (put-in keys row_of new ys (from_map (λ a b. by_key keys a b ≡ Less) row_of ys up)))

-- the rows still rise
pub put_in_rising : {X : Type 0} (keys : ℕ) (row_of : X → Row) (new : X) (xs : List X) → IsAscending (λ a b. by_key keys a b ≡ Less) (map row_of xs)
    → IsAscending (λ a b. by_key keys a b ≡ Less) (map row_of (put_in keys row_of new xs))
put_in_rising keys row_of new xs up = search (rules, put_in_rows, put_rising)

-- what holds of the new row and of every old one holds of all
pub put_in_all : {X : Type 0} (P : X → Type 0) (keys : ℕ) (row_of : X → Row) (new : X) (xs : List X) → P new → AllByRecursion P xs
    → AllByRecursion P (put_in keys row_of new xs)
put_in_all P keys row_of new [] h all = (h, tt)
put_in_all P keys row_of new (x ∷ xs) h all = search (rules, put_in_all P keys row_of new xs h all.1)

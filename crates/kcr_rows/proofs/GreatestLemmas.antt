-- A query for the row with the greatest number, among those that pass a test.
use Rattle.kcr_rows.proofs.Common.{◌≡◌, inl, inr, ℕ, ◌≤◌, ◌^◌, nat_le, pos, length, List, [], ◌∷◌, map, filter, take, slice_index_or, true, false}
use Rattle.kcr_rows.proofs.Common.{Bool, suc, Ordering, is_lt, IsSorted, refl, sym, ap, subst, ◌∙◌, arith, rules, ⊤, AllByRecursion, list_all}
use Rattle.kcr_rows.proofs.Common.{IsPermutation, is_gt, int_cmp, ordering_reverse, IsTotalOrder, upto, nat_tests, nil_from_length, length-map}
use Rattle.kcr_rows.proofs.Common.{IsPermutation-map, IsPermutation-sym, IsPermutation-trans, length_permutation, Null, Int, Row, column, value_cmp}
use Rattle.kcr_rows.proofs.Common.{Term, col, holds, Query, IsAnswer, Output, output, output_cmp, overlay, Binary, Select, Schema, State}
use Rattle.kcr_rows.proofs.Common.{output_cmp_total, value_cmp-Int, then-Equal, all_has, all_from, mapped_has, filter-map, IsPermutation-filter}
use Rattle.kcr_rows.proofs.Common.{cells, TableLayout, TreeHolds, Means}
use Rattle.sqlite.specs.State.{Shown}
use Rattle.kcr_rows.specs.Greatest.{IsGreatest}
use Rattle.sqlite_resolve.specs.Compile.{compiled}
use Rattle.kcr_rows.proofs.{TextLemmas.reads_shown, ReadLemmas.asking, ReadLemmas.kept_cells}
use Rattle.kcr_rows.proofs.{TableLemmas.same_values, TableLemmas.each_is, PutLemmas.mapped_from, PutLemmas.has_same}

-- the query on one table that shows the row with the greatest number in a column, counted from 0
abbrev pub greatest : TableLayout → List Term → List Term → ℕ → Query
greatest place test project at =
    asking place.tree test project ((col 1 (slice_index_or place.at at 0), record { collation = Binary; descending = true }) ∷ []) (pos 1)

-- a row with the number by which the answer is sorted
abbrev pub with_number : ℕ → Row → Output
with_number at row = (column row at ∷ [], row)

-- what a sorted list has after its head is not below it
module _ {X : Type 0} (cmp : X → X → Ordering) (total : IsTotalOrder cmp) where
  turned : (o : Ordering) → is_lt o ≡ false → is_gt (ordering_reverse o) ≡ false
  turned o h = grind arith

  not_above : (x : X) (ys : List X) → IsSorted cmp (x ∷ ys) → AllByRecursion (λ y. is_gt (cmp x y) ≡ false) ys
  not_above x [] sorted = tt
  not_above x (y ∷ ys) sorted =
      let first : is_gt (cmp x y) ≡ false = ap is_gt (total.antisymm x y) ∙ turned _ (sorted 0 x (omega arith) (omega arith)) in
      let tail : IsSorted cmp (y ∷ ys) = λ k d p q. rw Rattle.std.proofs.Common.add-one
      (rw Rattle.std.proofs.Common.add-one at (sorted (suc k) d (omega arith) (omega arith))) in
      (first, all_from _ ys (λ z h. upto total x y z first (all_has _ ys z (not_above y ys tail) h)))

number_order : (a b : ℕ) → is_gt (int_cmp (pos b) (pos a)) ≡ false → b ≤ a
number_order a b h = grind (arith, nat_tests)

-- if no image is there, no element is
pub none_from : {X Y : Type 0} (f : X → Y) (xs : List X) → map f xs ≡ [] → xs ≡ []
none_from f xs h = nil_from_length xs (sym (length-map xs f) ∙ ap length h)

module _ (place : TableLayout) (schema : Schema) (sql : List ℕ) (params : Row) (test project : List Term) (at : ℕ) (names : List (List ℕ)) (passes : Row → Bool)
    (is : Means (Select (record { lets = []; body = greatest place test project at }) names) (compiled schema sql))
    (shows : (r : Row) → output (greatest place test project at) (params ∷ r ∷ []) ≡ with_number at (cells place r))
    (tests : (r : Row) → list_all (holds (params ∷ r ∷ [])) test ≡ passes (cells place r))
    (low : nat_le (2 ^ 31) place.tree ≡ false)
    {X : Type 0} (row_of : X → Row) (one : (x y : X) → row_of x ≡ row_of y → x ≡ y) (number : X → ℕ)
    (numbered : (x : X) → column (row_of x) at ≡ Int (pos (number x))) where
  abbrev q : Query
  q = greatest place test project at

  abbrev out : Row → Output
  out = with_number at

  compares : (a b : Row) → output_cmp q (out a) (out b) ≡ value_cmp (column b at) (column a at)
  compares a b = then-Equal (value_cmp (column b at) (column a at))

  below : (e x : X) → is_gt (output_cmp q (out (row_of e)) (out (row_of x))) ≡ false → number x ≤ number e
  below e x h = search (rules, value_cmp-Int, number_order, compares)

  number_same : (x y : X) → out (row_of x) ≡ out (row_of y) → number x ≤ number y
  number_same x y h = let same = ap number (one x y (ap (λ (p : Output). p.1) h)) in omega (arith, same)

  chosen : (ks xs : List X) (ordered : List Output) → IsPermutation (map out (map row_of ks)) ordered → IsSorted (output_cmp q) ordered
      → map row_of xs ≡ take 1 (map (λ (o : Output). o.1) ordered) → IsGreatest number ks xs
  chosen ks xs [] same sorted shown =
      inl (none_from row_of ks (none_from out _ (nil_from_length _ (sym (length_permutation _ _ same)))), none_from row_of xs shown)
  chosen ks xs (o ∷ os) same sorted shown =
      let there = mapped_from out (map row_of ks) o (has_same _ _ o (IsPermutation-sym _ _ same) (inl refl)) in
      let e = mapped_from row_of ks there.0 there.1 in
      let found : o ≡ out (row_of e.0) = there.2 ∙ ap out e.2 in
      let only : xs ≡ e.0
      ∷ [] = same_values row_of (λ _. ⊤) (λ _. ⊤) (λ x y _ _. one x y) xs (e.0 ∷ []) (each_is xs) (tt, tt) (shown ∙ ap (λ (p : Output). p.1 ∷ []) found) in
      let lower = not_above (output_cmp q) (output_cmp_total q) o os sorted in
      inr (
        e.0,
        only,
        e.1,
        all_from _ ks (λ x h. elim (has_same _ _ (out (row_of x)) same (mapped_has out _ _ (mapped_has row_of ks x h))) [
          | inl first ↦ number_same x e.0 (first ∙ found)
          | inr later ↦ below e.0 x (subst (λ p. is_gt (output_cmp q p (out (row_of x))) ≡ false) found (all_has _ os (out (row_of x)) lower later))
        ]),
      )

  -- of the rows that pass the query shows one with the greatest number, or none if there is none
  pub shown_greatest : (old new : State) (xs : List X) → old.now.schema ≡ schema → Shown sql params old new (map row_of xs) → (ys : List X)
      → TreeHolds place old.now.trees (map row_of ys)
      → IsGreatest number (filter (λ y. passes (row_of y)) ys) xs
  shown_greatest old new xs has h ys keeps =
      let read = reads_shown schema sql _ is params old new has (map row_of xs) h in
      let a : IsAnswer q (overlay old.now.trees []) params (map row_of xs) = read.answer Null in
      let entries = old.now.trees place.tree in
      let shown = cells place in
      let outs : a.kept ≡ map out (filter passes (map shown entries)) =
      kept_cells place test project _ (pos 1) params passes out shows tests low old.now.trees (map row_of xs) a in
      let passed : IsPermutation (map row_of (filter (λ y. passes (row_of y)) ys)) (filter passes (map shown entries)) =
      subst (λ l. IsPermutation l (filter passes (map shown entries))) (filter-map passes row_of ys) (IsPermutation-filter passes _ _ keeps.same) in
      let perm : IsPermutation (map out (map row_of (filter (λ y. passes (row_of y)) ys))) a.ordered =
      IsPermutation-trans _ _ _ (rw outs (IsPermutation-map out _ _ passed)) a.same in
      chosen (filter (λ y. passes (row_of y)) ys) xs a.ordered perm a.sorted a.shown

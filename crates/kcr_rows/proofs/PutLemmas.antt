-- A row that is put under its key, in the list and in the tree.
use Rattle.kcr_rows.proofs.Common.{◌≡◌, ℕ, not, Bool, true, false, List, [], ◌∷◌, map, filter, refl, sym, ap, subst, ◌∙◌, Ordering, Less, Equal}
use Rattle.kcr_rows.proofs.Common.{Greater, IsTrue, true≢false, rules, AllByRecursion, is_eq, match_ordering, ordering_reverse, IsTotalOrder}
use Rattle.kcr_rows.proofs.Common.{IsPermutation, or_parts, IsPermutation-refl, IsPermutation-map, IsPermutation-sym, IsPermutation-trans}
use Rattle.kcr_rows.proofs.Common.{IsPermutation-cons, IsPermutation-middle, Row, value_cmp, Trees, IsAscending, rowid, put_row, is_int, IsShaped}
use Rattle.kcr_rows.proofs.Common.{filter-map, filter_all, all_weaker, all-permutation, IsPermutation-filter, Has, all_has, all_from, has_mapped}
use Rattle.kcr_rows.proofs.Common.{cells, by_key, is_full, TableLayout, TreeHolds}
use Rattle.sqlite_trees.specs.declared.store.Shape.TheVariants as shape
use Rattle.sqlite_trees.proofs.TreeLemmas.{above, IsShaped-put_row, IsShaped-filter}
use Rattle.sqlite_rules.specs.Edit.{is_taken}
use Rattle.kcr_rows.proofs.SameLemmas.{key_total}

-- the rows with this one in its place, new or in place of the one that has its key
abbrev pub put : ℕ → Row → List Row → List Row
put keys new [] = new ∷ []
put keys new (row ∷ rows) =
    match_ordering (by_key keys row new) (row ∷ put keys new rows) (new ∷ rows) (new ∷ row ∷ rows)

module _ (keys : ℕ) (new : Row) where
  abbrev Put : Ordering → Row → List Row → List Row
  Put o row rows = match_ordering o (row ∷ put keys new rows) (new ∷ rows) (new ∷ row ∷ rows)

  abbrev is_other : Row → Bool
  is_other row = not (is_eq (by_key keys row new))

  total : IsTotalOrder (by_key keys)
  total = key_total keys

  -- what is above the new row has another key
  other_above : (row : Row) → by_key keys new row ≡ Less → is_other row ≡ true
  other_above row h = ap (λ o. not (is_eq o)) (total.antisymm row new ∙ ap ordering_reverse h)

  -- a row put among rising rows joins those of other keys
  pub put_same : (rows : List Row) → IsAscending (λ a b. by_key keys a b ≡ Less) rows → IsPermutation (put keys new rows) (new ∷ filter is_other rows)
  put_same [] up = IsPermutation-refl _
  put_same (row ∷ rows) up = go (by_key keys row new) refl (put_same rows up.1)
    where
      go : (o : Ordering) → by_key keys row new ≡ o → IsPermutation (put keys new rows) (new ∷ filter is_other rows)
          → IsPermutation (Put o row rows) (new ∷ filter is_other (row ∷ rows))
      go Less e more = rw e (IsPermutation-trans _ _ _ (IsPermutation-cons row _ _ more) (IsPermutation-middle (row ∷ []) new _))
      go Equal e more = rw
          (e, filter_all is_other rows (all_weaker _ (λ y. is_other y ≡ true) (λ y h. other_above y (sym (total.congr row new y e) ∙ h)) rows up.0))
          (IsPermutation-refl _)
      go Greater e more =
          let first = above total _ _ e in
          rw (e, filter_all is_other rows (all_weaker _ (λ y. is_other y ≡ true) (λ y h. other_above y (total.trans new row y first h)) rows up.0))
          (IsPermutation-refl _)

  all-put : (P : Row → Type 0) (rows : List Row) → P new → AllByRecursion P rows → AllByRecursion P (put keys new rows)
  all-put P [] h all = (h, tt)
  all-put P (row ∷ rows) h all = search (rules, all-put P rows h all.1)

  -- rows that rise by their keys still do with a row that is put
  pub put_rising : (rows : List Row) → IsAscending (λ a b. by_key keys a b ≡ Less) rows → IsAscending (λ a b. by_key keys a b ≡ Less) (put keys new rows)
  put_rising [] up = (tt, tt)
  put_rising (row ∷ rows) up = search (rules, all-put, all_weaker, total, above, put_rising rows up.1)

-- a row whose rowid no other has is added to the rows, up to their order
pub put_row_same : (new : Row) (rows : List Row) → is_taken rows new ≡ false → IsPermutation (new ∷ rows) (put_row new rows)
put_row_same new [] free = IsPermutation-refl _
put_row_same new (r ∷ rows) free = go (value_cmp (rowid r) (rowid new)) (or_parts _ _ free).0 (put_row_same new rows (or_parts _ _ free).1)
  where
    go : (o : Ordering) → is_eq o ≡ false → IsPermutation (new ∷ rows) (put_row new rows)
        → IsPermutation (new ∷ r ∷ rows) (match_ordering o (r ∷ put_row new rows) (new ∷ rows) (new ∷ r ∷ rows))
    go Less e more = IsPermutation-trans _ _ _ (IsPermutation-sym _ _ (IsPermutation-middle (r ∷ []) new rows)) (IsPermutation-cons r _ _ more)
    go Equal e more = absurd (true≢false e)
    go Greater e more = IsPermutation-refl _

-- a member of a mapped list is what some member is mapped to
pub mapped_from : {X Y : Type 0} (f : X → Y) (xs : List X) (y : Y) → Has (map f xs) y → (x : X) × Has xs x × (y ≡ f x)
mapped_from = has_mapped

-- the members of a list are those of a permutation of it
pub has_same : {X : Type 0} (xs ys : List X) (x : X) → IsPermutation xs ys → Has xs x → Has ys x
has_same xs ys x same h = all_has (Has ys) xs x (all-permutation (Has ys) ys xs (IsPermutation-sym _ _ same) (all_from (Has ys) ys (λ y there. there))) h

-- the rows of another key are left, and the new one goes in if its rowid is free
module _ (place : TableLayout) (db : Trees) (new : Row) (values : Row) (rest : List Row) (shaped : IsShaped shape.Table (db place.tree)) where
  abbrev others : List Row
  others = filter (λ r. not (is_eq (by_key place.keys (cells place r) values))) (db place.tree)

  -- the tree then holds the rows with the new one put under its key
  pub keeps_put : rest ≡ others → (rows : List Row) → TreeHolds place db rows → (next : Trees) → is_full place.keys values ≡ true → cells place new ≡ values
      → IsTrue (is_int (rowid new))
      → is_taken rest new ≡ false → next place.tree ≡ put_row new rest → TreeHolds place next (put place.keys values rows)
  keeps_put left_is rows keeps next whole shown keyed free is =
      let shows = cells place in
      let now : next place.tree ≡ put_row new others = is ∙ ap (put_row new) left_is in
      let fresh : is_taken others new ≡ false = subst (λ l. is_taken l new ≡ false) left_is free in
      let apart : IsPermutation (filter (is_other place.keys values) rows) (map shows others) =
      rw filter-map at (IsPermutation-filter (is_other place.keys values) _ _ keeps.same) in
      let with_new : IsPermutation (values ∷ filter (is_other place.keys values) rows) (map shows (new ∷ others)) =
      subst (λ v. IsPermutation (values ∷ filter (is_other place.keys values) rows) (v ∷ map shows others)) (sym shown) (IsPermutation-cons values _ _ apart) in
      record {
        same = rw now (IsPermutation-trans _ _ _ (put_same place.keys values rows keeps.rising)
            (IsPermutation-trans _ _ _ with_new (IsPermutation-map shows _ _ (put_row_same new others fresh))));
        full = all-put place.keys values _ rows whole keeps.full;
        rising = put_rising place.keys values rows keeps.rising;
        shaped = rw now (IsShaped-put_row new others keyed
            (IsShaped-filter shape.Table (λ r. not (is_eq (by_key place.keys (cells place r) values))) (db place.tree) shaped));
      }

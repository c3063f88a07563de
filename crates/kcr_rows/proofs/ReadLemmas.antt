-- A reading of a table gives the rows that the tree keeps.
use Rattle.kcr_rows.proofs.Common.{◌≡◌, ℕ, ℤ, ◌^◌, pos, negsuc, Bool, false, cond, List, [], ◌∷◌, map, filter, flat_map, take, nat_le, None, refl}
use Rattle.kcr_rows.proofs.Common.{sym, ap, subst, ◌∙◌, Less, rules, list_all, IsPermutation, map-id, IsPermutation-map, IsPermutation-trans, Int}
use Rattle.kcr_rows.proofs.Common.{Row, Term, lit, holds, Query, inner, end, IsAnswer, Output, output, output_cmp, Trees, IsAscending, Key}
use Rattle.kcr_rows.proofs.Common.{output_cmp_total, map-map, filter-map, IsPermutation-filter, ascending-filter, ascending-map, ascending_weaker}
use Rattle.kcr_rows.proofs.Common.{overlay, cells, by_key, TableLayout, TreeHolds}
use Rattle.sqlite_keyed.proofs.SortLemmas.{sorted_unique}
use Rattle.kcr_base.proofs.ListLemmas.{map-same}

-- the query on one table that shows these terms, in this order, of at most N rows, or of all if N is negative
abbrev pub asking : ℕ → List Term → List Term → List (Term × Key) → ℤ → Query
asking tree test project order limit = record {
  from = inner tree end;
  filter = test;
  group = None;
  project = project;
  distinct = false;
  collations = [];
  order = order;
  limit = lit (Int limit);
  offset = lit (Int (pos 0));
}

-- the query that shows them of all rows
abbrev pub reading : ℕ → List Term → List Term → List (Term × Key) → Query
reading tree test project order = asking tree test project order (negsuc 0)

-- a row with the key by which the answer is sorted
abbrev pub with_key : ℕ → Row → Output
with_key keys row = (take keys row, row)

-- the images of those that pass, one by one, are the images of the filtered list
pub matched : {X Y : Type 0} (p : X → Bool) (f : X → Y) (xs : List X) → flat_map (λ x. cond (p x) (f x ∷ []) []) xs ≡ map f (filter p xs)
matched p f [] = refl
matched p f (x ∷ xs) = search (rules, matched p f xs)

-- what a query keeps before it sorts: what it makes of each entry that passes its test
pub kept_from : (tree : ℕ) (test project : List Term) (order : List (Term × Key)) (limit : ℤ) (params : Row)
    → nat_le (2 ^ 31) tree ≡ false → (db : Trees) (rows : List Row)
    → (a : IsAnswer (asking tree test project order limit) (overlay db []) params rows)
    → a.kept ≡ map (λ r. output (asking tree test project order limit) (params ∷ r ∷ [])) (filter (λ r. list_all (holds (params ∷ r ∷ [])) test) (db tree))
kept_from tree test project order limit params low db rows a =
    let p = λ (r : Row). list_all (holds (params ∷ r ∷ [])) test in
    let over : overlay db [] tree ≡ db tree = rw low in
    a.distinct ∙ ap (map (output (asking tree test project order limit)))
    (a.grouped ∙ matched p (λ r. params ∷ r ∷ []) (overlay db [] tree) ∙ ap (λ l. map (λ r. params ∷ r ∷ []) (filter p l)) over)
    ∙ map-map (output (asking tree test project order limit)) (λ r. params ∷ r ∷ []) (filter p (db tree))

-- the same if the test and what is made of an entry are told of its cells
pub kept_cells : (place : TableLayout) (test project : List Term) (order : List (Term × Key)) (limit : ℤ) (params : Row) (passes : Row → Bool) (out : Row → Output)
    → ((r : Row) → output (asking place.tree test project order limit) (params ∷ r ∷ []) ≡ out (cells place r))
    → ((r : Row) → list_all (holds (params ∷ r ∷ [])) test ≡ passes (cells place r)) → nat_le (2 ^ 31) place.tree ≡ false
    → (db : Trees) (rows : List Row) → (a : IsAnswer (asking place.tree test project order limit) (overlay db []) params rows)
    → a.kept ≡ map out (filter passes (map (cells place) (db place.tree)))
kept_cells place test project order limit params passes out shows tests low db rows a =
    let shown = cells place in
    kept_from place.tree test project order limit params low db rows a
    ∙ map-same _ (λ r. out (shown r)) _ shows
    ∙ ap (map (λ r. out (shown r))) (λ i. filter (λ r. tests r i) (db place.tree))
    ∙ sym (map-map out shown (filter (λ r. passes (shown r)) (db place.tree)))
    ∙ ap (map out) (sym (filter-map passes shown (db place.tree)))

module _ (place : TableLayout) (test : List Term) (project : List Term) (order : List (Term × Key)) (params : Row) (passes : Row → Bool)
    (shows : (r : Row) → output (reading place.tree test project order) (params ∷ r ∷ []) ≡ with_key place.keys (cells place r))
    (tests : (r : Row) → list_all (holds (params ∷ r ∷ [])) test ≡ passes (cells place r))
    (sorts : (a b : Row) → output_cmp (reading place.tree test project order) (with_key place.keys a) (with_key place.keys b) ≡ by_key place.keys a b)
    (low : nat_le (2 ^ 31) place.tree ≡ false) where
  abbrev q : Query
  q = reading place.tree test project order

  unkeyed : (rows : List Row) → map (λ (o : Output). o.1) (map (with_key place.keys) rows) ≡ rows
  unkeyed rows = map-map (λ (o : Output). o.1) (with_key place.keys) rows ∙ map-id rows

  outs : (db : Trees) (rows : List Row) → (a : IsAnswer q (overlay db []) params rows)
      → a.kept ≡ map (with_key place.keys) (filter passes (map (cells place) (db place.tree)))
  outs = kept_cells place test project order (negsuc 0) params passes (with_key place.keys) shows tests low

  -- the answer is the rows that pass, in the order of their keys
  pub reads_rows : (db : Trees) (rows kept : List Row) → TreeHolds place db kept → IsAnswer q (overlay db []) params rows → rows ≡ filter passes kept
  reads_rows db rows kept keeps a =
      let same = IsPermutation-map (with_key place.keys) _ _ (IsPermutation-filter passes _ _ keeps.same) in
      let strict : IsAscending (λ x y. output_cmp q x y ≡ Less) (map (with_key place.keys) (filter passes kept)) =
      search (rules, ascending-map, ascending_weaker, ascending-filter) in
      let ordered : a.ordered ≡ map (with_key place.keys) (filter passes kept) =
      sorted_unique (output_cmp q) (output_cmp_total q) _ _ strict
      (IsPermutation-trans _ _ _ (rw (outs db rows a) same) a.same) a.sorted in
      a.shown ∙ ap (map (λ (o : Output). o.1)) ordered ∙ unkeyed (filter passes kept)

  -- whatever the tree has, the answer is its rows that pass
  pub reads_exact : (db : Trees) (rows : List Row) → IsAnswer q (overlay db []) params rows
      → IsPermutation (filter passes (map (cells place) (db place.tree))) rows
  reads_exact db rows a =
      let same : IsPermutation (map (λ (o : Output). o.1) a.kept) (map (λ (o : Output). o.1) a.ordered) = IsPermutation-map (λ (o : Output). o.1) _ _ a.same in
      let firsts = ap (map (λ (o : Output). o.1)) (outs db rows a) ∙ unkeyed (filter passes (map (cells place) (db place.tree))) in
      subst (λ l. IsPermutation l rows) firsts (subst (IsPermutation (map (λ (o : Output). o.1) a.kept)) (sym a.shown) same)

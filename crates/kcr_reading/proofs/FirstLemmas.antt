-- A reading of a table that gives the first rows alone, and what is the last of them.
use Rattle.kcr_reading.proofs.Common.{◌≡◌, ℕ, zero, suc, List, [], ◌∷◌, ◌++◌, map, filter, take, drop, length, slice_get, Option, Some, None, ◌<◌}
use Rattle.kcr_reading.proofs.Common.{arith, pos, length-append, refl, sym, ap, subst, ◌∙◌, Less, AllByRecursion, option_to_list, IsPermutation}
use Rattle.kcr_reading.proofs.Common.{map-id, take-map, take-append-drop, nil_from_length, length-take, IsPermutation-map, IsPermutation-trans}
use Rattle.kcr_reading.proofs.Common.{IsPermutation-sym, Null, Row, Query, IsAnswer, Output, output_cmp, Trees, IsAscending, State, Shown, map-map}
use Rattle.kcr_reading.proofs.Common.{filter-map, IsPermutation-filter, ascending-map, ascending_weaker, all-permutation, all-filter, sorted_unique}
use Rattle.kcr_reading.proofs.Common.{cells, TableLayout, TreeHolds, reads_shown, same_values, register_schema, Choice, ShowsSome, Begin}
use Rattle.sqlite.specs.Program.{overlay}
use Rattle.sqlite_sql.proofs.QueryLemmas.{output_cmp_total}
use Rattle.kcr_rows.proofs.ReadLemmas.{asking, kept_cells}

-- what holds of all elements holds of the first ones
pub all_take : {X : Type 0} (P : X → Type 0) (count : ℕ) (xs : List X) → AllByRecursion P xs → AllByRecursion P (take count xs)
all_take P zero xs all = tt
all_take P (suc count) [] all = tt
all_take P (suc count) (x ∷ xs) all = (all.0, all_take P count xs all.1)

-- the first elements of a list that ascends ascend too
pub ascending_take : {X : Type 0} (R : X → X → Type 0) (count : ℕ) (xs : List X) → IsAscending R xs → IsAscending R (take count xs)
ascending_take R zero xs up = tt
ascending_take R (suc count) [] up = tt
ascending_take R (suc count) (x ∷ xs) up = (all_take (R x) count xs up.0, ascending_take R count xs up.1)

module _ (count : ℕ) (sql : List ℕ) (place : TableLayout) (params : Row) (choice : Choice) (s : ShowsSome count sql place params choice) where
  abbrev q : Query
  q = asking place.tree s.test s.project s.order (pos count)

  abbrev ranked : Row → Output
  ranked r = (choice.rank r, r)

  first_rows : (db : Trees) (rows those : List Row) → IsPermutation (filter choice.passes (map (cells place) (db place.tree))) those
      → IsAscending (λ a b. choice.compare a b ≡ Less) those
      → IsAnswer q (overlay db []) params rows → rows ≡ take count those
  first_rows db rows those same up a =
      let kept : a.kept ≡ map ranked (filter choice.passes (map (cells place) (db place.tree))) =
      kept_cells place s.test s.project s.order (pos count) params choice.passes ranked
      (λ r i. (s.is i).shows r) (λ r i. (s.is i).passes r) (λ i. (s.is i).is_far) db rows a in
      let turned = IsPermutation-map ranked _ _ (IsPermutation-sym _ _ same) in
      let strict : IsAscending (λ x y. output_cmp q x y ≡ Less) (map ranked those) =
      ascending-map (λ x y. output_cmp q x y ≡ Less) ranked those
      (ascending_weaker _ (λ x y. output_cmp q (ranked x) (ranked y) ≡ Less) (λ x y h. (λ i. (s.is i).compares x y) ∙ h) _ up) in
      let ordered : a.ordered ≡ map ranked those =
      sorted_unique (output_cmp q) (output_cmp_total q) _ _ strict
      (IsPermutation-trans _ _ _ (subst (IsPermutation (map ranked those)) (sym kept) turned) a.same) a.sorted in
      a.shown ∙ ap (λ l. take count (map (λ (o : Output). o.1) l)) ordered ∙ ap (take count) (map-map (λ (o : Output). o.1) ranked those ∙ map-id those)

  module _ {X : Type 0} (row_of : X → Row) where
    -- the values that the text shows are the first N of those that pass, in their order
    pub shown_first : (IsRead IsStored : X → Type 0) → ((x y : X) → IsRead x → IsStored y → row_of x ≡ row_of y → x ≡ y) → (old new : State) (xs : List X)
        → old.now.schema ≡ register_schema
        → Shown sql params old new (map row_of xs) → AllByRecursion IsRead xs → (ys : List X) → AllByRecursion IsStored ys
        → TreeHolds place old.now.trees (map row_of ys)
        → (those : List X) → IsPermutation (filter (λ x. choice.passes (row_of x)) ys) those
        → IsAscending (λ a b. choice.compare (row_of a) (row_of b) ≡ Less) those → xs ≡ take count those
    shown_first IsRead IsStored one old new xs has h read ys held keeps those same up =
        let it = reads_shown register_schema sql _ s.means params old new has (map row_of xs) h in
        let stored : IsPermutation (filter choice.passes (map (cells place) (old.now.trees place.tree))) (map row_of those) =
        IsPermutation-trans _ _ _ (IsPermutation-sym _ _ (IsPermutation-filter choice.passes _ _ keeps.same))
        (subst (λ l. IsPermutation l (map row_of those)) (sym (filter-map choice.passes row_of ys)) (IsPermutation-map row_of _ _ same)) in
        let rows = first_rows old.now.trees (map row_of xs) (map row_of those) stored (ascending-map (λ a b. choice.compare a b ≡ Less) row_of those up)
        (it.answer Null) in
        let known : AllByRecursion IsStored those = all-permutation IsStored _ _ same (all-filter IsStored (λ x. choice.passes (row_of x)) ys held) in
        same_values row_of IsRead IsStored one xs (take count those) read (all_take IsStored count those known) (rows ∙ take-map row_of count those)

-- some of the first of these are a prefix of them
pub begin_take : {X : Type 0} (count : ℕ) → 0 < count → (all rows : List X) → rows ≡ take count all → Begin all rows
begin_take count low all rows is = record {
  rest = drop count all;
  first = sym (take-append-drop count all) ∙ ap (λ l. l ++ drop count all) (sym is);
  some = λ none. nil_from_length all (omega (arith, simp length-take at (ap length (sym is ∙ none))));
}

-- what the last of at most one is
pub popped : {X : Type 0} (xs rest those : List X) (found : Option X) → xs ≡ take 1 those → xs ≡ rest ++ option_to_list found → (found ≡ None → xs ≡ [])
    → found ≡ slice_get those 0
popped xs rest [] None is split none = refl
popped xs rest (y ∷ those) None is split none = absurd (let h : y ∷ [] ≡ [] = sym is ∙ none refl in cc)
popped xs rest [] (Some x) is split none = absurd (omega (arith, length-append rest (x ∷ []), ap length (sym is ∙ split)))
popped xs [] (y ∷ those) (Some x) is split none = let h : y ∷ [] ≡ x ∷ [] = sym is ∙ split in cc
popped xs (r ∷ rest) (y ∷ those) (Some x) is split none = absurd (omega (arith, length-append rest (x ∷ []), ap length (sym is ∙ split)))

-- none if there is no room for one
pub no_rows : {X : Type 0} (n : ℕ) (xs : List X) → length xs ≡ n → (0 < n → ⊥) → xs ≡ []
no_rows n xs same none = nil_from_length xs (omega arith)

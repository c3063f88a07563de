-- What a text shows of a table, from what is computed of the text.
use Rattle.kcr_tables.proofs.Common.{◌≡◌, ℕ, pos, Bool, List, [], map, filter, sym, ap, subst, ◌∙◌, IsPermutation, IfOk, Result, rules}
use Rattle.kcr_tables.proofs.Common.{AllByRecursion, map-id, IsPermutation-map, Null, Row, overlay, Output, IsAnswer, State, Shown, understood}
use Rattle.kcr_tables.proofs.Common.{IsPlain, map-map, Refusal, Selection, Matching, if_ok, filter_as, kept_cells, is_plain, reads_shown, IsGreatest}
use Rattle.kcr_tables.proofs.Common.{TableLayout, TreeHolds, register_schema, rows_at, IsOneOf, Which, Ordered, Unordered, Last, Shows, ShowsRows}
use Rattle.kcr_tables.proofs.Common.{SelectsLast, SelectsWhich, Query, TableSpec, Vec, Global, Includes, IsPermutation-same}
use Rattle.kcr_rows.proofs.GreatestLemmas.{greatest, with_number, shown_greatest}
use Rattle.kcr_tables.proofs.{ExactLemmas.one_of, NamedLemmas.passing}
use Rattle.kcr_tables.proofs.StatementLemmas.{rows_shown, every_row, passing_rows, passing_values}

-- whatever the tree has, the row that is shown is one of its rows that pass
one_shown : {sql : List ℕ} {place : TableLayout} {params : Row} {passes : Row → Bool} {at : ℕ} (s : SelectsLast sql place params passes at)
    → (old new : State) (rows : List Row) → old.now.schema ≡ register_schema → Shown sql params old new rows
    → IsOneOf (filter passes (rows_at place old.now.trees)) rows
one_shown {sql} {place} {params} {passes} {at} s old new rows has h =
    let read = reads_shown register_schema sql _ s.means params old new has rows h in
    let a : IsAnswer (greatest place s.test s.project at) (overlay old.now.trees []) params rows = read.answer Null in
    let out = with_number at in
    let second = λ (o : Output). o.1 in
    let passed = filter passes (rows_at place old.now.trees) in
    let kept : a.kept ≡ map out passed = kept_cells place s.test s.project _ (pos 1) params passes out
    (λ r i. (s.is i).shows r) (λ r i. (s.is i).passes r) (λ i. (s.is i).is_far) old.now.trees rows a in
    let firsts : map second a.kept ≡ passed = ap (map second) kept ∙ map-map second out passed ∙ map-id passed in
    one_of passed (map second a.ordered) (subst (λ l. IsPermutation l (map second a.ordered)) firsts (IsPermutation-map second _ _ a.same)) rows a.shown

module _ {X : Type 0} (row_of : X → Row) (sql : List ℕ) (place : TableLayout) (params : Row) (passes : Row → Bool) where
  -- the text changes nothing
  pub changes_nothing : (which : Which X) → SelectsWhich row_of which sql place params passes → IsPlain (understood register_schema sql)
  changes_nothing Ordered s = is_plain register_schema sql _ s.means
  changes_nothing Unordered s = is_plain register_schema sql _ s.1.means
  changes_nothing (Last number) s = is_plain register_schema sql _ s.1.1.means

  -- of the rows that a table has, whatever these are, it shows these
  pub rows_told : (which : Which X) → SelectsWhich row_of which sql place params passes → (old new : State) (xs : List X) → old.now.schema ≡ register_schema
      → Shown sql params old new (map row_of xs) → ShowsRows which (filter passes (rows_at place old.now.trees)) (map row_of xs)
  rows_told Ordered s old new xs has h = every_row sql place params passes s row_of old new xs has h
  rows_told Unordered s old new xs has h = passing_rows s.1 old new (map row_of xs) has h
  rows_told (Last number) s old new xs has h = one_shown s.1.1 old new (map row_of xs) has h

  -- and of the values that it holds
  pub values_told : (IsRead IsStored : X → Type 0) → ((x y : X) → IsRead x → IsStored y → row_of x ≡ row_of y → x ≡ y)
      → (test : X → Bool) → ((x : X) → passes (row_of x) ≡ test x) → (which : Which X) → SelectsWhich row_of which sql place params passes
      → (old new : State) (xs ys : List X) → old.now.schema ≡ register_schema → Shown sql params old new (map row_of xs) → AllByRecursion IsRead xs
      → AllByRecursion IsStored ys → TreeHolds place old.now.trees (map row_of ys) → Shows which (filter test ys) xs
  values_told IsRead IsStored one test same Ordered s old new xs ys has h read stored keeps = search (rules, rows_shown)
  values_told IsRead IsStored one test same Unordered s old new xs ys has h read stored keeps =
      rw (filter_as (λ x. passes (row_of x)) test same ys) at (passing_values s.1 row_of (λ x y _ _. s.0 x y) old new xs ys has h keeps)
  values_told IsRead IsStored one test same (Last number) s old new xs ys has h read stored keeps =
      let it = s.1.1 in
      subst (λ l. IsGreatest number l xs) (filter_as (λ x. passes (row_of x)) test same ys)
      (shown_greatest place register_schema sql params it.test it.project s.1.0 it.names passes it.means
      (λ r i. (it.is i).shows r) (λ r i. (it.is i).passes r) (λ i. (it.is i).is_far) row_of s.0 number s.1.2 old new xs has h ys keeps)

-- a text, by what it shows
abbrev pub query : {X : Type 0} {table : TableSpec X} {row_of : X → Row} (sql : List ℕ) (params : Row) (which : Which X) (test : X → Bool)
    (passes : Row → Bool) → ((x : X) → passes (row_of x) ≡ test x) → SelectsWhich row_of which sql table.place params passes → Query table row_of
query sql params which test passes same selects =
    record { sql = sql; params = params; which = which; test = test; passes = passes; same = same; selects = selects }

-- what is told of the rows under a filter, if that is asked for
pub if_asked : {F V : Type 0} (P : Selection F → V → Type 0) {Q : V → Type 0} (filter : F) {asked : Selection F} {inner : F} → asked ≡ Matching inner
    → inner ≡ filter → ((v : V) → Q v → P (Matching filter) v) → (r : Result V Refusal) → IfOk r Q → IfOk r (P asked)
if_asked {F} P filter is same f r told = subst (λ (q : Selection F). IfOk r (P q)) (ap Matching (sym same) ∙ sym is) (if_ok _ _ f r told)

module _ {X K : Type 0} (is_under : K → X → Bool) (xs : List X) (key : K) {asked : Selection K} {inner : K}
    (is : asked ≡ Matching inner) (same : inner ≡ key) (r : Result (Vec X Global) Refusal) where
  -- the rows under a key, in any order, are those asked for
  pub rows_asked : IfOk r (λ all. IsPermutation (filter (is_under key) xs) all.items) → IfOk r (λ all. Includes is_under asked xs all.items)
  rows_asked = if_asked (λ q all. Includes is_under q xs all.items) key is same (λ all. passing (is_under key) xs all.items) r

  -- and so are they in the order of the table
  pub found_asked : IfOk r (λ all. all.items ≡ filter (is_under key) xs) → IfOk r (λ all. Includes is_under asked xs all.items)
  found_asked told = rows_asked (if_ok _ _ (λ all e. IsPermutation-same _ _ (sym e)) r told)

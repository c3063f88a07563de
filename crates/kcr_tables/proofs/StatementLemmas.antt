-- What the statements of a table do, from what it proves of their texts.
use Rattle.kcr_tables.proofs.Common.{◌≡◌, ◌<◌, ℕ, negsuc, not, Bool, List, [], ◌∷◌, map, filter, length, get_or, set, Vec, Global, Result, IfOk, Ok}
use Rattle.kcr_tables.proofs.Common.{refl, sym, ap, subst, subst₂, ◌∙◌, IsPermutation, rules, AllByRecursion, list_all, swap, length-map, map-set}
use Rattle.kcr_tables.proofs.Common.{IsPermutation-map, IsPermutation-keeps, IsPermutation-refl, IsPermutation-swap, IsPermutation-trans, Null, Row}
use Rattle.kcr_tables.proofs.Common.{overlay, Output, IsAnswer, output, State, HasCleanDisk, Shown, Executes, clashes, plain, map-map, filter-map}
use Rattle.kcr_tables.proofs.Common.{IsPermutation-filter, Refusal, TableLayout, TreeHolds, cells, put_in, Changes, each_is, executes_insert}
use Rattle.kcr_tables.proofs.Common.{put_in_rows, same_values, shown_checked, shown_exact, Trees, put_in_all, if_ok, filter_as, asking, kept_from}
use Rattle.kcr_tables.proofs.Common.{reads_shown, Updated, executes_update, register_schema, rows_at, StoredTables, TreesHold, Holds, SelectsRows}
use Rattle.kcr_tables.proofs.Common.{InsertsRow, UpdatesRow, TableSpec, IsTable, with_put, SelectsUnordered}
use Rattle.std.specs.Bool.{⊤}
use Rattle.std.proofs.Math.ListN.{get_or-map}

module _ {X : Type 0} (sql : List ℕ) (place : TableLayout) (params : Row) (passes : Row → Bool) (s : SelectsRows sql place params passes) (row_of : X → Row) where
  -- the values that the query shows are the stored ones that pass the test
  pub rows_shown : (IsRead IsStored : X → Type 0) → ((x y : X) → IsRead x → IsStored y → row_of x ≡ row_of y → x ≡ y) → (test : X → Bool)
      → ((x : X) → passes (row_of x) ≡ test x)
      → (old new : State) (xs : List X) → old.now.schema ≡ register_schema → Shown sql params old new (map row_of xs) → AllByRecursion IsRead xs
      → (ys : List X) → AllByRecursion IsStored ys → TreeHolds place old.now.trees (map row_of ys) → xs ≡ filter test ys
  rows_shown IsRead IsStored one test same old new xs has h read ys stored keeps =
      shown_checked place register_schema sql params s.test s.project s.order s.names passes s.means
      (λ r i. (s.is i).shows r) (λ r i. (s.is i).passes r) (λ a b i. (s.is i).compares a b) (λ i. (s.is i).is_far) row_of IsRead IsStored
      one old new xs has h read ys stored keeps
      ∙ filter_as (λ y. passes (row_of y)) test same ys

  -- whatever the tree has, the values stand for its rows that pass
  pub every_row : (old new : State) (xs : List X) → old.now.schema ≡ register_schema → Shown sql params old new (map row_of xs)
      → IsPermutation (filter passes (map (cells place) (old.now.trees place.tree))) (map row_of xs)
  every_row old new xs has h =
      shown_exact place register_schema sql params s.test s.project s.order s.names passes s.means
      (λ r i. (s.is i).shows r) (λ r i. (s.is i).passes r) (λ a b i. (s.is i).compares a b) (λ i. (s.is i).is_far) row_of old new xs has h

-- the rows of values in whatever order are those of the same values in that order
in_row_order : {X : Type 0} (row_of : X → Row) (ys : List X) (rows : List Row) → IsPermutation (map row_of ys) rows
    → (xs : List X) × (rows ≡ map row_of xs) × IsPermutation ys xs
in_row_order {X} row_of ys rows p =
    IsPermutation-keeps (map row_of ys) (λ l. (xs : List X) × (l ≡ map row_of xs) × IsPermutation ys xs) (ys, refl, IsPermutation-refl ys)
    (λ l i j p q h. let long = ap length h.1 ∙ length-map h.0 row_of in (
      swap h.0 i j,
      ap (λ l. swap l i j) h.1 ∙ sym (map-swap h.0 i j),
      IsPermutation-trans ys h.0 _ h.2 (IsPermutation-swap h.0 _ i j (subst (λ n. i < n) long p) (subst (λ n. j < n) long q) refl),
    )) rows p
  where
    map-swap : (xs : List X) (i j : ℕ) → map row_of (swap xs i j) ≡ swap (map row_of xs) i j
    map-swap [] i j = refl
    map-swap (x ∷ xs) i j =
        let all = x ∷ xs in
        map-set row_of (set all i (get_or all j x)) j (get_or all i x)
        ∙ ap (λ l. set l j (row_of (get_or all i x))) (map-set row_of all i (get_or all j x))
        ∙ (λ t. set (set (map row_of all) i (sym (get_or-map row_of all j x) t)) j (sym (get_or-map row_of all i x) t))

-- a text whose order is of no account
module _ {place : TableLayout} {sql : List ℕ} {params : Row} {passes : Row → Bool} (s : SelectsUnordered sql place params passes) where
  -- whatever the tree has, its rows that pass are shown
  pub passing_rows : (old new : State) (rows : List Row) → old.now.schema ≡ register_schema → Shown sql params old new rows
      → IsPermutation (filter passes (rows_at place old.now.trees)) rows
  passing_rows old new rows has h =
      let query = asking place.tree s.test s.project s.order (negsuc 0) in
      let read = reads_shown register_schema sql _ s.means params old new has rows h in
      let a : IsAnswer query (overlay old.now.trees []) params rows = read.answer Null in
      let second = λ (o : Output). o.1 in
      let entries = old.now.trees place.tree in
      let shown : map second a.kept ≡ filter passes (rows_at place old.now.trees) =
      ap (map second) (kept_from place.tree s.test s.project s.order (negsuc 0) params (λ i. (s.is i).is_far) old.now.trees rows a)
      ∙ map-map second (λ r. output query (params ∷ r ∷ [])) _
      ∙ (λ i. map (λ r. (s.is i).shows r) (filter (λ r. (s.is i).passes r) entries))
      ∙ sym (filter-map passes (cells place) entries) in
      subst₂ IsPermutation shown (sym a.shown) (IsPermutation-map second _ _ a.same)

  -- if no two values stand for one row, the values are those whose rows pass
  pub passing_values : {X : Type 0} (row_of : X → Row) → ((x y : X) → ⊤ → ⊤ → row_of x ≡ row_of y → x ≡ y) → (old new : State) (xs ys : List X)
      → old.now.schema ≡ register_schema → Shown sql params old new (map row_of xs) → TreeHolds place old.now.trees (map row_of ys)
      → IsPermutation (filter (λ y. passes (row_of y)) ys) xs
  passing_values row_of one old new xs ys has h keeps =
      let mine = filter (λ y. passes (row_of y)) ys in
      let passed = rw (filter-map passes row_of ys) at (IsPermutation-filter passes _ _ keeps.same) in
      let found = in_row_order row_of mine (map row_of xs) (IsPermutation-trans _ _ _ passed (passing_rows old new (map row_of xs) has h)) in
      let same = same_values row_of (λ _. ⊤) (λ _. ⊤) one xs found.0 (each_is xs) (each_is found.0) found.1 in
      subst (IsPermutation mine) (sym same) found.2

  -- so much a call tells that runs the text: of the values that the table holds, and of its rows, whatever these are
  module _ {X : Type 0} (row_of : X → Row) (one : (x y : X) → ⊤ → ⊤ → row_of x ≡ row_of y → x ≡ y) (old new : State)
      (result : Result (Vec X Global) Refusal) (shown : HasCleanDisk new → IfOk result (λ all. Shown sql params old new (map row_of all.items))) where
    -- of the values that the table holds the call returns those that pass the test
    pub passing_told : (rows_in : StoredTables → List X) → ((t : StoredTables) → TreesHold old.now.trees t → TreeHolds place old.now.trees (map row_of (rows_in t)))
        → (test : X → Bool) → ((x : X) → passes (row_of x) ≡ test x)
        → HasCleanDisk new → (t : StoredTables) → Holds old.now t → IfOk result (λ all. IsPermutation (filter test (rows_in t)) all.items)
    passing_told rows_in keeps test is clean t held = if_ok _ _ (λ all h.
        subst (λ l. IsPermutation l all.items) (filter_as (λ x. passes (row_of x)) test is (rows_in t))
        (passing_values row_of one old new all.items (rows_in t) held.schema h (keeps t held.kept))) result (shown clean)

-- one row is put
module _ {X : Type 0} (sql : List ℕ) (place : TableLayout) (row_of : X → Row) (x : X) (old new : State) (count : ℕ)
    (has : old.now.schema ≡ register_schema) (h : Executes sql (row_of x) old new (Ok count)) where
  abbrev Put : Type 0
  Put = (new.now.schema ≡ register_schema) × Changes place register_schema (row_of x) old.now.trees new.now.trees

  -- a text that inserts a row puts it under its key
  pub row_put : InsertsRow sql place row_of → Put
  row_put p =
      executes_insert place register_schema p.at p.table (λ i. (p.is i).giving.writing.here) (λ olds news i. (p.is i).giving.writing.alone olds news)
      (λ a b i. (p.is i).giving.writing.compares a b) (λ a i. (p.is i).giving.writing.fulls a) (λ rows row. list_all (λ columns. not (clashes plain columns rows row)) p.others)
      (λ rows row i. (p.is i).guarded rows row) sql p.terms
      p.means (row_of x) (p.given x) (λ i. (p.is i).giving.given x) (p.casts x)
      (λ entries i. (p.is i).numbered x entries) (λ entries i. (p.is i).shown x entries) (λ i. (p.is i).giving.writing.filled x) old new count has h

  -- or is changed, if there is one that has its key
  pub row_updated : UpdatesRow sql place row_of
      → (new.now.schema ≡ register_schema) × Updated place register_schema (row_of x) old.now.trees new.now.trees count
  row_updated p =
      executes_update place register_schema p.at p.table (λ i. (p.is i).writing.here) (λ olds news i. (p.is i).writing.alone olds news)
      (λ a b i. (p.is i).writing.compares a b) (λ a i. (p.is i).writing.fulls a) sql (row_of x) (p.casts x) (λ id i. (p.is i).shown x id)
      (λ i. (p.is i).writing.filled x) p.test p.sets (λ r i. (p.is i).tests x r) (λ r i. (p.is i).gives x r) (λ i. (p.is i).is_far)
      p.means old new count has h

-- the rows that the tree has then
pub rows_put : {X : Type 0} (place : TableLayout) (row_of : X → Row) (IsStored : X → Type 0) (x : X) → IsStored x → (old new : Trees)
    → Changes place register_schema (row_of x) old new → (xs : List X) → TreeHolds place old (map row_of xs)
    → AllByRecursion IsStored xs → TreeHolds place new (map row_of (put_in place.keys row_of x xs)) × AllByRecursion IsStored (put_in place.keys row_of x xs)
rows_put place row_of IsStored x fact old new c xs keeps stored = search (rules, put_in_rows, put_in_all)

-- the tables that the database holds then
pub put_holds : {X : Type 0} (table : TableSpec X) (row_of : X → Row) (IsRead : X → Type 0) → IsTable table row_of IsRead → (x : X) → table.is_stored x
    → (old new : State) → (new.now.schema ≡ register_schema) × Changes table.place register_schema (row_of x) old.now.trees new.now.trees
    → (t : StoredTables) → Holds old.now t → Holds new.now (with_put table row_of x t)
put_holds table row_of IsRead laws x fact old new it t held =
    let rows = table.rows_in t in
    let put = rows_put table.place row_of table.is_stored x fact old.now.trees new.now.trees it.1 rows (laws.keeps old.now.trees t held.kept)
    (laws.stores old.now.trees t held.kept) in record {
      schema = it.0;
      kept = laws.still old.now.trees new.now.trees (put_in table.place.keys row_of x rows) t it.1.sound put.0 put.1 it.1.others held.kept;
    }

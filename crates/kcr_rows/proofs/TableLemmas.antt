-- What one statement on a table with a key does to what the trees keep.
use Rattle.kcr_rows.proofs.Common.{◌≡◌, ◌≢◌, inl, inr, ◌==◌, not, ℕ, suc, ◌/◌, ◌^◌, nat_le, ◌&&◌, Bool, true, false, List, [], ◌∷◌, ◌++◌, map, filter}
use Rattle.kcr_rows.proofs.Common.{length, slice_get, Some, None, Ok, IsTrue, eq-eqb, refl, sym, ap, subst, ◌∙◌, true≢false, rules, ⊤, AllByRecursion}
use Rattle.kcr_rows.proofs.Common.{list_all, is_eq, IsPermutation, and_parts, not-true, Null, Int, Row, Term, holds, key_cmp, output, output_cmp}
use Rattle.kcr_rows.proofs.Common.{cast_row, Trees, rowid, put_row, Table, Schema, Command, Values, Insert, Select, id_in, IsNoIndex, value_rows}
use Rattle.kcr_rows.proofs.Common.{Does, State, mode_of, Executes, statement_of, runs_as, is_int, all_of, all-filter, all-permutation, all-slice_get}
use Rattle.kcr_rows.proofs.Common.{all_from_map, filter_all, filter-map, IsSound, Enforced, agree, clashes, differ, guards, passes, Keeps as Obeyed}
use Rattle.kcr_rows.proofs.Common.{Key, plain, rising, Has, works, all_has, all_from, simple_as, cells, by_key, is_full, TableLayout, TreeHolds}
use Rattle.kcr_rows.proofs.{Common.put_in, Common.Means, WriteLemmas.IsInserted, WriteLemmas.entered, WriteLemmas.inserts}
use Rattle.sqlite.specs.{State.Shown, Listing.understood}
use Rattle.sqlite_schema.specs.declared.schema.{Index.Index, Constraint.Constraint, Constraint.TheVariants.Unique}
use Rattle.sqlite_rules.proofs.TableLemmas.{int_is}
use Rattle.sqlite_resolve.specs.Compile.{compiled}
use Rattle.kcr_rows.proofs.TextLemmas.{command_is, is_plain, reads_shown}
use Rattle.kcr_rows.proofs.ReadLemmas.{reading, with_key, reads_rows, reads_exact}
use Rattle.kcr_rows.proofs.PutLemmas.{put, keeps_put, put_row_same, has_same}
use Rattle.kcr_rows.proofs.KeyLemmas.{places_from, full, fresh_key, not_any}

-- one row was put, and what lies in other trees is as it was
pub record Changes (place : TableLayout) (schema : Schema) (values : Row) (old new : Trees) : Type 0 where
  pub rows : (rows : List Row) → TreeHolds place old rows → TreeHolds place new (put place.keys values rows)
  pub sound : IsSound schema new
  pub others : (t : ℕ) → t ≢ place.tree → IsNoIndex schema t → new t ≡ old t

-- what holds of each table of a schema holds of the one at a place
rule_of : (rule : Constraint) (schema : Schema) (db : Trees) (at : ℕ) (table : Table) → slice_get schema.tables at ≡ Some table → Obeyed rule schema db
    → AllByRecursion (λ row. passes rule schema db table row ≡ true) (db table.tree)
rule_of rule schema db at table =
    all-slice_get (λ (t : Table). AllByRecursion (λ row. passes rule schema db t row ≡ true) (db t.tree)) schema.tables at table

-- the entries that a tree keeps have integers as rowids, and no NULL in their keys
module _ (place : TableLayout) (db : Trees) (rows : List Row) (keeps : TreeHolds place db rows) (r : Row) (h : Has (db place.tree) r) where
  -- the rowid of an entry is an integer
  pub own_id : rowid r ≡ Int (id_in (rowid r))
  own_id = int_is (rowid r) (all_has (λ x. IsTrue (is_int (rowid x))) (db place.tree) r keeps.shaped.1 h)

  -- no value of an entry's key is NULL
  pub whole : is_full place.keys (cells place r) ≡ true
  whole =
      all_has (λ x. is_full place.keys (cells place x) ≡ true) (db place.tree) r
      (all_from_map (λ row. is_full place.keys row ≡ true) (cells place) (db place.tree)
      (all-permutation (λ row. is_full place.keys row ≡ true) _ _ keeps.same keeps.full)) h

-- INSERT of a row, which is refused if a row has the key or the rowid
module _ (place : TableLayout) (schema : Schema) (at : ℕ) (like : Table)
    (here : slice_get schema.tables at ≡ Some (simple_as place.tree like))
    (alone : (olds news : List Row) → works schema Enforced 0 place.tree olds news ≡ [])
    (compares : (a b : Row) → by_key place.keys (cells place a) (cells place b) ≡ key_cmp 1 (rising place.keys []) a b)
    (fulls : (a : Row) → is_full place.keys (cells place a) ≡ full 1 place.keys a)
    (others : List Row → Row → Bool)
    (guarded : (rows : List Row) (row : Row)
    → list_all (λ i. not (guards i (simple_as place.tree like) && clashes i.order i.columns rows row)) schema.indexes
    ≡ (not (clashes plain (places_from 1 place.keys) rows row) && others rows row))
    (sql : List ℕ) (terms : List Term)
    (is : Means (Insert at (Values terms (suc (length place.at)))) (compiled schema sql))
    (values given : Row)
    (gives : value_rows (values ++ []) (suc (length place.at)) (length terms / suc (length place.at)) terms ≡ given ∷ [])
    (casts : cast_row (simple_as place.tree like) given ≡ given)
    (numbered : (entries : List Row) → IsTrue (is_int (rowid (entered entries given))))
    (shown : (entries : List Row) → cells place (entered entries given) ≡ values)
    (filled : is_full place.keys values ≡ true) where
  abbrev table : Table
  table = simple_as place.tree like

  abbrev target : List ℕ
  target = places_from 1 place.keys

  abbrev IsIn : Trees → Trees → Type 0
  IsIn old new = IsInserted schema place.tree old new (entered (old place.tree) given)

  -- no row that was there has the key
  other_key : (old new : Trees) → IsIn old new → (rows : List Row) → TreeHolds place old rows → (r : Row) → Has (old place.tree) r
      → is_eq (by_key place.keys (cells place r) values) ≡ false
  other_key old new p rows keeps r h =
      let entries = old place.tree in
      let entry = entered entries given in
      let there = λ (x : Row) (k : Has (entry ∷ entries) x).
      subst (λ l. Has l x) (sym p.is) (has_same (entry ∷ entries) (put_row entry entries) x (put_row_same entry entries p.free) k) in
      let passed =
      all_has (λ row. passes Unique schema new table row ≡ true) (new place.tree) entry
      (rule_of Unique schema new at table here (p.fits.rules Unique (λ e. cc))) (there entry (inl refl)) in
      let clash : clashes plain target (new place.tree) entry ≡ false = not-true _ (and_parts _ _ (sym (guarded (new place.tree) entry) ∙ passed)).0 in
      fresh_key place entries entry (id_in (rowid entry)) values compares fulls (int_is (rowid entry) (numbered entries)) (shown entries) p.free r h
      (own_id place old rows keeps r h) (whole place old rows keeps r h) filled
      (not_any (λ other. agree plain target other target entry && differ (rowid other) (rowid entry)) (new place.tree) r clash (there r (inr h)))

  insert_keeps : (old new : Trees) → IsIn old new → (rows : List Row) → TreeHolds place old rows → TreeHolds place new (put place.keys values rows)
  insert_keeps old new p rows keeps =
      let entries = old place.tree in
      let none = all_from _ entries (λ r h. ap not (other_key old new p rows keeps r h)) in
      search (rules, filter_all, keeps_put, entered)

  abbrev Inserts : Command
  Inserts = Insert at (Values terms (suc (length place.at)))

  -- the statement makes the change
  pub executes_insert : (old new : State) (count : ℕ) → old.now.schema ≡ schema → Executes sql values old new (Ok count)
      → (new.now.schema ≡ schema) × Changes place schema values old.now.trees new.now.trees
  executes_insert old new count has h =
      let w = runs_as sql values old new schema has Inserts (command_is schema sql _ is) (is_plain schema sql _ is) count h in
      let text = statement_of sql (understood schema sql) in
      let p =
      inserts schema at place.tree like terms (suc (length place.at)) values given here alone gives casts
      old.step_limit old.now.trees text w.tally new.now
      (subst (λ s. Does old.step_limit (mode_of old) values (record old.now { schema = s }) text None Inserts (Ok (w.tally, new.now))) has w.changed) in
      (p.0, record { sound = subst (λ s. IsSound s new.now.trees) p.0 w.sound; rows = insert_keeps old.now.trees new.now.trees p.1; others = p.1.others })

no_index_in : (t : ℕ) (indexes : List Index) → list_all (λ i. not (i.tree == t)) indexes ≡ true → AllByRecursion (λ i. i.tree ≢ t) indexes
no_index_in t [] h = tt
no_index_in t (i ∷ more) h = let parts = and_parts _ _ h in ((λ e. true≢false (sym (eq-eqb i.tree t e) ∙ not-true _ parts.0)), no_index_in t more parts.1)

-- a tree that is no index and not the changed one keeps what it has
pub keeps_on : (place : TableLayout) (old new : Trees) (rows : List Row) → new place.tree ≡ old place.tree → TreeHolds place old rows → TreeHolds place new rows
keeps_on place old new rows same k = search (rules, full)

-- a table keeps its rows if the tree that was changed is another, and its own is no index
pub keeps_still : (schema : Schema) (tree : ℕ) (place : TableLayout) (old new : Trees) (rows : List Row) → ((t : ℕ) → t ≢ tree → IsNoIndex schema t → new t ≡ old t)
    → (place.tree == tree) ≡ false → list_all (λ i. not (i.tree == place.tree)) schema.indexes ≡ true → TreeHolds place old rows → TreeHolds place new rows
keeps_still schema tree place old new rows others apart bare = search (rules, keeps_on, true≢false, eq-eqb, no_index_in)

-- ---- values in place of rows

module _ {X : Type 0} (keys : ℕ) (row_of : X → Row) where
  -- a value put in its place gives the rows with its row put in its place
  pub put_in_rows : (new : X) (xs : List X) → map row_of (put_in keys row_of new xs) ≡ put keys (row_of new) (map row_of xs)
  put_in_rows new [] = refl
  put_in_rows new (x ∷ xs) = search (rules, put, put_in_rows new xs)

-- rows of values of which one list was read and the other was put
module _ {X : Type 0} (row_of : X → Row) (IsRead IsStored : X → Type 0) (one : (x y : X) → IsRead x → IsStored y → row_of x ≡ row_of y → x ≡ y) where
  -- values that were read are those that were stored if their rows are the same
  pub same_values : (xs ys : List X) → AllByRecursion IsRead xs → AllByRecursion IsStored ys → map row_of xs ≡ map row_of ys → xs ≡ ys
  same_values [] [] r p h = refl
  same_values [] (y ∷ ys) r p h = absurd (cc)
  same_values (x ∷ xs) [] r p h = absurd (cc)
  same_values (x ∷ xs) (y ∷ ys) r p h =
      let head : row_of x ≡ row_of y = cc in let tail : map row_of xs ≡ map row_of ys = cc in λ i. one x y r.0 p.0 head i ∷ same_values xs ys r.1 p.1 tail i

-- what is known of every value
pub each_is : {X : Type 0} (xs : List X) → AllByRecursion (λ _. ⊤) xs
each_is xs = all_of (λ _. ⊤) (λ _. tt) xs

-- what a query on one table shows, as values
module _ (place : TableLayout) (schema : Schema) (sql : List ℕ) (params : Row) (test project : List Term) (order : List (Term × Key)) (names : List (List ℕ))
    (passes : Row → Bool)
    (is : Means (Select (record { lets = []; body = reading place.tree test project order }) names) (compiled schema sql))
    (shows : (r : Row) → output (reading place.tree test project order) (params ∷ r ∷ []) ≡ with_key place.keys (cells place r))
    (tests : (r : Row) → list_all (holds (params ∷ r ∷ [])) test ≡ passes (cells place r))
    (sorts : (a b : Row) → output_cmp (reading place.tree test project order) (with_key place.keys a) (with_key place.keys b) ≡ by_key place.keys a b)
    (low : nat_le (2 ^ 31) place.tree ≡ false)
    {X : Type 0} (row_of : X → Row) where
  -- the values that the query shows are the stored ones whose rows pass
  pub shown_checked : (IsRead IsStored : X → Type 0) → ((x y : X) → IsRead x → IsStored y → row_of x ≡ row_of y → x ≡ y) → (old new : State) (xs : List X)
      → old.now.schema ≡ schema → Shown sql params old new (map row_of xs)
      → AllByRecursion IsRead xs → (ys : List X) → AllByRecursion IsStored ys → TreeHolds place old.now.trees (map row_of ys)
      → xs ≡ filter (λ y. passes (row_of y)) ys
  shown_checked IsRead IsStored one old new xs has h read ys held keeps =
      let it = reads_shown schema sql _ is params old new has (map row_of xs) h in
      let rows = reads_rows place test project order params passes shows tests sorts low old.now.trees (map row_of xs) (map row_of ys) keeps (it.answer Null) in
      search (rules, same_values, all-filter, filter-map)

  -- also if the tree is no register's
  pub shown_exact : (old new : State) (xs : List X) → old.now.schema ≡ schema → Shown sql params old new (map row_of xs)
      → IsPermutation (filter passes (map (cells place) (old.now.trees place.tree))) (map row_of xs)
  shown_exact old new xs has h =
      let read = reads_shown schema sql _ is params old new has (map row_of xs) h in
      reads_exact place test project order params passes shows tests sorts low old.now.trees (map row_of xs) (read.answer Null)

-- a test that all pass keeps all
pub filter_every : {X : Type 0} (xs : List X) → filter (λ _. true) xs ≡ xs
filter_every xs = filter_all (λ _. true) xs (all_from _ xs (λ x h. refl))

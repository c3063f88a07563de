-- The number that a database has, as the query on it shows it.
use Rattle.kcr_older.proofs.Common.{slice_get, option_and_then, IsSomeAnd, ◌≡◌, ◌∙◌, ap, sym, ℕ, negsuc, ◌^◌, nat_le, arith, List, [], ◌∷◌, codes}
use Rattle.kcr_older.proofs.Common.{Option, Some, None, refl, true, false, map, subst₂, IsTrue, is_some, IsPermutation, IsPermutation-map}
use Rattle.kcr_older.proofs.Common.{length_permutation, Row, Output, output, IsAnswer, overlay, Schema, State, Shown, IsUnchanged, Table, Term, col}
use Rattle.kcr_older.proofs.Common.{Trees, Value, one_permutation, IsSound, IsTableRow, table_named, place_of, Column, map-map, is_number, if_number}
use Rattle.kcr_older.proofs.Common.{numbered_table, numbers_in, only_number, version_in, shown_same, reading, kept_from, filter_every}
use Rattle.std.proofs.lemmas.{List.map-id, Bool.Decides.nat_tests, Slice.Eq.bytes_eq-Decides, Slice.Zip.AllZip-right}
use Rattle.sqlite.specs.Order.{column}
use Rattle.kcr_base.proofs.ListLemmas.{map-same}
use Rattle.kcr_older.proofs.NumberText.{Stands, text, read_it, answered}

-- ---- the table, by its name

one_column : (columns : List Column) → is_number columns ≡ true → (c : Column) × (columns ≡ record c { name = codes "number" } ∷ [])
one_column [] h = absurd cc
one_column (c ∷ []) h = (let named = (bytes_eq-Decides c.name (codes "number")).0 h in (c, rw (← named) refl))
one_column (c ∷ d ∷ more) h = absurd cc

picked : (found : Option Table) (table : Table) → option_and_then if_number found ≡ Some table → (found ≡ Some table) × (is_number table.columns ≡ true)
picked None table h = absurd cc
picked (Some t) table h = (grind arith, grind arith)

stands_at : (schema : Schema) (table : Table) (place : Option ℕ) → table_named schema (codes "versions") ≡ place
    → option_and_then if_number (option_and_then (slice_get schema.tables) place) ≡ Some table → Stands schema table
stands_at schema table None is h = absurd cc
stands_at schema table (Some at) is h =
    let it = picked (slice_get schema.tables at) table h in
    let one = one_column table.columns it.1 in
    record { at = at; finds = is; is = it.0; column = one.0; columns = one.1 }

-- the table of the number, if it is found, stands in the schema with its one column
pub stands : (schema : Schema) (table : Table) → numbered_table schema ≡ Some table → Stands schema table
stands schema table h = stands_at schema table _ refl h

low_in : (row : Option Row) (table : Table) → IsSomeAnd row (λ x. IsTableRow x table) → nat_le (2 ^ 31) table.tree ≡ false
low_in (Some row) table h = let low = h.described.low in grind (arith, nat_tests)
low_in None table h = absurd h

-- its tree is one of the file
low : (schema : Schema) (db : Trees) (table : Table) (at : ℕ) → IsSound schema db → slice_get schema.tables at ≡ Some table
    → nat_le (2 ^ 31) table.tree ≡ false
low schema db table at sound is = low_in _ table (rw is at (AllZip-right IsTableRow _ schema.tables sound.lists.listed.tables at))

-- ---- the rows that a query with no test gives

-- it shows what it makes of each entry
pub every_row : (tree : ℕ) (project : List Term) (f : Row → Row) → ((r : Row) → output (reading tree [] project []) ([] ∷ r ∷ []) ≡ ([], f r))
    → nat_le (2 ^ 31) tree ≡ false → (db : Trees) (rows : List Row) → IsAnswer (reading tree [] project []) (overlay db []) [] rows
    → IsPermutation (map f (db tree)) rows
every_row tree project f shows far db rows a =
    let second = λ (o : Output). o.1 in
    let kept : map second a.kept ≡ map f (db tree) =
    ap (map second) (kept_from tree [] project [] (negsuc 0) [] far db rows a)
    ∙ map-map second (λ r. output (reading tree [] project []) ([] ∷ r ∷ [])) _
    ∙ map-same _ f _ (λ r. ap second (shows r)) ∙ ap (map f) (filter_every (db tree)) in
    subst₂ IsPermutation kept (sym a.shown) (IsPermutation-map second _ _ a.same)

-- one number is told of the same values in whatever order
pub same_number : (xs ys : List Value) → IsPermutation xs ys → only_number xs ≡ only_number ys
same_number [] [] same = refl
same_number [] (y ∷ ys) same = absurd (let long = length_permutation [] (y ∷ ys) same in omega (arith, long))
same_number (x ∷ []) ys same = ap only_number (sym (one_permutation x ys same))
same_number (x ∷ z ∷ more) [] same = absurd (let long = length_permutation (x ∷ z ∷ more) [] same in omega (arith, long))
same_number (x ∷ z ∷ more) (y ∷ []) same = absurd (let long = length_permutation (x ∷ z ∷ more) (y ∷ []) same in omega (arith, long))
same_number (x ∷ z ∷ more) (y ∷ w ∷ others) same = refl

module _ (old new : State) (table : Table) (is : numbered_table old.now.schema ≡ Some table) where
  there : Stands old.now.schema table
  there = stands old.now.schema table is

  -- the one number of what is shown is that of the table
  pub number_read : (values : List Value) → IsSound old.now.schema old.now.trees → Shown text [] old new (map (λ v. v ∷ []) values)
      → only_number values ≡ version_in old.now
  number_read values sound h =
      let first = λ (r : Row). column r 0 in
      let number = λ (r : Row). column r (place_of table 0) in
      let far = low old.now.schema old.now.trees table there.at sound there.is in
      let a = (answered old.now.schema table there read_it old new _ refl h).0 in
      let shown =
      every_row table.tree (col 1 (place_of table 0) ∷ []) (λ (r : Row). number r ∷ []) (λ r. refl) far old.now.trees _ a in
      let same : IsPermutation (numbers_in table old.now.trees) values =
      subst₂ IsPermutation (map-map first (λ (r : Row). number r ∷ []) _) (map-map first (λ (v : Value). v ∷ []) values ∙ map-id values)
      (IsPermutation-map first _ _ shown) in
      sym (same_number _ values same) ∙ (rw is refl)

  -- the query changes nothing
  pub number_same : (rows : List Row) → Shown text [] old new rows → IsUnchanged old new
  number_same rows h = shown_same old new text [] rows (answered old.now.schema table there read_it old new rows refl h).1 h

-- what is found is some table
pub is_there : (found : Option Table) → IsTrue (is_some found) → (table : Table) × (found ≡ Some table)
is_there (Some table) h = (table, refl)
is_there None h = absurd cc

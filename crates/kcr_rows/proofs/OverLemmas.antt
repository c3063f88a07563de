-- A row in the place of the one that has its key: which entry that is, and what the tree keeps after it.
use Rattle.kcr_rows.proofs.Common.{◌≡◌, inl, inr, ℕ, ℤ, negsuc, ◌≤◌, ◌^◌, nat_le, not, Bool, true, false, List, [], ◌∷◌, map, filter, length}
use Rattle.kcr_rows.proofs.Common.{Ordering, Less, Equal, refl, sym, ap, subst, ◌∙◌, arith, rules, list_all, is_eq, both_ways, IsPermutation}
use Rattle.kcr_rows.proofs.Common.{and_parts, not-true, false_from_ne_true, tied_itself, length-map, length_permutation, Int, cast_all, cast_row}
use Rattle.kcr_rows.proofs.Common.{Edit, id_in, edit_of, left_by, edited, is_taken, are_fresh, Row, value_cmp, overlay, Query, Output, output}
use Rattle.kcr_rows.proofs.Common.{IsAnswer, Given, Table, Term, eval_all, holds, Trees, IsAscending, IsTable, rowid, has_rowid, put_row}
use Rattle.kcr_rows.proofs.Common.{without_rowid, one_permutation, all_has, all_from, has_kept, put_all, Has, filter-map, filter_none, filter_same}
use Rattle.kcr_rows.proofs.Common.{IsPermutation-filter, value_cmp_total, simple_as, cells, by_key, is_full, TableLayout, TreeHolds}
use Rattle.sqlite_rules.proofs.PlaceLemmas.{tied_same}
use Rattle.sqlite_rules.specs.Calls.{ids_of}
use Rattle.kcr_rows.proofs.{PutLemmas.put, PutLemmas.keeps_put, WriteLemmas.cast_int}
use Rattle.kcr_rows.proofs.{ReadLemmas.reading, ReadLemmas.kept_from, SameLemmas.key_total, TableLemmas.own_id}

-- the row of the table that an update finds, with the new values
abbrev pub finding : ℕ → List Term → List Term → Query
finding tree test sets = reading tree test sets []

-- the edit of an update
abbrev pub rewriting : Trees → Table → List Row → Edit
rewriting db table rows = edit_of db table (ids_of rows) Given 1 rows

-- ---- one row of each key

at_most : {X : Type 0} (xs : List X) (x y : X) → length xs ≤ 1 → Has xs x → Has xs y → x ≡ y
at_most [] x y few h k = absurd h
at_most (z ∷ []) x y few h k = grind arith
at_most (z ∷ w ∷ more) x y few h k = absurd (omega (arith, few))

-- an ordering that the test of equality accepts is `Equal`
pub tie_is : (o : Ordering) → is_eq o ≡ true → o ≡ Equal
tie_is o h = grind arith

module _ (keys : ℕ) (values : Row) where
  abbrev pub has_key : Row → Bool
  has_key row = is_eq (by_key keys row values)

  later_apart : (row y : Row) → by_key keys row values ≡ Equal → by_key keys row y ≡ Less → has_key y ≡ false
  later_apart row y tie up =
      search (rules, key_total keys)

  few : (rows : List Row) → IsAscending (λ a b. by_key keys a b ≡ Less) rows → length (filter has_key rows) ≤ 1
  few [] up = omega arith
  few (row ∷ rows) up = search (rules, filter_none, all_from, later_apart, tie_is, all_has, few rows up.1)

-- no row has a rowid below its own
apart : (x y : Row) → value_cmp (rowid x) (rowid y) ≡ Less → x ≡ y → ⊥
apart x y below same = let e = sym (tied_itself value_cmp_total (rowid y)) ∙ subst (λ z. value_cmp (rowid z) (rowid y) ≡ Less) same below in cc

-- the one row that passes a test, of those that rise by their rowids
module _ (p : Row → Bool) (r : Row) where
  only : (rows : List Row) → IsTable rows → Has rows r → p r ≡ true → ((x : Row) → Has rows x → p x ≡ true → x ≡ r) → filter p rows ≡ r ∷ []
  only [] up h is one = absurd h
  only (y ∷ rows) up (inl same) is one = search (rules, all_from, false_from_ne_true, apart, all_has, filter_none)
  only (y ∷ rows) up (inr later) is one =
      let out : p y ≡ false = false_from_ne_true _ (λ also. apart y r (all_has _ rows r up.0 later) (one y (inl refl) also)) in
      rw out (only rows up.1 later is (λ x h. one x (inr h)))

-- the row that has the key, among the entries that a tree keeps
module _ (place : TableLayout) (db : Trees) (rows : List Row) (keeps : TreeHolds place db rows) (values : Row) where
  abbrev has : Row → Bool
  has r = has_key place.keys values (cells place r)

  -- two entries that have the key are one
  pub one_row : (x y : Row) → Has (db place.tree) x → Has (db place.tree) y → has x ≡ true → has y ≡ true → x ≡ y
  one_row x y h k p q =
      let entries = db place.tree in
      let shows = cells place in
      let same : IsPermutation (filter (has_key place.keys values) rows) (map shows (filter has entries)) =
      rw filter-map at (IsPermutation-filter (has_key place.keys values) _ _ keeps.same) in
      let long : length (filter has entries) ≡ length (filter (has_key place.keys values) rows) =
      sym (length-map (filter has entries) shows) ∙ length_permutation _ _ same in
      let low : length (filter has entries) ≤ 1 = rw long (few place.keys values rows keeps.rising) in
      at_most (filter has entries) x y low (has_kept has entries x h p) (has_kept has entries y k q)

-- ---- an update that finds it

module _ (place : TableLayout) (db : Trees) (test sets : List Term) (params : Row) (low : nat_le (2 ^ 31) place.tree ≡ false) where
  abbrev q : Query
  q = finding place.tree test sets

  abbrev pub is_found : Row → Bool
  is_found x = list_all (holds (params ∷ x ∷ [])) test

  abbrev made : Row → Output
  made x = output q (params ∷ x ∷ [])

  -- if one entry passes the test, the answer is what is made of it
  pub found_one : (rows : List Row) → TreeHolds place db rows → (r : Row) → Has (db place.tree) r → is_found r ≡ true
      → ((x : Row) → Has (db place.tree) x → is_found x ≡ true → x ≡ r) → (answer : List Row)
      → IsAnswer q (overlay db []) params answer → answer ≡ eval_all sets (params ∷ r ∷ []) ∷ []
  found_one rows keeps r h passes one answer a =
      let entries = db place.tree in
      let kept : a.kept ≡ made r ∷ [] =
      kept_from place.tree test sets [] (negsuc 0) params low db answer a ∙ ap (map made) (only is_found r entries keeps.shaped.0 h passes one) in
      let ordered : a.ordered ≡ made r ∷ [] = one_permutation _ a.ordered (subst (λ l. IsPermutation l a.ordered) kept a.same) in
      a.shown ∙ ap (map (λ (o : Output). o.1)) ordered

-- an edit of the entry that has the key, which gets the new values and keeps its rowid
module _ (place : TableLayout) (like : Table) (values : Row)
    (casts : cast_all like.columns values ≡ values)
    (shown_as : (id : ℤ) → cells place (Int id ∷ values) ≡ values)
    (filled : is_full place.keys values ≡ true) where
  abbrev that : Table
  that = simple_as place.tree like

  -- after the edit the tree holds the rows with the new values put under their key
  pub keeps_changed : (old new : Trees) (rows : List Row) → TreeHolds place old rows → (r : Row) → Has (old place.tree) r
      → has_key place.keys values (cells place r) ≡ true → (answer : List Row) → answer ≡ (rowid r ∷ rowid r ∷ values) ∷ []
      → are_fresh (left_by old (rewriting old that answer)) (rewriting old that answer).news ≡ true
      → new place.tree ≡ edited old (rewriting old that answer) → TreeHolds place new (put place.keys values rows)
  keeps_changed old new rows keeps r h has_it found answer news_fresh tree_is =
      let entries = old place.tree in
      let id = id_in (rowid r) in
      let id_is = own_id place old rows keeps r h in
      let edit = λ (found : List Row). rewriting old that found in
      let cast_is : cast_row that (rowid r ∷ values) ≡ Int id ∷ values = ap (λ v. cast_row that (v ∷ values)) id_is ∙ rw (casts, cast_int id) in
      let news_is : (edit found).news ≡ (Int id ∷ values) ∷ [] = ap (λ found. (edit found).news) answer ∙ ap (λ x. x ∷ []) cast_is in
      let left_is : left_by old (edit found) ≡ without_rowid id entries = ap (λ found. left_by old (edit found)) answer in
      let fresh : are_fresh (without_rowid id entries) ((Int id ∷ values) ∷ []) ≡ true =
      rw (news_is, left_is) at news_fresh in
      let free : is_taken (without_rowid id entries) (Int id ∷ values) ≡ false = not-true _ (and_parts _ _ fresh).0 in
      let is : new place.tree ≡ put_row (Int id ∷ values) (without_rowid id entries) =
      tree_is ∙ ap (put_all (left_by old (edit found))) news_is ∙ ap (put_row (Int id ∷ values)) left_is in
      let at_id = λ (x : Row) (k : Has entries x).
      both_ways (has_rowid id x) (has_key place.keys values (cells place x))
      (λ yes. subst (λ y. has_key place.keys values (cells place y) ≡ true)
      (sym (tied_same entries x r keeps.shaped.0 k h (subst (λ v. value_cmp (rowid x) v ≡ Equal) (sym id_is) (tie_is _ yes)))) has_it)
      (λ yes. subst (λ y. has_rowid id y ≡ true) (one_row place old rows keeps values r x h k has_it yes)
      (subst (λ v. is_eq (value_cmp (rowid r) v) ≡ true) id_is (ap is_eq (tied_itself value_cmp_total (rowid r))))) in
      let left : without_rowid id entries ≡ filter (λ x. not (is_eq (by_key place.keys (cells place x) values))) entries =
      filter_same _ (λ x. not (is_eq (by_key place.keys (cells place x) values))) entries (all_from _ entries (λ x k. ap not (at_id x k))) in
      keeps_put place old (Int id ∷ values) values (without_rowid id entries) keeps.shaped left rows keeps new filled (shown_as id) refl free is

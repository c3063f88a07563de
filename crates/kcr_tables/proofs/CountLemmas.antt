-- The text that shows how many stays a ceremony has.
use Rattle.kcr_tables.proofs.Common.{◌≡◌, ◌<◌, ◌^◌, ℕ, pos, negsuc, min, Bool, false, List, [], ◌∷◌, map, filter, length, codes, Some, None, refl}
use Rattle.kcr_tables.proofs.Common.{sym, ap, ◌∙◌, rules, list_all, length-map, length-filter, length_permutation, Null, Int, Row, Term, lit, col}
use Rattle.kcr_tables.proofs.Common.{holds, inner, counted, end, IsAnswer, Output, output, output_cmp, overlay, Trees, Select, State, Shown}
use Rattle.kcr_tables.proofs.Common.{understood, IsPlain, filter-map, IsPermutation-filter, stay_count, of_ceremony, Stay, count_row, TreeHolds}
use Rattle.kcr_tables.proofs.Common.{cells, stay_row, compiled, Means, is_plain, reads_shown, filter_as, value_is, matched, number_ties, has_number}
use Rattle.kcr_tables.proofs.Common.{stays_place, register_schema, is_given}
use Rattle.std.specs.Prelude.{slice_get}
use Rattle.sqlite.specs.Query.{Query}
use Rattle.sqlite_sql.proofs.QueryLemmas.{output_cmp_total}
use Rattle.sqlite_keyed.proofs.SortLemmas.{sorted_unique}
use Rattle.sqlite_tied.specs.Compute.{everything}
use Rattle.kcr_rows.specs.declared.count_row.CountRow.{CountRow}

-- no greater number is counted
abbrev pub most : ℕ
most = 9223372036854775807

-- the query that counts the rows of a table that pass
abbrev pub counting : ℕ → List Term → Query
counting tree test = record {
  from = counted most (inner tree end) test end;
  filter = [];
  group = None;
  project = col 1 0 ∷ [];
  distinct = false;
  collations = [];
  order = [];
  limit = lit (Int (negsuc 0));
  offset = lit (Int (pos 0));
}

-- the text that shows how many stays a ceremony has
abbrev pub count_sql : List ℕ
count_sql = codes "SELECT (SELECT COUNT(*) FROM stays WHERE ceremony = ?1)"

abbrev names : List (List ℕ)
names = codes "(SELECT COUNT(*) FROM stays WHERE ceremony = ?1)" ∷ []

-- the text counts the rows of the given ceremony
count_means : Means (Select (record { lets = []; body = counting stays_place.tree (is_given 3) }) names) (compiled register_schema count_sql)
unfolding everything
count_means = (refl, refl, refl)

-- the text has no RETURNING and does not read the time
pub count_bare : IsPlain (understood register_schema count_sql)
count_bare = is_plain register_schema count_sql _ count_means

-- they are the stays of this ceremony
passes_is : (ceremony : ℕ)
    → ◌≡◌ {A = Row → Bool} (λ r. list_all (holds ((Int (pos ceremony) ∷ []) ∷ r ∷ [])) (is_given 3)) (λ r. has_number 2 ceremony (cells stays_place r))
unfolding everything
passes_is ceremony = refl

-- of the rows that a table keeps those of the ceremony are as many as the stays
of_tree : (ceremony : ℕ) (db : Trees) (stays : List Stay) → TreeHolds stays_place db (map stay_row stays)
    → length (filter (λ r. has_number 2 ceremony (cells stays_place r)) (db stays_place.tree)) ≡ stay_count stays ceremony
of_tree ceremony db stays keeps =
    let of_it = has_number 2 ceremony in
    let shown = cells stays_place in
    sym (length-map (filter (λ r. of_it (shown r)) (db stays_place.tree)) shown)
    ∙ ap length (sym (filter-map of_it shown (db stays_place.tree)))
    ∙ length_permutation _ _ (IsPermutation-filter of_it _ _ keeps.same)
    ∙ ap length (filter-map of_it stay_row stays)
    ∙ length-map (filter (λ x. of_it (stay_row x)) stays) stay_row
    ∙ ap length (filter_as _ (of_ceremony ceremony)
    (λ x. value_is (Int (pos x.ceremony)) (Int (pos ceremony)) refl refl ∙ sym (number_ties x.ceremony ceremony)) stays)
    ∙ length-filter (of_ceremony ceremony) stays

-- the one row that is shown has their number
pub count_shown : (ceremony : ℕ) (old new : State) (rows : List Row) → old.now.schema ≡ register_schema
    → Shown count_sql (Int (pos ceremony) ∷ []) old new rows → (stays : List Stay) → TreeHolds stays_place old.now.trees (map stay_row stays)
    → rows ≡ (Int (pos (min most (stay_count stays ceremony))) ∷ []) ∷ []
count_shown ceremony old new rows has h stays keeps =
    let params : Row = Int (pos ceremony) ∷ [] in
    let db = old.now.trees in
    let tree = stays_place.tree in
    let test = is_given 3 in
    let q = counting tree test in
    let p = λ (r : Row). list_all (holds (params ∷ r ∷ [])) test in
    let read = reads_shown register_schema count_sql _ count_means params old new has rows h in
    let a : IsAnswer q (overlay db []) params rows = read.answer Null in
    let many = ap length (matched p (λ r. params ∷ r ∷ []) (overlay db [] tree))
    ∙ length-map (filter p (overlay db [] tree)) (λ r. params ∷ r ∷ [])
    ∙ ap (λ (test : Row → Bool). length (filter test (db tree))) (passes_is ceremony)
    ∙ of_tree ceremony db stays keeps in
    let out : ℕ → List Output = λ n. ([], Int (pos (min most n)) ∷ []) ∷ [] in
    let kept : a.kept ≡ out (stay_count stays ceremony) = a.distinct ∙ ap (map (output q)) a.grouped ∙ ap out many in
    let ordered = sorted_unique (output_cmp q) (output_cmp_total q) a.kept a.ordered (rw kept (tt, tt)) a.same a.sorted in
    a.shown ∙ ap (map (λ (o : Output). o.1)) (ordered ∙ kept)

-- a number that is less than the most is all that there are
pub count_told : (counts : List CountRow) (n : ℕ) → map count_row counts ≡ (Int (pos (min most n)) ∷ []) ∷ [] → (count : CountRow)
    → slice_get counts 0 ≡ Some count → count.number < 2 ^ 32 → count.number ≡ n
count_told [] n h count first low = absurd (cc)
count_told (x ∷ xs) n h count first low = search rules

-- What UPDATE does to a table with a key, if it finds the row that has the key and sets each column.
use Rattle.kcr_rows.proofs.Common.{◌≡◌, ◌≢◌, inl, ℕ, ℤ, pos, zero, suc, ◌^◌, nat_le, Bool, true, false, List, [], ◌∷◌, map, filter, length, slice_get}
use Rattle.kcr_rows.proofs.Common.{unwrap_or, Some, None, Ok, refl, sym, ap, subst, ◌∙◌, arith, rules, list_all, length-map, length_permutation, Null}
use Rattle.kcr_rows.proofs.Common.{Int, cast_all, Command, Update, Tally, Does, left_by, edited, are_fresh, IsNoIndex, taken_by, Database, Row}
use Rattle.kcr_rows.proofs.Common.{overlay, IsAnswer, key_cmp, Schema, State, mode_of, Executes, Table, Term, eval_all, holds, Trees, rowid}
use Rattle.kcr_rows.proofs.Common.{statement_of, runs_as, one_step, IsSound, has_filtered, works, Has, Enforced, rising, simple_as, cells, by_key}
use Rattle.kcr_rows.proofs.Common.{is_full, TableLayout, TreeHolds, Means}
use Rattle.sqlite.specs.{Listing.understood, Rows.Written}
use Rattle.sqlite_resolve.specs.Compile.{compiled}
use Rattle.kcr_rows.proofs.{TextLemmas.command_is, TextLemmas.is_plain, TableLemmas.Changes, TableLemmas.keeps_on, TableLemmas.whole}
use Rattle.kcr_rows.proofs.{PutLemmas.put, ReadLemmas.kept_from, WriteLemmas.went, WriteLemmas.same_value}
use Rattle.kcr_rows.proofs.KeyLemmas.{full, agrees, same_from, same_is}
use Rattle.kcr_rows.proofs.OverLemmas.{finding, rewriting, has_key, one_row, is_found, found_one, keeps_changed}

-- the tree is as it was, and what lies in other trees
pub record Stays (place : TableLayout) (schema : Schema) (old new : Trees) : Type 0 where
  pub rows : new place.tree ≡ old place.tree
  pub others : (t : ℕ) → t ≢ place.tree → IsNoIndex schema t → new t ≡ old t

-- if no row changed all is as it was, and else one row was put
abbrev pub Updated : TableLayout → Schema → Row → Trees → Trees → ℕ → Type 0
Updated place schema values old new zero = Stays place schema old new
Updated place schema values old new (suc more) = Changes place schema values old new

-- an update that changed some row has put one row
pub row_changed : (place : TableLayout) (schema : Schema) (values : Row) (old new : Trees) (count : ℕ) → count ≢ 0 → Updated place schema values old new count
    → Changes place schema values old new
row_changed place schema values old new count some u = grind arith

-- a row that is put if all is as it was before
pub changes_then : (place : TableLayout) (schema : Schema) (values : Row) (old mid new : Trees) → Stays place schema old mid → Changes place schema values mid new
    → Changes place schema values old new
changes_then place schema values old mid new one two = search (rules, keeps_on)

-- the rows that an update finds are edited, and counted
pub record IsUpdated (schema : Schema) (table : Table) (tree : ℕ) (test sets : List Term) (old new : Trees) (values : Row) (count : ℕ) : Type 0 where
  pub answer : List Row
  pub found : IsAnswer (finding tree test sets) (overlay old []) values answer
  pub counted : count ≡ length (rewriting old table answer).news
  pub fresh : are_fresh (left_by old (rewriting old table answer)) (rewriting old table answer).news ≡ true
  pub rows : new tree ≡ edited old (rewriting old table answer)
  pub others : (t : ℕ) → t ≢ tree → IsNoIndex schema t → new t ≡ old t

module _ (place : TableLayout) (schema : Schema) (at : ℕ) (like : Table)
    (here : slice_get schema.tables at ≡ Some (simple_as place.tree like))
    (alone : (olds news : List Row) → works schema Enforced 0 place.tree olds news ≡ [])
    (compares : (a b : Row) → by_key place.keys (cells place a) (cells place b) ≡ key_cmp 1 (rising place.keys []) a b)
    (fulls : (a : Row) → is_full place.keys (cells place a) ≡ full 1 place.keys a)
    (sql : List ℕ)
    (values : Row)
    (casts : cast_all like.columns values ≡ values)
    (shown_as : (id : ℤ) → cells place (Int id ∷ values) ≡ values)
    (filled : is_full place.keys values ≡ true)
    (test sets : List Term)
    (tests : (r : Row) → list_all (holds (values ∷ r ∷ [])) test ≡ same_from 1 place.keys r (Int (pos 0) ∷ values))
    (gives : (r : Row) → eval_all sets (values ∷ r ∷ []) ≡ rowid r ∷ rowid r ∷ values)
    (low : nat_le (2 ^ 31) place.tree ≡ false)
    (is : Means (Update at (record { lets = []; body = finding place.tree test sets })) (compiled schema sql)) where
  abbrev that : Table
  that = simple_as place.tree like

  abbrev Is : Trees → Trees → ℕ → Type 0
  Is old new = IsUpdated schema that place.tree test sets old new values

  abbrev Updates_it : Command
  Updates_it = Update at (record { lets = []; body = finding place.tree test sets })

  updates : (limit : _) (trees : Trees) (text : List ℕ) (tally : Tally) (next : Database)
      → Does limit (record { keys = Enforced; in_doubt = false; may_wait = false }) values (record { schema = schema; trees = trees }) text None
      Updates_it (Ok (tally, next))
      → (next.schema ≡ schema) × ((n : ℕ) × (tally.rows ≡ Some n) × Is trees next.trees n)
  updates limit trees text tally next h =
      let on = rw here at h in
      let done = went on in
      let both = same_value (went (went done.2).2).2 in
      let now = ap (λ (p : Tally × Database). p.1) both in
      let queried = went done.1 in
      let edited_as = went queried.2 in
      let edit = rewriting trees that queried.0 in
      let applies = one_step schema Enforced trees edited_as.0 edit (alone (taken_by trees edit) edit.news) edited_as.1 in
      let trees_is : next.trees ≡ edited_as.0 = ap (λ (d : Database). d.trees) now ∙ ap (λ (w : Written). w.trees) (same_value edited_as.2) in (
        ap (λ (d : Database). d.schema) now,
        (
          length edit.news,
          ap (λ (p : Tally × Database). p.0.rows) both ∙ ap (λ (w : Written). Some (length w.rows)) (same_value edited_as.2),
          subst (λ (t : Trees). Is trees t (length edit.news)) (sym trees_is) (record {
            answer = queried.0;
            found = queried.1.answer Null;
            counted = refl;
            fresh = applies.fresh;
            rows = applies.rows;
            others = applies.others;
          }),
        ),
      )

  -- an entry is found if it has the key
  found_is : (db : Trees) (rows : List Row) → TreeHolds place db rows → (r : Row) → Has (db place.tree) r
      → is_found place db test sets values low r ≡ has_key place.keys values (cells place r)
  found_is db rows keeps r h =
      tests r ∙ same_is place.keys 1 r (Int (pos 0) ∷ values)
      ∙ agrees place (Int (pos 0) ∷ values) values compares fulls (shown_as (pos 0)) r (whole place db rows keeps r h) filled

  -- an answer that has a row was made of an entry
  some_found : (db : Trees) (answer : List Row) → IsAnswer (finding place.tree test sets) (overlay db []) values answer → (y : Row) (more : List Row)
      → answer ≡ y ∷ more → (r : Row) × Has (filter (is_found place db test sets values low) (db place.tree)) r
  some_found db answer a y more some = go (filter p (db place.tree)) refl
    where
      p : Row → Bool
      p = is_found place db test sets values low

      go : (l : List Row) → filter p (db place.tree) ≡ l → (r : Row) × Has l r
      go (r ∷ rest) e = (r, inl refl)
      go [] e =
          let kept : a.kept ≡ [] = kept_from place.tree test sets [] _ values low db answer a ∙ ap (map _) e in
          let none : 0 ≡ length a.ordered = ap length (sym kept) ∙ sym (length_permutation _ _ a.same) in
          let shown : length answer ≡ length a.ordered = ap length a.shown ∙ length-map a.ordered _ in
          absurd (omega (arith, none, shown, ap length some))

  changed : (old new : Trees) (count : ℕ) (u : Is old new count) (y : Row) (more : List Row) → u.answer ≡ y ∷ more → (rows : List Row) → TreeHolds place old rows
      → TreeHolds place new (put place.keys values rows)
  changed old new count u y more some rows keeps =
      let s = some_found old u.answer u.found y more some in
      let it = has_filtered (is_found place old test sets values low) (old place.tree) s.0 s.1 in
      let has_it = sym (found_is old rows keeps s.0 it.0) ∙ it.1 in
      let one = λ (x : Row) (k : Has (old place.tree) x) (passes : is_found place old test sets values low x ≡ true).
      one_row place old rows keeps values x s.0 k it.0 (sym (found_is old rows keeps x k) ∙ passes) has_it in
      let answer = found_one place old test sets values low rows keeps s.0 it.0 it.1 one u.answer u.found ∙ ap (λ v. v ∷ []) (gives s.0) in
      keeps_changed place like values casts shown_as filled old new rows keeps s.0 it.0 has_it u.answer answer u.fresh u.rows

  updated : (old new : Trees) → IsSound schema new → (count : ℕ) (u : Is old new count) (answer : List Row) → u.answer ≡ answer
      → Updated place schema values old new count
  updated old new sound zero u [] is_none = record { rows = u.rows ∙ ap (λ l. edited old (rewriting old that l)) is_none; others = u.others }
  updated old new sound zero u (y ∷ more) some = search (rules, rewriting)
  updated old new sound (suc n) u [] is_none = search (rules, rewriting)
  updated old new sound (suc n) u (y ∷ more) some =
      record { sound = sound; rows = changed old new (suc n) u y more some; others = u.others }

  -- the statement changes the row that has the key, or none if it says so
  pub executes_update : (old new : State) (count : ℕ) → old.now.schema ≡ schema → Executes sql values old new (Ok count)
      → (new.now.schema ≡ schema) × Updated place schema values old.now.trees new.now.trees count
  executes_update old new count has h =
      let w = runs_as sql values old new schema has Updates_it (command_is schema sql _ is) (is_plain schema sql _ is) count h in
      let text = statement_of sql (understood schema sql) in
      let p = updates old.step_limit old.now.trees text w.tally new.now
      (subst (λ s. Does old.step_limit (mode_of old) values (record old.now { schema = s }) text None
      Updates_it (Ok (w.tally, new.now))) has w.changed) in
      let count_is : count ≡ p.1.0 = w.counted ∙ ap (λ rows. unwrap_or rows 0) p.1.1 in
      let sound = subst (λ s. IsSound s new.now.trees) p.0 w.sound in
      let made = updated old.now.trees new.now.trees sound p.1.0 p.1.2 p.1.2.answer refl in
      (p.0, subst (Updated place schema values old.now.trees new.now.trees) (sym count_is) made)

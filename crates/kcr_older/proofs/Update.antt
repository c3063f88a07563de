-- UPDATE of the one number of the table of versions.
use Rattle.kcr_older.proofs.Common.{rules, ◌==◌, ◌≡◌, ℕ, ℤ, pos, true, false, not, None, Ok, List, [], ◌∷◌, map, codes, refl, sym, ap, subst, ◌∙◌}
use Rattle.kcr_older.proofs.Common.{list_all, IsPermutation, IsPermutation-refl, Command, Term, lit, col, Row, Trees, rowid, put_row, Database, State}
use Rattle.kcr_older.proofs.Common.{Executes, mode_of, Null, Int, IsPlain, command_of, statement_of, runs_as, one_step, one_permutation, IsShaped}
use Rattle.kcr_older.proofs.Common.{IsSound, cells, TreeHolds, TableLayout, reading, keeps_still, version_row, Version, register_schema, versions}
use Rattle.kcr_older.proofs.Common.{StoredTables, Holds, versions_place, numbered}
use Rattle.std.proofs.lemmas.Cmp.{tied_itself}
use Rattle.sqlite.specs.{Command.TheVariants.Update, Order.column, Rows.Written}
use Rattle.sqlite_trees.specs.Tree.{without_rowid}
use Rattle.sqlite.specs.{Cast.cast_row, Listing.understood, Does.Tally, Does.Does, Rowids.TheVariants.Given}
use Rattle.sqlite.specs.Edit.{Edit, edit_of, edited, id_in}
use Rattle.sqlite_tied.specs.Compute.{everything}
use Rattle.sqlite_trees.specs.declared.store.Shape.TheVariants as shape
use Rattle.sqlite_value.proofs.OrderLemmas.{value_cmp_total}
use Rattle.sqlite_schema.specs.declared.schema.Keys.TheVariants.{Enforced}
use Rattle.sqlite_rules.specs.{Edit.Applies, Calls.ids_of}
use Rattle.sqlite_rules.proofs.TableLemmas.{int_is}
use Rattle.kcr_rows.proofs.WriteLemmas.{went, same_value, cast_int}
use Rattle.kcr_older.proofs.NumberLemmas.{every_row}

-- ---- the statement

abbrev project : List Term
project = col 1 0 ∷ col 1 0 ∷ lit (Int (pos 3)) ∷ []

abbrev set_text : List ℕ
set_text = codes "UPDATE versions SET number = 3"

abbrev Sets : Command
Sets = Update 13 (record { lets = []; body = reading versions_place.tree [] project [] })

set_is : (command_of (understood register_schema set_text) ≡ Sets) × IsPlain (understood register_schema set_text)
unfolding understood everything
set_is = (refl, (refl, refl))

abbrev show_set : Row → Row
show_set r = column r 0 ∷ column r 0 ∷ Int (pos 3) ∷ []

abbrev edit_for : Trees → List Row → Edit
edit_for trees rows = edit_of trees versions (ids_of rows) Given 1 rows

record IsSet (trees next : Trees) : Type 0 where
  rows : List Row
  shown : IsPermutation (map show_set (trees versions_place.tree)) rows
  applies : Applies register_schema Enforced trees (edit_for trees rows) next

updates : (limit : _) (trees : Trees) (text : List ℕ) (tally : Tally) (next : Database)
    → Does limit (record { keys = Enforced; in_doubt = false; may_wait = false }) [] (record { schema = register_schema; trees = trees }) text
    None Sets (Ok (tally, next))
    → (next.schema ≡ register_schema) × IsSet trees next.trees
updates limit trees text tally next h =
    let done = went h in
    let now = ap (λ (p : Tally × Database). p.1) (same_value (went (went done.2).2).2) in
    let queried = went done.1 in
    let edited_as = went queried.2 in
    let applies = one_step register_schema Enforced trees edited_as.0 (edit_for trees queried.0) refl edited_as.1 in
    let trees_is : next.trees ≡ edited_as.0 = ap (λ (d : Database). d.trees) now ∙ ap (λ (w : Written). w.trees) (same_value edited_as.2) in (
      ap (λ (d : Database). d.schema) now,
      record {
        rows = queried.0;
        shown = every_row versions_place.tree project show_set (λ r. refl) refl trees queried.0 (queried.1.answer Null);
        applies = subst (λ (t : Trees). Applies register_schema Enforced trees (edit_for trees queried.0) t) (sym trees_is) applies;
      },
    )

one_entry : (g : Row → Row) (xs : List Row) (y : Row) → map g xs ≡ y ∷ [] → (e : Row) × (xs ≡ e ∷ [])
one_entry g [] y h = absurd cc
one_entry g (e ∷ []) y h = (e, refl)
one_entry g (e ∷ other ∷ more) y h = absurd cc

gone_one : (i : ℤ) (e : Row) → rowid e ≡ Int i → without_rowid i (e ∷ []) ≡ []
gone_one i e h = rw (h, tied_itself value_cmp_total (Int i)) refl

-- the row of the one entry
set_tree : (trees next : Trees) (e : Row) (i : ℤ) → trees versions_place.tree ≡ e ∷ [] → rowid e ≡ Int i → IsSet trees next
    → next versions_place.tree ≡ (Int i ∷ Int (pos 3) ∷ []) ∷ []
set_tree trees next e i one id s =
    let rows_is : s.rows ≡ show_set e ∷ [] = one_permutation _ _ (subst (λ l. IsPermutation (map show_set l) s.rows) one s.shown) in
    let shown_is : s.rows ≡ (Int i ∷ Int i ∷ Int (pos 3) ∷ []) ∷ [] = rows_is ∙ ap (λ v. (v ∷ v ∷ Int (pos 3) ∷ []) ∷ []) id in
    s.applies.rows
    ∙ ap (λ rows. edited trees (edit_for trees rows)) shown_is
    ∙ ap (λ l. put_row (cast_row versions (Int i ∷ Int (pos 3) ∷ [])) (without_rowid i l)) one
    ∙ ap (λ l. put_row (cast_row versions (Int i ∷ Int (pos 3) ∷ [])) l) (gone_one i e id)
    ∙ (λ j. (cast_int i j ∷ cast_int (pos 3) j ∷ []) ∷ [])

-- the statement sets the number of the version to 3 and leaves all other rows
pub sets : (n : ℕ) (old new : State) (count : ℕ) (t : StoredTables) → t.versions ≡ numbered n → Holds old.now t
    → Executes (codes "UPDATE versions SET number = 3") [] old new (Ok count) → Holds new.now (record t { versions = numbered 3 })
sets n old new count t one held h =
    let o = old.now.trees in
    let m = new.now.trees in
    let k = held.kept in
    let w = runs_as set_text [] old new register_schema held.schema Sets set_is.0 set_is.1 count h in
    let text = statement_of set_text (understood register_schema set_text) in
    let u =
    updates old.step_limit o text w.tally new.now
    (subst (λ s. Does old.step_limit (mode_of old) [] (record old.now { schema = s }) text None Sets (Ok (w.tally, new.now))) held.schema w.changed) in
    let kept : TreeHolds versions_place o ((Int (pos n) ∷ []) ∷ []) = subst (λ (vs : List Version). TreeHolds versions_place o (map version_row vs)) one k.versions in
    let e = one_entry (cells versions_place) (o versions_place.tree) (Int (pos n) ∷ []) (one_permutation _ _ kept.same) in
    let shaped = subst (IsShaped shape.Table) e.1 kept.shaped in
    let id : rowid e.0 ≡ Int (id_in (rowid e.0)) = int_is (rowid e.0) shaped.1.0 in
    let tree : m versions_place.tree ≡ (Int (id_in (rowid e.0)) ∷ Int (pos 3) ∷ []) ∷ [] = set_tree o m e.0 (id_in (rowid e.0)) e.1 id u.1 in
    let still : (place : TableLayout) (rows : List Row) → (place.tree == versions_place.tree) ≡ false
    → list_all (λ i. not (i.tree == place.tree)) register_schema.indexes ≡ true
    → TreeHolds place o rows → TreeHolds place m rows
    = λ place rows. keeps_still register_schema versions_place.tree place o m rows u.1.applies.others in
    let sound : IsSound register_schema m = subst (λ s. IsSound s m) u.0 w.sound in
    let number : TreeHolds versions_place m ((Int (pos 3) ∷ []) ∷ []) = record {
      same = subst (λ l. IsPermutation ((Int (pos 3) ∷ []) ∷ []) (map (cells versions_place) l)) (sym tree) (IsPermutation-refl ((Int (pos 3) ∷ []) ∷ []));
      rising = (tt, tt);
      full = (refl, tt);
      shaped = subst (IsShaped shape.Table) (sym tree) ((tt, tt), (refl, tt));
    } in
    record { schema = u.0; kept = search (rules, still, sound, number) }

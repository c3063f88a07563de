-- The names that most proofs cite, passed on from one place. Declares nothing.
pub use Rattle.sqlite.proofs.Callers.{IsPlain, command_of, one_permutation, one_step, reads_as, runs_as, statement_of}
pub use Rattle.sqlite.specs.{Cast.cast, Cast.cast_all, Cast.cast_row, Command.Command, Program.overlay}
pub use Rattle.sqlite.specs.{Collation.TheVariants.Binary, Schema.Schema, Table.Table}
pub use Rattle.sqlite.specs.Command.TheVariants.{CreateTable, Insert, Select, Update}
pub use Rattle.sqlite.specs.{Does.Does, Does.Tally, Does.lacks_sequence, Effect.Database, Effect.Reads, Effect.value_rows}
pub use Rattle.sqlite.specs.Edit.{Edit, IsNoIndex, are_fresh, edit_of, edited, id_in, is_taken, left_by, taken_by, with_rowid}
pub use Rattle.sqlite.specs.{Listing.reads_listing, Source.TheVariants.Values, Rowids.TheVariants.Chosen, Rowids.TheVariants.Given}
pub use Rattle.sqlite.specs.{Ops.from_truth, Ops.is_null, Ops.is_true, Order.Row, Order.column, Order.value_cmp}
pub use Rattle.sqlite.specs.Query.{IsAnswer, Output, Query, end, inner, key_cmp, output, output_cmp}
pub use Rattle.sqlite.specs.State.{Executes, Fails, HasCleanDisk, IsTooLate, IsUnchanged, KeepsCommit, State, Survives, Writes, mode_of, text_of}
pub use Rattle.sqlite.specs.Term.{Term, col, eval_all, holds, lit}
pub use Rattle.sqlite.specs.Tree.{IsAscending, IsTable, Trees, has_rowid, put_row, rowid, without_rowid}
pub use Rattle.sqlite.specs.declared.types.Value.{Value, TheVariants.Int, TheVariants.Null, TheVariants.Text}
pub use Rattle.sqlite_catalog.specs.Listing.{IsSound}
pub use Rattle.sqlite_resolve.specs.Compile.{first, planned, table_in, with_command}
pub use Rattle.sqlite_rules.proofs.ListLemmas.{all_from, all_has, has_filtered, has_kept, some_from}
pub use Rattle.sqlite_rules.proofs.ProbeLemmas.{has_mapped, mapped_has}
pub use Rattle.sqlite_rules.specs.{Action.works, Lists.Has, Edit.put_all}
pub use Rattle.sqlite_schema.specs.Rules.{Fits, Keeps, agree, clashes, differ, equal, guards, passes}
pub use Rattle.sqlite_schema.specs.declared.schema.Keys.TheVariants.{Enforced}
pub use Rattle.sqlite_sql.proofs.QueryLemmas.{key_cmp_total, output_cmp_total}
pub use Rattle.sqlite_trees.proofs.ListLemmas.{IsPermutation-filter, IsPermutation-same, all-filter, all-permutation, all-slice_get, all_from_map}
pub use Rattle.sqlite_trees.proofs.ListLemmas.{all_of, all_weaker, ascending-filter, ascending-map, ascending_from_map, ascending_weaker, filter-map}
pub use Rattle.sqlite_trees.proofs.ListLemmas.{filter_all, filter_none, filter_same, map-map}
pub use Rattle.sqlite_trees.specs.View.{IsShaped, is_int}
pub use Rattle.sqlite_value.proofs.OrderLemmas.{then-Equal, value_cmp-Int, value_cmp-Text, value_cmp_total}
pub use Rattle.sqlite_value.specs.{Keys.plain, Keys.rising, declared.keys.Key.Key}
pub use Rattle.std.proofs.Common.{Bool, Equal, Err, Greater, IfErr, IfOk, IsErrAnd, IsSorted, IsTrue, Less, List, None, Ok, OnOk, Option, Ordering}
pub use Rattle.std.proofs.Common.{Result, Some, [], ap, arith, codes, cond, eq-eqb, false, filter, flat_map, inl, inr, is_lt, length, map, nat_le}
pub use Rattle.std.proofs.Common.{negsuc, not, pos, refl, rules, slice_get, slice_index_or, subst, suc, sym, take, true, true≢false, unwrap_or, zero}
pub use Rattle.std.proofs.Common.{ℕ, ℤ, ◌&&◌, ◌++◌, ◌/◌, ◌==◌, ◌^◌, ◌||◌, ◌∙◌, ◌∷◌, ◌≡◌, ◌≢◌, ◌≤◌, ◌⊎◌}
pub use Rattle.std.proofs.lemmas.Bool.{and_parts, cases_Bool, cond-false, false_from_ne_true, not-true, or_parts, Decides.nat_tests}
pub use Rattle.std.proofs.lemmas.Cmp.{on_total, tied_itself, upto}
pub use Rattle.std.proofs.lemmas.List.{append_cancel_left, length-map, map-id, nil_from_length, take-map}
pub use Rattle.std.proofs.lemmas.List.Sorted.{IsPermutation-cons, IsPermutation-map, IsPermutation-middle, IsPermutation-refl, IsPermutation-sym}
pub use Rattle.std.proofs.lemmas.List.Sorted.{IsPermutation-trans, length_permutation, list_any-IsPermutation}
pub use Rattle.std.specs.Bool.{⊤}
pub use Rattle.std.specs.Cmp.{IsTotalOrder, both_ways}
pub use Rattle.std.specs.List.{All, AllByRecursion, list_all, list_any, Sorted.IsPermutation}
pub use Rattle.std.specs.Ordering.{int_cmp, is_eq, is_gt, match_ordering, ordering_reverse}
pub use Rattle.kcr_base.specs.{Facility.facility_text, declared.place.Facility.Facility}
pub use Rattle.kcr_rows.specs.{Columns.AreEmpty, Columns.simple_as, Texts.Means, Values.int_or_null, Values.truth_number}
pub use Rattle.kcr_rows.specs.Keyed.{TableLayout, TreeHolds, by_key, cells, is_full, put_in}

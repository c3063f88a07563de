-- The names that most proofs cite, passed on from one place. Declares nothing.
pub use Rattle.sqlite.specs.{Collation.TheVariants.Binary, Ops.from_truth, Ops.is_true, State.HasCleanDisk, State.Shown, State.State}
pub use Rattle.sqlite.specs.{Held.state, Order.Row, Order.column, Tree.IsAscending, Tree.Trees}
pub use Rattle.sqlite.specs.Query.{IsAnswer, Output, Query, key_cmp, output_cmp}
pub use Rattle.sqlite.specs.Term.{Term, col, holds, lit, op2}
pub use Rattle.sqlite.specs.declared.types.Value.TheVariants.{Int, Null, Text}
pub use Rattle.sqlite_keyed.proofs.{ListLemmas.all_from_test, ListLemmas.slice_get-filter, SortLemmas.sorted_is-sort_by, SortLemmas.sorted_unique}
pub use Rattle.sqlite_sql.specs.declared.ops.BinaryOp.TheVariants.{Compare, Is}
pub use Rattle.sqlite_sql.specs.declared.ops.CompareOp.TheVariants.{Eq, Gt, Le}
pub use Rattle.sqlite_trees.proofs.ListLemmas.{IsPermutation-filter, IsPermutation-same, all-filter, all-permutation, all-slice_get, all_both}
pub use Rattle.sqlite_trees.proofs.ListLemmas.{all_weaker, along_permutation, ascending-filter, ascending-get_or, ascending-map, ascending_from_map}
pub use Rattle.sqlite_trees.proofs.ListLemmas.{ascending_weaker, filter-map, filter_all, filter_none, map-map}
pub use Rattle.sqlite_value.proofs.OrderLemmas.{then-Equal, value_cmp-Int, value_cmp-Text, value_cmp_total}
pub use Rattle.std.proofs.Common.{Bool, Equal, Greater, IfOk, IsSome, IsSorted, Less, List, None, Ok, Option, Ordering, Result, Some, [], ap}
pub use Rattle.std.proofs.Common.{append-nil, append_assoc, ap₂, arith, codes, cond, drop, false, filter, find, get_or, is_lt, is_some, length}
pub use Rattle.std.proofs.Common.{length-append, map, nat_lt, negsuc, not, option_map, pos, refl, rules, slice_get, subst, suc, sym, take, true}
pub use Rattle.std.proofs.Common.{true≢false, unwrap_or, zero, ℕ, ◌&&◌, ◌*◌, ◌++◌, ◌+◌, ◌-◌, ◌<◌, ◌==◌, ◌||◌, ◌∙◌, ◌∷◌, ◌≡◌, ◌≤◌}
pub use Rattle.std.proofs.lemmas.Bool.{and_parts, eqb-true, false≢true, Decides.nat_tests}
pub use Rattle.std.proofs.lemmas.Cmp.{nat_cmp_total, nat_list_cmp_total, on_total, then_total, tied_itself}
pub use Rattle.std.proofs.lemmas.List.{length-take, map-append, map-id, map_more, nil_from_length, take-append-drop, take-map, take_all}
pub use Rattle.std.proofs.lemmas.List.Sorted.{IsPermutation-map, IsPermutation-sym, IsPermutation-trans, length_permutation}
pub use Rattle.std.specs.{Cmp.IsTotalOrder, Cmp.Lexicographic.slice_cmp, Vec.Iter.into_iter_items, Vec.Iter.into_iter_len}
pub use Rattle.std.specs.List.{AllByRecursion, list_all, Sorted.IsPermutation}
pub use Rattle.std.specs.Option.{option_copied, option_map_or, option_to_list}
pub use Rattle.std.specs.Ordering.{is_eq, is_gt, is_le, nat_cmp, ordering_reverse, ordering_then, then_cmp}
pub use Rattle.kcr_custody.specs.declared.{Item.Item, SafeRow.SafeRow}
pub use Rattle.kcr_history.specs.Prints.{in_order, put_in_order, seated_at, seatings_at}
pub use Rattle.kcr_history.specs.Questions.{is_loose, with_items, with_name, with_seated}
pub use Rattle.kcr_history.specs.declared.row_types.{KeyRow.KeyRow, StepRow.StepRow, SeatingRow.SeatingRow}
pub use Rattle.kcr_room.proofs.Lists.{filter-and}
pub use Rattle.kcr_room.specs.declared.Stay.{Stay}
pub use Rattle.kcr_rows.proofs.{FailLemmas.if_both, FailLemmas.if_ok, FrameLemmas.clean_before}
pub use Rattle.kcr_rows.proofs.FilterLemmas.{filter_as, has_value, value_is}
pub use Rattle.kcr_rows.proofs.{SameLemmas.number_ties, SameLemmas.ties_is, TextLemmas.is_plain, TextLemmas.reads_shown}
pub use Rattle.kcr_rows.proofs.TableLemmas.{each_is, filter_every, same_values}
pub use Rattle.kcr_rows.specs.Keyed.{TableLayout, TreeHolds, by_key, cells}
pub use Rattle.kcr_rows.specs.Rows.{bag_row, exception_row, item_row, key_row, safe_row, seating_row, stay_row, step_row}
pub use Rattle.kcr_tables.proofs.FrameLemmas.{fails_as, reads_by, reads_on, reads_to}
pub use Rattle.kcr_tables.proofs.{HoldLemmas.held_of, StatementLemmas.passing_told, StatementLemmas.rows_shown}
pub use Rattle.kcr_tables.specs.{Frame.Reads, Schema.register_schema, StoredTables.steps_place, TableTexts.column_names, TableTexts.shows}
pub use Rattle.kcr_tables.specs.MachineTables.{HoldsTables, SameRows, TreesHoldTables}
pub use Rattle.kcr_tables.specs.Statements.{Choice, SelectsRows, is_given, shown_columns}
pub use Rattle.kcr_tables.specs.StoredTables.{Holds, StoredTables, bags_place, exceptions_place, items_place, keys_place, seatings_place, stays_place}
pub use Rattle.kcr_reading.specs.FirstRows.{AreFirst, InOrder, IsFirstRow, ShowsFirst, ShowsSome, bound_of}
pub use Rattle.kcr_reading.specs.Remaining.{Begin, IsNextBatchOf, IsNextOf, IsStepWithin, begins_after, begins_with, exceptions_past, is_behind}
pub use Rattle.kcr_reading.specs.Remaining.{is_past, is_past_until, is_stay_past, items_by_code, listed_past, loose_past, people_at, read_ahead}
pub use Rattle.kcr_reading.specs.Remaining.{rows_past, safe_place, safes_in_order, safes_past, serials_past, since_of, stays_past, steps_past}
pub use Rattle.kcr_reading.specs.Remaining.{with_people}

-- The names that most proofs cite, passed on from one place. Declares nothing.
pub use Rattle.sqlite.proofs.Callers.{IsPlain}
pub use Rattle.sqlite.specs.{Command.TheVariants.Select, Order.Row, Order.column, Listing.understood, Program.overlay}
pub use Rattle.sqlite.specs.{Effect.Database, Held.state, Tree.IsAscending, Tree.Trees}
pub use Rattle.sqlite.specs.Query.{IsAnswer, Output, counted, end, inner, output, output_cmp}
pub use Rattle.sqlite.specs.State.{Executes, HasCleanDisk, IsUnchanged, Shown, State, Survives}
pub use Rattle.sqlite.specs.Term.{Term, col, holds, lit, op2}
pub use Rattle.sqlite.specs.declared.types.Value.TheVariants.{Int, Null, Text}
pub use Rattle.sqlite_catalog.specs.Listing.{IsIndexRow, IsSound, IsTableRow, IsViewRow, is_index_row, is_table_row, is_view_row}
pub use Rattle.sqlite_resolve.specs.Compile.{compiled}
pub use Rattle.sqlite_rules.proofs.ListLemmas.{all_from, all_has, has_either, has_filtered, has_found, has_kept, has_left, has_right, some_has}
pub use Rattle.sqlite_rules.specs.Lists.{Has}
pub use Rattle.sqlite_schema.specs.Rules.{clashes, equal}
pub use Rattle.sqlite_trees.proofs.ListLemmas.{IsPermutation-filter, IsPermutation-same, all-append, all_weaker, filter-filter, filter-map}
pub use Rattle.sqlite_trees.proofs.ListLemmas.{filter_none, map-map}
pub use Rattle.sqlite_value.specs.Keys.{ascending, plain}
pub use Rattle.std.proofs.Common.{Bool, Equal, Err, Global, IfErr, IfOk, IsErrAnd, IsPermutation, Less, List, None, Ok, OnOk, Option, Result, Some}
pub use Rattle.std.proofs.Common.{Vec, [], ap, append-nil, append_assoc, arith, codes, cond, false, filter, find, get_or, inl, inr, length, map, max}
pub use Rattle.std.proofs.Common.{min, nat_le, nat_lt, negsuc, not, pos, refl, rules, set, slice_get, subst, subst₂, sym, take, true, true≢false, ℕ}
pub use Rattle.std.proofs.Common.{◌&&◌, ◌++◌, ◌+◌, ◌<◌, ◌==◌, ◌^◌, ◌||◌, ◌∙◌, ◌∷◌, ◌≡◌, ◌≤◌}
pub use Rattle.std.proofs.lemmas.Bool.{and_from, eq-eqb, le-leb, not-true, Decides.nat_tests}
pub use Rattle.std.proofs.lemmas.{Cmp.tied_back, Cmp.tied_itself, List.Sorted.length_permutation, List.Sorted.sum_by-IsPermutation}
pub use Rattle.std.proofs.lemmas.List.{append_cancel_left, length-map, map-append, map-id, map-set, nil_from_length, take_all, take_more}
pub use Rattle.std.proofs.lemmas.List.{Elements.All-from_recursion, Elements.filter-append, Sums.fold_more, Sums.length-filter}
pub use Rattle.std.proofs.lemmas.List.Sorted.{All-permutation, IsPermutation-append_left, IsPermutation-cons, IsPermutation-keeps, IsPermutation-map}
pub use Rattle.std.proofs.lemmas.List.Sorted.{IsPermutation-middle, IsPermutation-refl, IsPermutation-swap, IsPermutation-sym, IsPermutation-trans}
pub use Rattle.std.specs.List.{AllByRecursion, AllZip, list_all, list_any}
pub use Rattle.std.specs.{Ordering.is_eq, Ordering.is_ge, Ordering.is_gt, Prelude.swap}
pub use Rattle.kcr_base.proofs.Members.{IsIn, in-any, in-append, in-behind, in-filter, in-front, in-order}
pub use Rattle.kcr_base.specs.{Same.same_text, declared.place.Place.Place, declared.refusal.Refusal.Refusal}
pub use Rattle.kcr_history.specs.Early.{early_asks}
pub use Rattle.kcr_history.specs.Views.{HasStayCount, Includes, IncludesAll, IncludesAppointments, IncludesStays, IncludesStep, ShowsAppointmentsOf}
pub use Rattle.kcr_history.specs.Views.{ShowsLast, ShowsLastOf, ShowsStaysOf, ShowsStepOf, greatest_number, is_appointment_of, is_appointment_to}
pub use Rattle.kcr_history.specs.Views.{is_exception_of, is_item_of, is_mark_of, is_of_number, is_of_people, is_of_serial, is_seating_of, is_step_at}
pub use Rattle.kcr_history.specs.Views.{is_training_asked, is_withdrawal_of, last_of, last_seated, last_stay, step_asked, training_reaches}
pub use Rattle.kcr_history.specs.declared.views.Selection.{Selection, TheVariants.All, TheVariants.Matching, TheVariants.Nothing}
pub use Rattle.kcr_people.specs.{People.ends_after, People.lasts_beyond, declared.Appointment.Appointment}
pub use Rattle.kcr_room.specs.{Requests.of_ceremony, Requests.stay_count, declared.Stay.Stay, Stays.ends_at_or_after, Stays.stay_reaches}
pub use Rattle.kcr_rows.proofs.{CellLemmas.params_are, PutLemmas.has_same, PutLemmas.mapped_from}
pub use Rattle.kcr_rows.proofs.FailLemmas.{if_both, if_ok, on_ok, on_ok_then, plain_in}
pub use Rattle.kcr_rows.proofs.FilterLemmas.{filter_as, has_value, value_is}
pub use Rattle.kcr_rows.proofs.FrameLemmas.{clean_before, within_fails, within_then, within_to}
pub use Rattle.kcr_rows.proofs.{OrderLemmas.from_map, OrderLemmas.put_in_all, TextLemmas.is_plain, TextLemmas.reads_shown}
pub use Rattle.kcr_rows.proofs.ReadLemmas.{asking, kept_cells, kept_from, matched, reading}
pub use Rattle.kcr_rows.proofs.SameLemmas.{key_total, number_ties, place_ties, text_ties}
pub use Rattle.kcr_rows.proofs.TableLemmas.{Changes, each_is, executes_insert, filter_every, put_in_rows, same_values, shown_checked, shown_exact}
pub use Rattle.kcr_rows.proofs.UpdateLemmas.{Updated, changes_then, executes_update, row_changed}
pub use Rattle.kcr_rows.specs.{CountRow.count_row, Rows.version_row, Greatest.IsGreatest, Refusals.IsFault, Texts.Means}
pub use Rattle.kcr_rows.specs.Frame.{IfClean, StaysInTransaction, state_in}
pub use Rattle.kcr_rows.specs.Keyed.{TableLayout, TreeHolds, by_key, cells, put_in}
pub use Rattle.kcr_rows.specs.Rows.{appointment_row, item_row, key_row, person_row, safe_row, seating_row, stay_row, step_row, training_row}
pub use Rattle.kcr_tables.specs.{Changed.changed_all, Changed.rows_after, Creation.HasEmptyTables, Creation.schema_prefix}
pub use Rattle.kcr_tables.specs.Exact.{AreShown, HasNoInvalidRow, IsOneOf, has_any, has_from, has_key, has_number, has_text, is_beyond_row}
pub use Rattle.kcr_tables.specs.Exact.{is_item_row, is_lasting_row, is_row_of_step, is_stay_row, rows_at}
pub use Rattle.kcr_tables.specs.{Frame.ChangesTables, Frame.Reads, Schema.register_schema}
pub use Rattle.kcr_tables.specs.{MachineTables.HoldsTables, MachineTables.SameRows, StoredTables.steps_place, StoredTables.trainings_place}
pub use Rattle.kcr_tables.specs.Query.{Last, Ordered, Query, SelectsLast, SelectsWhich, Shows, ShowsRows, Unordered, Which}
pub use Rattle.kcr_tables.specs.Selected.{asked_all, asked_of, asked_once, is_under_any}
pub use Rattle.kcr_tables.specs.Statements.{InsertsRow, SelectsRows, UpdatesRow, is_given, shown_columns}
pub use Rattle.kcr_tables.specs.StoredTables.{Holds, StoredTables, TreesHold, appointments_place, keys_place, seatings_place, stays_place}
pub use Rattle.kcr_tables.specs.Table.{IsTable, TableSpec, machine_rows, with_put}
pub use Rattle.kcr_tables.specs.Unordered.{SelectsUnordered, passing, wanted_passing}

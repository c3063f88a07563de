-- The names that most proofs cite, passed on from one place. Declares nothing.
pub use Rattle.sqlite.specs.{Effect.Database, Store.Ghosts, Values.bound, Values.bound_value}
pub use Rattle.sqlite.specs.{Held.Held, Held.state, Order.Row, Order.column, State.HasCleanDisk, State.State, State.Survives}
pub use Rattle.sqlite.specs.{Tree.IsAscending, Tree.Trees, declared.types.Value.Value}
pub use Rattle.sqlite_keyed.proofs.{ListLemmas.ascending-append, ListLemmas.ascending_weaker, SortLemmas.sorted_unique}
pub use Rattle.std.proofs.Common.{Bool, Err, Global, IfOk, IsPermutation, IsSorted, Less, List, MatchOption, None, Ok, Option, Ordering, Result}
pub use Rattle.std.proofs.Common.{Some, Vec, [], add-one, ap, arith, drop, false, get_or, if◌then◌else◌, inl, inr, is_gt, is_some, length}
pub use Rattle.std.proofs.Common.{map, refl, reverse, rules, subst, suc, sym, take, true, true≢false, ℕ, ◌++◌, ◌+◌, ◌<◌, ◌==◌, ◌∙◌, ◌∷◌}
pub use Rattle.std.proofs.Common.{◌≡◌, ◌≢◌, ◌≤◌, ◌⊎◌}
pub use Rattle.std.proofs.lemmas.Bool.{cases_Bool, eqb-true, false_from_ne_true, false≢true}
pub use Rattle.std.proofs.lemmas.Cmp.{lists_equiv, nat_cmp_total, nat_list_eq_equiv, on_total}
pub use Rattle.std.proofs.lemmas.List.{append-nil, append_assoc, drop_all, drop_more, length-map}
pub use Rattle.std.proofs.lemmas.List.{length-reverse, length-take, map-append, map_more, nil_from_length, reverse-append, take-append-drop, take_all}
pub use Rattle.std.proofs.lemmas.List.{take_more, Sorted.length_permutation, Sorted.list_any-IsPermutation}
pub use Rattle.std.proofs.lemmas.List.Sorted.{IsPermutation-refl, IsPermutation-reverse, IsPermutation-sym, IsPermutation-trans, answers_always}
pub use Rattle.std.proofs.lemmas.Result.{IfOk-weaker, err_from_is_err_and}
pub use Rattle.std.specs.{Cmp.IsTotalOrder, Cmp.nat_cmp_is, Prelude.IfSome, Prelude.is_nan, List.AllByRecursion, List.join_with_byte}
pub use Rattle.kcr_base.proofs.ListLemmas.{any-map, each-append, each-weaker, find-none, some_if}
pub use Rattle.kcr_base.proofs.Members.{in-behind, in-front, in-order, map-in, none-passes}
pub use Rattle.kcr_base.proofs.SameLemmas.{same-is}
pub use Rattle.kcr_base.specs.Rows.{IsIn}
pub use Rattle.kcr_base.specs.declared.refusal.Refusal.{Refusal, TheVariants.Disk, TheVariants.Memory}
pub use Rattle.kcr_forms.specs.Acts.{IsAct}
pub use Rattle.kcr_history.proofs.Steps.{numbers, of_machine, same_reply}
pub use Rattle.kcr_history.specs.{Conditions.fault, Texts.command_text, Texts.reply_text, Laws.HasFirstSeatings, Laws.IsSeatedFirst}
pub use Rattle.kcr_history.specs.History.{History, entry_of, values_of_acts}
pub use Rattle.kcr_history.specs.Machine.{Accepts, DecidesNew, IsAcceptedWith, IsOfMachine, IsRegister, IsReplyTo, Refuses, SeatRequest, machine}
pub use Rattle.kcr_history.specs.Machine.{reply_to, seat_request, seats, with_command}
pub use Rattle.kcr_history.specs.Tables.{SameTables, Tables, ceremonies, ceremony_row, key_row, planned_number, seats_at, step_row, steps, tables}
pub use Rattle.kcr_history.specs.declared.commands.{Act.Act, Act.TheVariants.Ceremony, Command.Command, Entry.Entry, ReplyData.ReplyData}
pub use Rattle.kcr_history.specs.declared.commands.Deed.TheVariants.{RecordException, Sign}
pub use Rattle.kcr_history.specs.declared.{row_types.KeyRow.KeyRow, views.FullView.FullView}
pub use Rattle.kcr_laws.proofs.{Accepted.other_outcome, Accepted.step_leads_on, Seatings.machine_first}
pub use Rattle.kcr_rows.specs.declared.kinds.Kind.{Kind}
pub use Rattle.kcr_rules.specs.ByRows.{seat_request_by}
pub use Rattle.kcr_store.proofs.WholeLemmas.{begun_has, counted_at, none_in_doubt, stands_whole, undone_outside}
pub use Rattle.kcr_store.specs.{Calls.OfHistory, Calls.left_at, FullView.AreRows, FullView.IsListed}
pub use Rattle.kcr_store.specs.Register.{RegisterHistory, RegisterState, StandsAt, whole}
pub use Rattle.kcr_tables.specs.Table.{IsTable, TableSpec, machine_rows}
pub use Rattle.kcr_verify.specs.{Invalid.IsInvalidIn, Invalid.first_cells, Seated.TellsSeating, Seated.fill, Seated.fill_by}
pub use Rattle.kcr_verify.specs.Quoted.{cell_text, cell_texts, date_behind, doubled, row_text, value_text}
pub use Rattle.kcr_verify.specs.Verification.{AnswersElse, AreInOrder, AreValues, Declines, DiffersIn, GivesRow, GivesRows, HasRows, HaveOwnKeys}
pub use Rattle.kcr_verify.specs.Verification.{IsDifference, IsFirst, IsFirstCommand, IsFirstOther, IsFirstTable, IsIntact, IsNotNext, IsOther}
pub use Rattle.kcr_verify.specs.Verification.{Rebuilds, Says, StopsFor, Takes, by_number, compared, rows_by_number}
pub use Rattle.kcr_verify.specs.declared.{compare.RowDifference.RowDifference, verification.Difference.Difference}

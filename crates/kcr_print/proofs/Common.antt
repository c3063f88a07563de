-- The names that most proofs cite, passed on from one place. Declares nothing.
pub use base.Stored.{Coded-set}
pub use denote.Ref.{Bor}
pub use Rattle.sqlite.specs.{Held.Held, Held.state, State.HasCleanDisk, Store.Ghosts, Tree.Trees}
pub use Rattle.sqlite_trees.proofs.ListLemmas.{all-permutation, all_weaker, filter_none, flat_map-filter, flat_map_same_on}
pub use Rattle.std.proofs.Common.{Bool, List, [], add-one, add-zero, ap, append-nil, append_assoc, arith, codes, cond, drop, false, filter, get_or}
pub use Rattle.std.proofs.Common.{inl, inr, length, length-append, length-drop, map, min, refl, reverse, rules, subst, suc, sym, take, true, zero, ℕ}
pub use Rattle.std.proofs.Common.{◌++◌, ◌+◌, ◌-◌, ◌<◌, ◌==◌, ◌||◌, ◌∙◌, ◌∷◌, ◌≡◌, ◌≤◌}
pub use Rattle.std.proofs.Math.Logic.{∥∥₁_elim}
pub use Rattle.std.proofs.Math.Seq.{get_or-append_seam, take-add, take-append-add, take-append_seam}
pub use Rattle.std.proofs.lemmas.Bool.{cases_Bool, cases_lt, ne_eqb, true≢false}
pub use Rattle.std.proofs.lemmas.{Grind.flat_map-append, List.Folds.flat_map-map, List.Sorted.IsPermutation-reverse, List.Sorted.IsPermutation-trans}
pub use Rattle.std.proofs.lemmas.List.{drop-drop, drop-map, drop_all, drop_more, get_or_append_left, length-map, length-reverse, map-append, map_more}
pub use Rattle.std.proofs.lemmas.List.{reverse-append, take-append-le, take-map, take_all, take_min}
pub use Rattle.std.specs.{Coded.coded_list, Coded.coded_ℕ, Io.KnownBytes.Appends, Option.option_map_or}
pub use Rattle.std.specs.List.{AllByRecursion, flat_map, join_with_byte}
pub use Rattle.std.specs.Prelude.{Err, IfErr, IsErr, IsErrAnd, None, Ok, OnOk, Option, Result, Some, is_some, ⊤, ◌⊎◌}
pub use Rattle.kcr_base.proofs.ListLemmas.{some_if}
pub use Rattle.kcr_base.specs.{Counted.failures_of, Counted.inner_of, declared.counted.Counted.Counted, declared.refusal.Refusal.Refusal}
pub use Rattle.kcr_forms.specs.Values.{AreValues}
pub use Rattle.kcr_history.specs.{Ceremonies.is_ceremony, History.History, Machine.IsRegister}
pub use Rattle.kcr_history.specs.Prints.{annotated, attendance, bag_lines, bags_in_order, csv_field, csv_line, custody, ends_line, exception_line}
pub use Rattle.kcr_history.specs.Prints.{items_in_order, line_of, loose_line, quotes_doubled, safe_line, seat_lines, seated_at, stay_line, step_lines}
pub use Rattle.kcr_history.specs.Prints.{steps_in_order, wants_quotes, words}
pub use Rattle.kcr_history.specs.Tables.{Tables, ceremony_row, key_row, people, safes, seatings, tables}
pub use Rattle.kcr_history.specs.declared.row_types.{CeremonyRow.CeremonyRow, KeyRow.KeyRow}
pub use Rattle.kcr_reading.specs.Commands.{commands_within, numbered, only}
pub use Rattle.kcr_reading.specs.Remaining.{IsNextOf, exceptions_of, loose_items, named_stays, packed_bags, safes_in_order, seated_steps}
pub use Rattle.kcr_store.proofs.PlannedLemmas.{planned_row}
pub use Rattle.kcr_store.proofs.WholeLemmas.{conn_after, left_by, reads_nothing, reads_then, rows_shown, stands_rows}
pub use Rattle.kcr_store.specs.{Calls.BreaksIf, Calls.OfHistory, Calls.OfRows, Frame.OfRowsOver, Frame.OfRowsShown, Frame.OnlyReads}
pub use Rattle.kcr_store.specs.Register.{IsConsistent, RegisterState, StandsAt, whole}
pub use Rattle.kcr_tables.specs.Refusals.{IsFault}
pub use Rattle.kcr_print.specs.ByRows.{annotated_by, attendance_by, custody_by, row_of_ceremony, script_by}
pub use Rattle.kcr_print.specs.{Journal.PrintsJournal, Journal.row_journal, Written.Writes, Written.WritesPrefix}
pub use Rattle.kcr_print.specs.Lines.{code_line, foot_lines, head_lines, header_line, named_line, packed_lines, seated_lines}
pub use Rattle.kcr_print.specs.Reports.{CountsWriteFaults, IsOfPlanned, IsPrinted, Prints, PrintsCeremonyPart, PrintsPart, PrintsPlanned, PrintsRows}
pub use Rattle.kcr_print.specs.Reports.{RefusesBetweenRows, RefusesUnwritten, Stops}
pub use Rattle.kcr_print.specs.Requests.{Exports, requests_between, row_request, row_requests}
pub use Rattle.kcr_print.specs.declared.fault.PrintFault.{PrintFault, TheVariants.Refused, TheVariants.Write}

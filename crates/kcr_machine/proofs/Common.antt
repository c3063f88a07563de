-- The names that most proofs cite, passed on from one place. Declares nothing.
pub use Rattle.std.proofs.Common.{Bool, Err, List, MatchOption, None, Ok, Option, Result, Some, [], add-one, ap, append-nil, append_assoc, arith}
pub use Rattle.std.proofs.Common.{cond, drop, eqb, false, filter, find, get_or, inl, inr, is_none, is_some, length, map, max, nat_le, nat_lt, not}
pub use Rattle.std.proofs.Common.{option_map, refl, reverse, rules, subst, suc, sym, true, zero, ℕ, ◌&&◌, ◌++◌, ◌+◌, ◌<◌, ◌==◌, ◌||◌, ◌∙◌, ◌∷◌, ◌≡◌}
pub use Rattle.std.proofs.Common.{◌≢◌, ◌≤◌, ◌⊎◌}
pub use Rattle.std.proofs.lemmas.Bool.{and_from, and_left, and_parts, and_right, both_ways, cases_Bool, eq-eqb, eqb-true, false_from_ne_true}
pub use Rattle.std.proofs.lemmas.Bool.{false≢true, le-leb, leb-false, leb-true, lt-ltb, ltb-true, ne_eqb, or_cases, or_from, or_left, or_parts}
pub use Rattle.std.proofs.lemmas.Bool.{or_right, true_from_ne_false, true≢false, Decides.nat_tests}
pub use Rattle.std.proofs.lemmas.List.{drop_all, get_or-map, length-map, Sorted.list_any-IsPermutation, Sorted.sum_by-IsPermutation}
pub use Rattle.std.proofs.lemmas.List.Elements.{All-filter, All-from_recursion, All-head, All-tail, filter_agree, recursion_from_All}
pub use Rattle.std.proofs.lemmas.List.Sorted.{IsPermutation-append, IsPermutation-map, IsPermutation-middle, IsPermutation-refl}
pub use Rattle.std.proofs.lemmas.List.Sorted.{IsPermutation-reverse, IsPermutation-sym, IsPermutation-trans, length_permutation}
pub use Rattle.std.proofs.lemmas.Option.{none-some, same_Some, slice_get_past}
pub use Rattle.std.specs.List.{All, AllByRecursion, cons_option, list_all, list_any, Sorted.IsPermutation, Sorted.IsStrictlyIncreasing}
pub use Rattle.std.specs.Prelude.{EachIndex, IfErr, count_by, if◌then◌else◌, slice_get, slice_index, unwrap_or}
pub use Rattle.std.specs.Result.{result_unwrap_or}
pub use Rattle.kcr_base.proofs.ListLemmas.{Only, all-keys, any-map, any-more, any-same, each-weaker, find-all, find-none, find-only, find-order}
pub use Rattle.kcr_base.proofs.ListLemmas.{map-same, none-find, none-there, some-find, some_if, still, there}
pub use Rattle.kcr_base.proofs.Members.{Implies, IsIn, all-same-in, any-in, filter-in, find-same-in, in-any, in-append, in-behind, in-filter}
pub use Rattle.kcr_base.proofs.Members.{in-front, in-listed, in-map, in-order, listed-in, map-in, map-same-in, none-in, none-passes, same-answers}
pub use Rattle.kcr_base.proofs.RefuseLemmas.{NoneHolds, is_memory, met, no_first, none_holds, unmet}
pub use Rattle.kcr_base.proofs.RowsLemmas.{filter-order, put_all-order}
pub use Rattle.kcr_base.proofs.SameLemmas.{place-same, same-is, same-itself, same-turned}
pub use Rattle.kcr_base.specs.{Days.day_of, Lists.are_apart, Lists.is_among, Rows.option_or, Rows.put, Rows.put_all}
pub use Rattle.kcr_base.specs.Refuse.{before_mark_refusal, first_of, not_after_mark_refusal, when}
pub use Rattle.kcr_base.specs.Same.{is_before, same_facility, same_place, same_text}
pub use Rattle.kcr_base.specs.declared.place.{Facility.Facility, Facility.TheVariants.East, Facility.TheVariants.West, Place.Place, Role.Role}
pub use Rattle.kcr_base.specs.declared.refusal.Refusal.{Refusal, TheVariants.Unknown, TheVariants.Vacant}
pub use Rattle.kcr_base.specs.declared.refusal.Refusal.TheVariants.{Disk, Elsewhere, Full, Held, Key, Late, Memory, Range, Short, State, Taken}
pub use Rattle.kcr_custody.specs.Custody.{is_box, is_loose_at, is_on_table, is_open_by, is_open_row, is_within, keepers_conditions, lies_in}
pub use Rattle.kcr_custody.specs.Custody.{loose_items, no_ca_refusal, not_ready_refusal, place_of_box_by, rest_by, safe_of, safe_of_destination}
pub use Rattle.kcr_custody.specs.Custody.{same_safe, sealed_item, sealed_items, spot_by, spot_of_destination, unknown_bag_refusal}
pub use Rattle.kcr_custody.specs.{Custody.unknown_item_refusal, declared.Spot.Spot, declared.Spot.TheVariants.Spent, declared.Spot.TheVariants.Table}
pub use Rattle.kcr_custody.specs.declared.{Bag.Bag, Item.Item, Destination.Destination, BoxRow.BoxRow, SafeRow.SafeRow}
pub use Rattle.kcr_custody.specs.declared.Rest.{Rest, TheVariants.Loose, TheVariants.Within}
pub use Rattle.kcr_custody.specs.declared.SafeNumber.{SafeNumber, TheVariants.One, TheVariants.Two}
pub use Rattle.kcr_history.proofs.Orderly.{holder-appointments, orderly, standing, turns}
pub use Rattle.kcr_history.proofs.Piled.{any-pushed, filter-pushed, map-pushed, pushed-alone}
pub use Rattle.kcr_history.proofs.Stacked.{closing, in_turn, lasts-ended, no_begin, only-one, put-ended, stacked}
pub use Rattle.kcr_history.proofs.Steps.{ceremony_status_at, greatest-keys, late, no_ceremony, none_ready, not_later, took}
pub use Rattle.kcr_history.proofs.Words.{ever_put-appointments, ever_trained-trainings, is_person-people, is_training-trainings, planned-number}
pub use Rattle.kcr_history.proofs.Words.{row_of_key-keys}
pub use Rattle.kcr_history.specs.AsksByKind.{asks_bag, asks_of, asks_of_act, stay_count_asked}
pub use Rattle.kcr_history.specs.Ceremonies.{Planned, closed_at, does_step, exceptions_of, facility_of, is_ceremony, is_ceremony_open, is_exception}
pub use Rattle.kcr_history.specs.Ceremonies.{mark, marked_moment, next_step, opened_at, opened_number, opening_moment, plan_of, planned_as, step_at}
pub use Rattle.kcr_history.specs.{Ceremonies.steps_done, Ceremonies.steps_of, History.pushed_onto, History.values_of_acts}
pub use Rattle.kcr_history.specs.Changes.{all_changed, changed, same_appointment, same_ceremony, same_exception, same_key_row, same_mark, same_person}
pub use Rattle.kcr_history.specs.Changes.{same_safe_row, same_seating, same_sheet_row, same_stay, same_step}
pub use Rattle.kcr_history.specs.Conditions.{by_history, conditions, early_conditions, fault, is_empty, is_full, is_holder_present, is_overfull}
pub use Rattle.kcr_history.specs.Conditions.{is_room_used, late_conditions, named_twice_refusal, out_of_turn_refusal, sheet_conditions}
pub use Rattle.kcr_history.specs.Custody.{added_at, added_box_place, boxes_place, cut_at, is_open, is_spent, place_of_box, rest, rest_in, sealed_in}
pub use Rattle.kcr_history.specs.{Custody.spot, Custody.spot_after, Early.Completes, Early.early_asks}
pub use Rattle.kcr_history.specs.History.{History, entry_of, greatest, has_command, last_value_of_acts, last_value_with_history, max_with}
pub use Rattle.kcr_history.specs.Machine.{Accepts, CanFollow, DecidesNew, IsAcceptance, IsAcceptedWith, IsDecision, IsRegister, IsRepeat, IsReplyTo}
pub use Rattle.kcr_history.specs.Machine.{Refuses, SeatRequest, machine, reply_to, seat_request, seats, with_command}
pub use Rattle.kcr_history.specs.Room.{has_trained_present, is_in, present, sheet, sheet_after}
pub use Rattle.kcr_history.specs.Seating.{IsFirst, IsLeast, comes_first, eligible, fits, is_eligible_at, is_seating, is_short, rise, who_fit}
pub use Rattle.kcr_history.specs.Tables.{SameTables, Tables, added_item, appointments, bag_row, bags, box_row, boxes, ceremonies, ceremony_of_step}
pub use Rattle.kcr_history.specs.Tables.{ceremony_row, ended, exceptions, item_row, items, key_row, keys, mark_row, marks, numbered, people}
pub use Rattle.kcr_history.specs.Tables.{planned_number, safes, sealed_serial, seat_rows, seating_rows, seatings, seats_at, step_keys, step_result}
pub use Rattle.kcr_history.specs.Tables.{step_row, steps, tables, trainings, withdrawals}
pub use Rattle.kcr_history.specs.Training.{ever_trained, is_person, is_training, trained}
pub use Rattle.kcr_history.specs.Views.{HasStayCount, IncludesStep, IsViewOf, ShowsLast, ShowsLastOf, ShowsStaysOf, greatest_number}
pub use Rattle.kcr_history.specs.Views.{is_appointment_of, is_appointment_to, is_exception_of, is_item_of, is_mark_of, is_of_key, is_of_number}
pub use Rattle.kcr_history.specs.Views.{is_of_people, is_of_serial, is_seating_of, is_step_at, is_training_of, is_withdrawal_of, last_of, last_seated}
pub use Rattle.kcr_history.specs.Views.{last_stay, row_of_key, training_reaches}
pub use Rattle.kcr_history.specs.declared.commands.{Act.Act, Entry.Entry, Command.Command, ReplyData.ReplyData}
pub use Rattle.kcr_history.specs.declared.commands.Act.TheVariants.{AddBox, Appoint, Ceremony, Enter, Plan, Release, Replace, Train, Withdraw}
pub use Rattle.kcr_history.specs.declared.commands.Deed.TheVariants.{AddItem, Close, Cut, Open, Put, RecordException, RecordSheet, Seal, SetSafe}
pub use Rattle.kcr_history.specs.declared.commands.Deed.TheVariants.{Sign, Take}
pub use Rattle.kcr_history.specs.declared.row_types.{CeremonyRow.CeremonyRow, SeatingRow.SeatingRow}
pub use Rattle.kcr_history.specs.declared.row_types.{KeyRow.KeyRow, MarkRow.MarkRow, StepRow.StepRow, StepState.StepState}
pub use Rattle.kcr_history.specs.declared.views.{Change.Change, Change.TheVariants.PutWithdrawal, StepFilter.StepFilter, Verdict.Verdict, View.View}
pub use Rattle.kcr_history.specs.declared.views.Change.TheVariants.{PutBag, PutItem, PutKey, PutMark, PutSeating, PutSheet, PutStay, PutStep}
pub use Rattle.kcr_laws.proofs.{Alone.rooms, Staffed.TellsHolders, Staffed.fits-on, Stored.box-there, Stored.items_known, Stored.sealed_somewhere}
pub use Rattle.kcr_laws.proofs.Done.{count-cons, done-after, next_signed, one_more}
pub use Rattle.kcr_people.specs.People.{covers, end_of, ends_after, ends_from, ever_put_by, ever_trained_by, holds, is_of, is_open_ended}
pub use Rattle.kcr_people.specs.People.{is_person_by, is_withdrawn_by, lasts, lasts_beyond, least_day, nobody, open_row_by, person_holds_from_by}
pub use Rattle.kcr_people.specs.People.{place_held_from_by, same_training, trained_by, trained_from_by, trains, withdrawal_of, withdrawn_rows}
pub use Rattle.kcr_people.specs.declared.{Appointment.Appointment, Withdrawal.Withdrawal, Person.Person, Training.Training}
pub use Rattle.kcr_room.proofs.{Agreement.same-crowd, Agreement.same-present, Lists.filter-kept, Lists.map-map}
pub use Rattle.kcr_room.proofs.Keeping.{none-found, present_are_in, turns_keep}
pub use Rattle.kcr_room.proofs.Orders.{before-turned, present-order, refusal-order, turn-order}
pub use Rattle.kcr_room.proofs.Sheets.{added, earlier-last, last_reaches, made-in-turn, row-added, rows-added, same-turns}
pub use Rattle.kcr_room.specs.Laws.{IsNeverLoneOrCrowded, IsSheet, are_rising}
pub use Rattle.kcr_room.specs.Requests.{changed_stays, has_no_end, is_inside, is_inside_of, is_open_stay_of, is_out_of_turn_by, is_out_of_turn_in}
pub use Rattle.kcr_room.specs.Requests.{is_overfull_by, new_row, new_stay, of_ceremony, reaches, rows_refusal, stay_count}
pub use Rattle.kcr_room.specs.Requests.{stays_refusal, turn_refusal, with_end}
pub use Rattle.kcr_room.specs.Room.{Followed, ascending, enters, followed_rows, in_row_count_by, last_onto, last_row_of, later_row, present_by}
pub use Rattle.kcr_room.specs.Stays.{headcount_in_by, next_of, present_in_by, stay_covers, stay_from, stay_reaches, stays_by, stays_of}
pub use Rattle.kcr_room.specs.declared.{SheetRow.SheetRow, Stay.Stay, Way.Way, Way.TheVariants.Leave}
pub use Rattle.kcr_rules.specs.ByRows.{IsCheckResult, IsCleared, IsSeatedFor, IsUnseatedFor, all_changes_by, changes_by, early_refusal_by}
pub use Rattle.kcr_rules.specs.ByRows.{has_too_many_steps, late_refusal_by, new_appointment, seat_request_by}
pub use Rattle.kcr_rules.specs.CeremonyRows.{is_open_beside, is_unended, lies_on_table, planned_row, planned_step_row, planned_step_rows}
pub use Rattle.kcr_rules.specs.CeremonyStatus.{ceremony_by, facility_of_row, has_trained_present_by, is_holder_present_by, is_in_by, mark_by}
pub use Rattle.kcr_rules.specs.SheetRows.{room_refusal, sheet_changes_by}
pub use Rattle.kcr_rules.specs.Signing.{IsSeatedBy, IsUnseatedBy, exception_change, exception_count_by, fits_of, mark_change, next_step_by, on_seat}
pub use Rattle.kcr_rules.specs.Signing.{room_by, seat_changes, seats_by, staff, step_by}
pub use Rattle.kcr_script.proofs.ScriptReading.{HasForm, script_has_steps, steps_have_form}
pub use Rattle.kcr_script.specs.{Reading.script_of, declared.script.Step.Step, declared.seat.Seat.Seat}
pub use Rattle.kcr_machine.specs.NewDecision.{AcceptsNew, IsRowDecision, new_key_row, reply_by}
pub use Rattle.kcr_machine.specs.RowDecision.{IsOfKind, IsOwnRefusal, IsReplyDataOf, IsRowRepeat, MayBeRefused, is_full_by}

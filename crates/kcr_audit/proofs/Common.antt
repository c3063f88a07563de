-- The names that most proofs cite, passed on from one place. Declares nothing.
pub use Rattle.std.proofs.Common.{Bool, List, None, Option, Some, [], ap, arith, cond, drop, eqb, false, get_or, inl, inr, is_some, length, map}
pub use Rattle.std.proofs.Common.{nat_lt, not, option_map, refl, rules, subst, suc, sym, take, true, ℕ, ◌&&◌, ◌++◌, ◌+◌, ◌<◌, ◌==◌, ◌||◌, ◌∙◌, ◌∷◌}
pub use Rattle.std.proofs.Common.{◌≡◌, ◌≢◌, ◌≤◌}
pub use Rattle.std.proofs.lemmas.Bool.{and_from, and_parts, and_right, cases_Bool, cases_order, cond_both, eq-eqb, eqb-true, le-ltb, lt-ltb}
pub use Rattle.std.proofs.lemmas.Bool.{ltb-false, ltb-true, not-false, not-true, or_cases, or_left, or_right, true≢false}
pub use Rattle.std.proofs.lemmas.List.Sorted.{Contains-permutation, IsPermutation-reverse, IsPermutation-sym, IsPermutation-trans}
pub use Rattle.std.proofs.lemmas.List.Sorted.{list_any-IsPermutation, sum_by-IsPermutation}
pub use Rattle.std.specs.HashSet.{contains}
pub use Rattle.std.specs.List.{All, Contains, count_by, filter, list_all, list_any, Sorted.IsPermutation}
pub use Rattle.std.specs.Prelude.{find, reverse, unwrap_or, ◌⊎◌}
pub use Rattle.kcr_base.proofs.ListLemmas.{all-keys, any-map, any-more, any-same, find-only, none-find, only-order}
pub use Rattle.kcr_base.proofs.Members.{IsIn, filter-in, in-append, in-filter, in-order, in-shuffled}
pub use Rattle.kcr_base.proofs.{RefuseLemmas.none_holds, RefuseLemmas.unmet, SameLemmas.same-is, SameLemmas.same-itself, SameLemmas.same-turned}
pub use Rattle.kcr_base.proofs.RowsLemmas.{Shuffled, after, filter-order, flipped, nothing, shuffled, under}
pub use Rattle.kcr_base.specs.Same.{same_text}
pub use Rattle.kcr_history.proofs.Steps.{Took, no_ceremony, took}
pub use Rattle.kcr_history.specs.Audit.{IsTrueOf, are_numbered, ceremony_in, eligible_by, has_invalid_seating, has_valid_seating, is_bag_there}
pub use Rattle.kcr_history.specs.Audit.{is_duplicate, is_in_missing_box, is_lost, is_seating_by, rank}
pub use Rattle.kcr_history.specs.Ceremonies.{is_ceremony, next_step, steps_done, steps_of}
pub use Rattle.kcr_history.specs.{Conditions.conditions, Conditions.fault, Tables.step_row, Tables.steps, Tables.tables}
pub use Rattle.kcr_history.specs.History.{History, pushed_onto, values_of_acts}
pub use Rattle.kcr_history.specs.{Laws.has_its_box, Laws.is_kept, Laws.is_seated, Seating.eligible, Seating.fits, Seating.is_seating}
pub use Rattle.kcr_history.specs.Machine.{IsRegister, reply_to, seat_request}
pub use Rattle.kcr_history.specs.Tables.{SameTables, added_item, bag_row, bags, boxes, ceremonies, ceremony_of_step, ceremony_row, item_row, key_row}
pub use Rattle.kcr_history.specs.Tables.{keys, planned_number, sealed_serial, seat_rows, seating_rows, seatings, seats_at, step_done, step_result}
pub use Rattle.kcr_history.specs.declared.{commands.Act.Act, commands.Act.TheVariants.Ceremony, views.Finding.Finding, views.FullView.FullView}
pub use Rattle.kcr_history.specs.declared.commands.Deed.TheVariants.{RecordException, RecordSheet, Sign}
pub use Rattle.kcr_history.specs.declared.row_types.{KeyRow.KeyRow, StepRow.StepRow, SeatingRow.SeatingRow}
pub use Rattle.kcr_laws.proofs.Alone.{rooms, turns}
pub use Rattle.kcr_room.proofs.Lists.{count-cons, map-map}
pub use Rattle.kcr_room.specs.Room.{Followed, enters, followed_rows, headcount_by, in_by, is_of, last_enters, last_onto, last_row, later_row}
pub use Rattle.kcr_room.specs.declared.SheetRow.{SheetRow}
pub use Rattle.kcr_script.specs.declared.seat.Seat.{Seat}
pub use Rattle.kcr_audit.specs.Defects.{IsRepeated, is_bag_wrong, is_item_wrong, is_key_duplicate, is_step_wrong, put_row, rows_in_order}
pub use Rattle.kcr_audit.specs.Rooms.{IsSometime, IsSoughtAmong, is_crowd, is_crowd_at, is_lone}
pub use Rattle.kcr_audit.specs.Views.{tables_of}

-- The names that most proofs cite, passed on from one place. Declares nothing.
pub use Rattle.std.proofs.Common.{Bool, List, None, Option, Some, [], ap, append-nil, append_assoc, arith, cond, drop, drop-cons, false, get_or, leb}
pub use Rattle.std.proofs.Common.{length, length-append, map, nat_eq, nat_le, nat_lt, not, refl, rules, set, subst, suc, sym, take, true, zero, ℕ}
pub use Rattle.std.proofs.Common.{◌&&◌, ◌++◌, ◌+◌, ◌<◌, ◌==◌, ◌||◌, ◌∙◌, ◌∷◌, ◌≡◌, ◌≤◌}
pub use Rattle.std.proofs.Math.Bool.{or-false}
pub use Rattle.std.proofs.lemmas.Bool.{eq-eqb, eqb-false, le-ltb, or_parts}
pub use Rattle.std.proofs.lemmas.Cmp.{nat_cmp_total, nat_list_cmp_total, same_from_slice_cmp, then_total}
pub use Rattle.std.proofs.lemmas.{Grind.common_steps, List.Sums.length-filter, List.Sums.sum_by-append, List.Sums.sum_by-cons}
pub use Rattle.std.proofs.lemmas.List.{drop_all, drop_at, get_or-append-add, get_or-set_other, get_or-set_same, get_or_append_left, length-map}
pub use Rattle.std.proofs.lemmas.List.{length-set, map-append, nil_from_length, take_more, Folds.list_any-append}
pub use Rattle.std.proofs.lemmas.List.Elements.{All-from_recursion, filter-append, recursion_from_All}
pub use Rattle.std.proofs.lemmas.List.Sorted.{All-permutation, IsNonDecreasingBy-from_sort, IsPartitionPoint-from_clause, IsPartitionedBy-leb}
pub use Rattle.std.proofs.lemmas.List.Sorted.{IsPermutation-append, IsPermutation-append_left, IsPermutation-cons, IsPermutation-map}
pub use Rattle.std.proofs.lemmas.List.Sorted.{IsPermutation-middle, IsPermutation-refl, IsPermutation-sym, IsPermutation-trans}
pub use Rattle.std.proofs.lemmas.List.Sorted.{list_any-IsPermutation, ranks_by, sorted_far, sum_by-IsPermutation}
pub use Rattle.std.specs.Cmp.{IsStrictWeakOrder, on_total, Lexicographic.pointwise, Lexicographic.slice_cmp}
pub use Rattle.std.specs.{HashMap.get, declared.cmp.Ordering.Ordering}
pub use Rattle.std.specs.List.{AllByRecursion, count_by, filter, find, list_all, list_any}
pub use Rattle.std.specs.List.Sorted.{IsNonDecreasing, IsPartitionPoint, IsPermutation, IsSortedBy}
pub use Rattle.std.specs.Ordering.{is_eq, is_lt, nat_cmp, ordering_then}
pub use Rattle.kcr_base.proofs.ListLemmas.{all-more, any-map, any-more, any-same}
pub use Rattle.kcr_base.proofs.{Members.IsIn, Members.any-in, RowsLemmas.Shuffled, RowsLemmas.filter-order, RowsLemmas.shuffled}
pub use Rattle.kcr_base.proofs.SameLemmas.{same-is, same-itself, same-turned}
pub use Rattle.kcr_base.specs.{Lists.are_apart, Same.same_text}
pub use Rattle.kcr_room.specs.Events.{sheet_events_by, sheet_events_from, stays_with}
pub use Rattle.kcr_room.specs.Laws.{IsNeverLoneOrCrowded, IsSheet, PresentAreIn, PresentAreRising, SameCrowd, SamePresent, SameRefusal, SameStays}
pub use Rattle.kcr_room.specs.Laws.{ShareNoMoment, TurnsKeep, are_rising, in_turn_onto}
pub use Rattle.kcr_room.specs.Moments.{IsEver, IsFirstMoment, count_until, least, min_moment}
pub use Rattle.kcr_room.specs.Requests.{clipped_to_moment, is_inside, is_inside_of, is_open_stay_of, is_out_of_turn, is_out_of_turn_by}
pub use Rattle.kcr_room.specs.Requests.{is_out_of_turn_in, is_overfull, is_overfull_by, later_stay, new_row, new_stay, occupancy_refusal, of_ceremony}
pub use Rattle.kcr_room.specs.Requests.{reaches, rows_refusal, sheet_refusal, stay_count, stays_after_request, stays_from_moment, stays_refusal}
pub use Rattle.kcr_room.specs.{Requests.turn_refusal, Requests.with_end, Room.put_person, Room.way_text}
pub use Rattle.kcr_room.specs.Room.{Followed, ascending, enters, followed_rows, followed_rows_behind, following, headcount_by, in_force, is_ahead}
pub use Rattle.kcr_room.specs.Room.{is_as_late, is_enter, is_last_at, is_of, last_enters, last_onto, last_row, last_row_of, later_row, present_by}
pub use Rattle.kcr_room.specs.Stays.{are_listed, attendance_in_by, comings_by, ends_after, first_lone_in_by, goings_by, headcount_in_by, in_order}
pub use Rattle.kcr_room.specs.Stays.{is_crowd_in_by, is_crowded_in_by, is_listed_before, is_lone_in_by, next_of, present_in_by, put_stay, stay_covers}
pub use Rattle.kcr_room.specs.Stays.{stay_from, stay_reaches, stays_by, stays_of}
pub use Rattle.kcr_room.specs.declared.{Way.Way, Way.TheVariants.Enter, Way.TheVariants.Leave, stays.SheetEvent.SheetEvent}

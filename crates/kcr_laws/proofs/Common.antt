-- The names that most proofs cite, passed on from one place. Declares nothing.
pub use Rattle.std.proofs.Common.{Bool, List, MatchOption, None, Option, Some, [], ap, arith, cond, false, filter, find, get_or, inl, inr, is_some}
pub use Rattle.std.proofs.Common.{length, map, nat_le, nat_lt, not, option_map, refl, subst, suc, sym, true, zero, ℕ, ◌&&◌, ◌++◌, ◌+◌, ◌<◌, ◌==◌}
pub use Rattle.std.proofs.Common.{◌||◌, ◌∙◌, ◌∷◌, ◌≡◌, ◌≢◌, ◌≤◌, ◌⊎◌}
pub use Rattle.std.proofs.lemmas.Bool.{and_cases, and_from, and_parts, and_right, both_ways, cases_Bool, cases_lt, cases_order, eq-eqb, eqb-false}
pub use Rattle.std.proofs.lemmas.Bool.{eqb-true, false_from_ne_true, false≢true, le-leb, leb-true, lt-leb, lt-ltb, ltb-true, not-false, not-true}
pub use Rattle.std.proofs.lemmas.Bool.{or_cases, or_left, or_parts, or_right, true_from_ne_false, true≢false, Decides.nat_tests}
pub use Rattle.std.proofs.lemmas.Cmp.{lists_equiv, nat_list_eq_equiv}
pub use Rattle.std.specs.List.{AllByRecursion, cons_option, filter_map, list_all, list_any}
pub use Rattle.std.specs.Prelude.{IsTrue, if◌then◌else◌, unwrap_or, ◌↔◌}
pub use Rattle.kcr_base.proofs.ListLemmas.{all-more, any-same, find-order, none-find, none-there, still, there}
pub use Rattle.kcr_base.proofs.SameLemmas.{place-itself, place-same, same-is, same-itself, same-turned}
pub use Rattle.kcr_base.specs.Refuse.{before_mark_refusal, first_of, not_after_mark_refusal, unknown_people_refusal, when}
pub use Rattle.kcr_base.specs.Rows.{option_or}
pub use Rattle.kcr_base.specs.Same.{is_before, is_this, same_place, same_role, same_text}
pub use Rattle.kcr_base.specs.declared.{place.Facility.Facility, place.Place.Place, place.Role.Role, refusal.Refusal.Refusal}
pub use Rattle.kcr_base.specs.declared.refusal.Refusal.TheVariants.{Crowd, Full, Key, Late, Lone, Range, Short, Turn, Unknown, Vacant}
pub use Rattle.kcr_custody.specs.{Custody.is_box, Custody.unknown_bag_refusal, Custody.unknown_item_refusal, declared.Spot.Spot}
pub use Rattle.kcr_history.proofs.{Orderly.holder-appointments, Orderly.orderly, Stacked.free-none, Stacked.stacked, Trained.trained-rows}
pub use Rattle.kcr_history.proofs.Steps.{follows, no_ceremony, not_later, not_open, of_machine, same_reply, took}
pub use Rattle.kcr_history.specs.Ceremonies.{Planned, all_marks, does_step, facility_of, is_ceremony, is_not_before, mark, marked_moment, next}
pub use Rattle.kcr_history.specs.Ceremonies.{next_step, opened_at, opened_number, opening_moment, plan_of, planned_as, settled, step_at, steps_done}
pub use Rattle.kcr_history.specs.{Ceremonies.steps_of, Texts.same_command, Conditions.out_of_turn_refusal}
pub use Rattle.kcr_history.specs.Conditions.{crowd_refusal, fault, first_twice, is_full, is_overfull, lone_room_refusal, named_twice_refusal}
pub use Rattle.kcr_history.specs.Custody.{added_at, added_box_place, place_of_box, rest, rest_in, sealed_in, spot, spot_after}
pub use Rattle.kcr_history.specs.History.{History, entry_of, greatest, last_value_of_acts, last_value_with_history, max_with, values_of_acts}
pub use Rattle.kcr_history.specs.Laws.{HasFirstSeatings, IsBalanced, IsOnce, IsSeatedFirst, IsSound, are_seated, has_its_box, is_added, is_in_place}
pub use Rattle.kcr_history.specs.{Laws.is_kept, Laws.is_seated, Laws.were_in_place, Seating.one_to_seven, Seating.rise, Seating.who_fit}
pub use Rattle.kcr_history.specs.Machine.{Accepts, CanFollow, DecidesNew, DecidesRepeat, IsAcceptedWith, IsOfMachine, IsRegister, IsReplyTo, Outcome}
pub use Rattle.kcr_history.specs.Machine.{Refuses, SeatRequest, machine, reply_to, seat_request, seats, with_command}
pub use Rattle.kcr_history.specs.Room.{is_in, present, sheet, sheet_after}
pub use Rattle.kcr_history.specs.Seating.{IsFirst, IsLeast, comes_first, eligible, fits, is_eligible_at, is_proper_part, is_seating, is_short}
pub use Rattle.kcr_history.specs.Tables.{added_item, appointments, appointments_after, box_row, boxes, ended, sealed_serial, seats_at, step_done}
pub use Rattle.kcr_history.specs.Tables.{step_result, trainings, withdrawals}
pub use Rattle.kcr_history.specs.Training.{holder, holder_effect, is_holder, is_person, trained, training_effect}
pub use Rattle.kcr_history.specs.declared.commands.{Act.Act, Entry.Entry, Command.Command, ReplyData.ReplyData}
pub use Rattle.kcr_history.specs.declared.commands.Act.TheVariants.{Appoint, Ceremony, Plan, Release, Replace, Train, Withdraw}
pub use Rattle.kcr_history.specs.declared.commands.Deed.TheVariants.{AddItem, Close, Cut, Open, Put, RecordException, RecordSheet, Seal, Sign, Take}
pub use Rattle.kcr_people.specs.People.{first_day_refusal, holder_by, holds, holds_some_by, lasts_beyond, open_row_by, person_holds_from_by}
pub use Rattle.kcr_people.specs.People.{place_held_from_by, place_or_person_holds, settled_refusal, trained_by, trained_from_by, vacant_refusal}
pub use Rattle.kcr_people.specs.declared.Appointment.{Appointment}
pub use Rattle.kcr_room.proofs.{Keeping.present_are_in, Orders.before-turned, Rising.present_are_rising}
pub use Rattle.kcr_room.specs.{Laws.IsAllowed, Laws.are_rising, Room.present_by, Stays.first_lone_in_by, Stays.is_crowded_in_by, Stays.stays_by}
pub use Rattle.kcr_room.specs.{Moments.IsEver, Moments.IsFirstMoment, declared.SheetRow.SheetRow, declared.Way.Way}
pub use Rattle.kcr_room.specs.Requests.{is_out_of_turn, is_out_of_turn_by, new_row}
pub use Rattle.kcr_room.specs.Room.{enters, headcount_by, in_by, is_enter, is_of, last_enters, last_onto, last_row, last_row_of, later_row}
pub use Rattle.kcr_script.specs.declared.seat.Seat.{Seat}
pub use Rattle.kcr_script.specs.declared.seat.Seat.TheVariants.{AnyCo, AnyRksh, Co, Rksh, Staff}
pub use Rattle.kcr_laws.specs.Conditions.{BeginsFrom, CanFill, HoldsPlaceOnOrAfter, IsAccepted, IsEverCrowded, IsFirstAlone, IsHeldOnOrAfter}
pub use Rattle.kcr_laws.specs.Conditions.{IsNeverAlone, IsShortOf, IsTrainedOnOrAfter, held_since, says_since, signature}
pub use Rattle.kcr_laws.specs.Runs.{AreAnswered, AreSteps, new_command}

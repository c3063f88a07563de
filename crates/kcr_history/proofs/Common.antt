-- The names that most proofs cite, passed on from one place. Declares nothing.
pub use Rattle.std.proofs.Common.{Bool, List, MatchOption, None, Option, Some, [], add-one, ap, append-nil, append_assoc, arith, codes, cond, eqb}
pub use Rattle.std.proofs.Common.{false, filter, fold, get_or, inl, inr, is_none, is_some, length, map, max, nat_le, not, option_map, refl, rules}
pub use Rattle.std.proofs.Common.{string_bytes, subst, suc, sym, take, true, zero, ℕ, ◌&&◌, ◌++◌, ◌+◌, ◌<◌, ◌||◌, ◌∙◌, ◌∷◌, ◌≡◌, ◌≤◌}
pub use Rattle.std.proofs.lemmas.Bool.{and_from, and_left, and_parts, both_ways, eq-eqb, false_from_ne_true, false≢true, leb-false, leb-true}
pub use Rattle.std.proofs.lemmas.Bool.{not-true, or_from, or_left, or_parts, or_right, true≢false, Decides.nat_tests}
pub use Rattle.std.proofs.lemmas.List.{get_or_default, map_more, Sorted.list_any-IsPermutation, Folds.list_all-map, Folds.list_any-append}
pub use Rattle.std.proofs.lemmas.List.Sorted.{IsPermutation-map, IsPermutation-middle, IsPermutation-refl, IsPermutation-sym, IsPermutation-trans}
pub use Rattle.std.specs.Fmt.{decimal}
pub use Rattle.std.specs.List.{AllByRecursion, cons_option, filter_map, flat_map, join_with_byte, list_all, list_any, Sorted.IsPermutation}
pub use Rattle.std.specs.Prelude.{Err, IfOk, Ok, Result, unwrap_or}
pub use Rattle.kcr_base.proofs.ListLemmas.{all-more, any-map, find-cases, find-none}
pub use Rattle.kcr_base.proofs.RowsLemmas.{Apart, Shuffled, after, flipped, nothing, shuffled, under}
pub use Rattle.kcr_base.proofs.SameLemmas.{place-itself, place-same}
pub use Rattle.kcr_base.specs.{Refusal.number_of, Refusal.word_of, Rows.option_or, Rows.put, Same.same_place, Same.same_text}
pub use Rattle.kcr_base.specs.declared.{place.Place.Place, refusal.Refusal.Refusal}
pub use Rattle.kcr_people.specs.People.{begins_too_late, ends_after, ends_from, ever_put_by, ever_trained_by, holder_by, holds, is_of, is_open_ended}
pub use Rattle.kcr_people.specs.People.{is_person_by, is_withdrawn_by, lasts, lasts_beyond, open_row_by, person_holds_from_by, place_held_from_by}
pub use Rattle.kcr_people.specs.People.{same_training, trained_by, withdrawal_of, withdrawn_rows}
pub use Rattle.kcr_people.specs.declared.{Appointment.Appointment, Training.Training}
pub use Rattle.kcr_history.specs.Ceremonies.{Planned, is_ceremony, mark, marked_moment, opened_number, plan_of, planned_as, settled}
pub use Rattle.kcr_history.specs.Conditions.{by_history, fault, is_full, no_ceremony_refusal, not_open_refusal, status}
pub use Rattle.kcr_history.specs.History.{History, entry_of, greatest, has_command, last_value_of_acts, max_option, max_with, pushed_onto}
pub use Rattle.kcr_history.specs.{History.values_of_acts, declared.commands.Act.Act, Training.trains_person, Training.was_custodian}
pub use Rattle.kcr_history.specs.{Json.member, Json.object, Json.quoted, Views.greatest_number, Views.row_of_key}
pub use Rattle.kcr_history.specs.Machine.{Accepts, CanFollow, DecidesNew, DecidesRepeat, IsAcceptedWith, IsOfMachine, IsRegister, IsReplyTo}
pub use Rattle.kcr_history.specs.Machine.{SeatRequest, machine, reply_to, seat_request, seats, with_command}
pub use Rattle.kcr_history.specs.Refusals.{carries, refusal_text, refused_with}
pub use Rattle.kcr_history.specs.Tables.{appointments, appointments_after, end_at, ended, key_row, keys, mark_row, marks, people, person_row}
pub use Rattle.kcr_history.specs.Tables.{planned_number, training_row, trainings, withdrawals, withdrawals_after}
pub use Rattle.kcr_history.specs.Training.{enters, ever_trained, holder, holder_effect, is_person, is_training, puts, trained, training_effect}
pub use Rattle.kcr_history.specs.declared.commands.Act.TheVariants.{Appoint, Ceremony, Release, Replace, Train, Withdraw}

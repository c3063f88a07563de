-- The names that most proofs cite, passed on from one place. Declares nothing.
pub use Rattle.std.proofs.Common.{Bool, Err, List, None, Ok, Option, Result, Some, [], ap, arith, drop, false, filter, get_or, inl, inr, length, map}
pub use Rattle.std.proofs.Common.{option_map, refl, rules, subst, suc, sym, take, tests, true, ℕ, ◌++◌, ◌+◌, ◌<◌, ◌∙◌, ◌∷◌, ◌≡◌, ◌≢◌}
pub use Rattle.std.proofs.lemmas.List.{get_or-map, get_or_default, length-map}
pub use Rattle.std.specs.Prelude.{IfErr, IsErrAnd, MatchOption, MatchResult, OnOk, Vec}
pub use Rattle.kcr_base.specs.Refuse.{IsTestResult, before_mark_refusal, first_of, not_after_mark_refusal, unless, when}
pub use Rattle.kcr_base.specs.declared.refusal.Refusal.{Refusal}
pub use Rattle.kcr_base.specs.declared.refusal.Refusal.TheVariants.{Absent, Late, Memory, Script, Settled, Short, Unknown}
pub use Rattle.kcr_custody.specs.Custody.{no_holder_refusal, seal_refusal, shut_refusal, unknown_box_refusal}
pub use Rattle.kcr_history.specs.{Fitting.fits_by, declared.commands.Act.Act, declared.commands.Act.TheVariants.Ceremony, declared.views.View.View}
pub use Rattle.kcr_history.specs.declared.commands.Deed.TheVariants.{Open, RecordException, RecordSheet, Seal, Sign}
pub use Rattle.kcr_history.specs.declared.views.Change.TheVariants.{PutAppointment, PutBox, PutSeating, PutSheet, PutStep}
pub use Rattle.kcr_people.specs.{People.settled_refusal, People.trains, declared.Training.Training}
pub use Rattle.kcr_script.specs.declared.seat.Seat.TheVariants.{Staff}
pub use Rattle.kcr_rules.specs.ByRows.{IsChangesResult, IsCheckResult, IsEffectResult, IsUnseatedFor, all_changes_by, alone, by_rows, changes_by}
pub use Rattle.kcr_rules.specs.ByRows.{early_refusal_by, exception_by, has_too_many_steps, late_refusal_by, reply_step_by, seat_request_by}
pub use Rattle.kcr_rules.specs.SheetRows.{first_twice, first_unknown, room_refusal}
pub use Rattle.kcr_rules.specs.{TrainingsByPerson.trainings_by_person, declared.effects.Effect.Effect}

-- The names that most proofs cite, passed on from one place. Declares nothing.
pub use Rattle.sqlite.specs.{Effect.Database, Schema.Schema, Store.Ghosts, Files.HoldsDatabase, Files.file_state, Files.over_files}
pub use Rattle.sqlite.specs.{Held.AreDatabases, Held.Held, Held.state, Tree.IsAscending, Tree.Trees}
pub use Rattle.sqlite.specs.State.{HasCleanDisk, IsLive, IsRolledBack, IsUnchanged, KeepsCommit, Opens, Shows, State, Survives}
pub use Rattle.sqlite.specs.declared.{error.Error.Error, transaction.Transaction.Transaction}
pub use Rattle.sqlite_trees.proofs.ListLemmas.{along_permutation, ascending-filter, ascending-get_or, ascending-map, ascending_from_map}
pub use Rattle.sqlite_trees.proofs.ListLemmas.{ascending_weaker}
pub use Rattle.sqlite_wal.specs.Recovery.{Image}
pub use Rattle.std.proofs.Common.{Bool, Err, IfOk, IsTrue, Less, List, None, Ok, OnOk, Option, Ordering, Result, Some, [], ap, append_assoc, arith}
pub use Rattle.std.proofs.Common.{false, filter, get_or, inl, inr, length, map, option_map, pos, refl, rules, slice_get, subst, sym, true, ℕ}
pub use Rattle.std.proofs.Common.{ℤ, ◌&&◌, ◌++◌, ◌+◌, ◌<◌, ◌∙◌, ◌∷◌, ◌≡◌, ◌≢◌, ◌≤◌, ◌⊎◌}
pub use Rattle.std.proofs.lemmas.{Bool.true≢false, Result.IfErr-weaker, Result.IfOk-weaker, List.Sorted.answers_always, List.Sorted.sorted_far}
pub use Rattle.std.proofs.lemmas.List.Sorted.{IsPermutation-map, IsPermutation-refl, IsPermutation-reverse, IsPermutation-sym, IsPermutation-trans}
pub use Rattle.std.specs.List.{AllByRecursion, list_any, Sorted.IsPermutation, Sorted.IsSortedBy}
pub use Rattle.std.specs.{Option.ok_or, Vec.Iter.into_iter_items, Vec.Iter.into_iter_len}
pub use Rattle.std.specs.Ordering.{is_eq, is_lt, nat_cmp, ordering_then}
pub use Rattle.std.specs.Prelude.{All, AllPairs, IfErr, IsErrAnd, IsSome, MatchOption, MatchResult, is_some, ⊤, ◌==◌, ◌↔◌}
pub use Rattle.kcr_base.proofs.{RowsLemmas.filter-order, SameLemmas.same-itself}
pub use Rattle.kcr_base.specs.Same.{is_before, role_number, same_text}
pub use Rattle.kcr_base.specs.declared.refusal.Refusal.{Refusal, TheVariants.Disk, TheVariants.Memory, TheVariants.Unknown}
pub use Rattle.kcr_custody.specs.Custody.{lies_in, sealed_items, spot_by}
pub use Rattle.kcr_history.proofs.Steps.{follows, greatest-keys, numbers}
pub use Rattle.kcr_history.specs.{AsksByKind.asks_of, History.History, Ceremonies.is_ceremony, Changes.all_changed}
pub use Rattle.kcr_history.specs.Machine.{IsAcceptance, IsDecision, IsRegister, IsRepeat}
pub use Rattle.kcr_history.specs.Questions.{AreCustodiansShown, ArePeopleShown, AreStepsShown, IsBagShown, IsByInitials, IsCustodyShown, IsRoomShown}
pub use Rattle.kcr_history.specs.Questions.{IsSheetShown, holders_from, is_role_before, person_of, role_shown, roles_of, with_name}
pub use Rattle.kcr_history.specs.Tables.{SameTables, Tables, appointments, bags, ceremonies, ceremony_row, people, tables}
pub use Rattle.kcr_history.specs.Views.{IsViewOf, is_of_number, is_of_serial, is_training_of, row_of_key}
pub use Rattle.kcr_history.specs.declared.{commands.Command.Command, commands.Reply.Reply, report_rows.StayWithName.StayWithName}
pub use Rattle.kcr_history.specs.declared.{questions.PersonShown.PersonShown, row_types.KeyRow.KeyRow}
pub use Rattle.kcr_history.specs.declared.views.{FullView.FullView, Verdict.Verdict, View.View}
pub use Rattle.kcr_machine.specs.RowDecision.{IsRowRepeat, is_full_by}
pub use Rattle.kcr_older.proofs.NumberHeld.{IsKnown, has_versions, held_version, is_numbered, older_version, only_version}
pub use Rattle.kcr_older.specs.Kind.{IsForeign, IsForeignSchema, IsOfKind, IsOfOtherVersion, IsOfVersion, IsTaken, no_schema, numbered_table}
pub use Rattle.kcr_older.specs.{Kind.version_in, Versions.number_of, Migrated.migrated_tables, declared.migration.OldVersion.OldVersion}
pub use Rattle.kcr_older.specs.OldFiles.{AreTablesAs, HoldsFirst, HoldsHistoryAs, TreesHoldFirst, numbered}
pub use Rattle.kcr_older.specs.declared.kind.DatabaseKind.TheVariants.{Current, Empty, Version1, Version2, Versioned}
pub use Rattle.kcr_people.specs.People.{holder_by, is_of, lasts_beyond, same_training}
pub use Rattle.kcr_people.specs.declared.{Person.Person, Training.Training, Withdrawal.Withdrawal}
pub use Rattle.kcr_reading.specs.Remaining.{exceptions_of, named_stays, seated_steps}
pub use Rattle.kcr_room.specs.Stays.{attendance_in_by, present_in_by, stay_covers, stay_reaches, stays_by}
pub use Rattle.kcr_rows.proofs.{FailLemmas.if_both, FailLemmas.if_ok, FailLemmas.on_ok, InsideLemmas.survives_on, InsideLemmas.was_clean}
pub use Rattle.kcr_rows.proofs.FrameLemmas.{clean_before, within_fails, within_then, within_to}
pub use Rattle.kcr_rows.specs.Frame.{StaysInTransaction, state_in}
pub use Rattle.kcr_rows.specs.Rows.{item_row, person_row, training_row, withdrawal_row}
pub use Rattle.kcr_rules.specs.CeremonyStatus.{ceremony_by}
pub use Rattle.kcr_tables.proofs.{FrameLemmas.fails_as, FrameLemmas.reads_on, FrameLemmas.reads_to, HoldLemmas.held_of}
pub use Rattle.kcr_tables.proofs.JointLemmas.{Rises, kept_rises, key_of_trainings, key_of_withdrawals, same_holds}
pub use Rattle.kcr_tables.specs.MachineTables.{HoldsTables, SameRows, TreesHoldTables}
pub use Rattle.kcr_tables.specs.{Refusals.IsFault, StoredTables.Holds, StoredTables.StoredTables}
pub use Rattle.kcr_store.specs.ByRows.{DecidesBy, EndsByRows, IsDecidedBy, IsRefusedEarly, RefusesNew, RepliesBy, TakesStepByRows, number_by}
pub use Rattle.kcr_store.specs.{ByRows.rows_after, Shown.AreRolesOf, Stored.IsTables, Stored.Stores}
pub use Rattle.kcr_store.specs.Calls.{BreaksIf, BreaksOnFault, CommitsNothing, Leads, ReadsHistory, RowsLead, left_at}
pub use Rattle.kcr_store.specs.Commands.{AppliesCommand, IsQuestionRefusal, TakesStep, number_after, with_reply}
pub use Rattle.kcr_store.specs.DatabaseRows.{Gives, GivesOlder, GivesOr, IsBroughtView, IsKeptView, IsNumberedView, IsUnread}
pub use Rattle.kcr_store.specs.Frame.{OfRowsOver, OfRowsShown, OnlyReads, StaysOutside}
pub use Rattle.kcr_store.specs.{FullView.AreRows, FullView.IsListed, FullView.Lists, declared.transaction.TransactionResult.TransactionResult}
pub use Rattle.kcr_store.specs.Opening.{FilesHoldHistory, FilesHoldRowsAs, HoldsHistory, HoldsRowsAs, IsAnswer, IsAnswerBy, IsGenuine, IsMigrated}
pub use Rattle.kcr_store.specs.Opening.{IsOpened, LeavesEither, MigratesRows, OpensAtEither, RefusesAs, ShowsRows, tried}
pub use Rattle.kcr_store.specs.Register.{AfterCrash, CrashKeeps, HasRows, IsConsistent, IsDurable, IsDurableWith, IsSynced, RegisterHistory}
pub use Rattle.kcr_store.specs.Register.{RegisterState, StandsAt, whole}
pub use Rattle.kcr_store.specs.ShownBy.{AreCustodiansShownBy, ArePeopleShownBy, AreStepsShownBy, HasNoRowBy, IsBagShownBy, IsCustodyShownBy}
pub use Rattle.kcr_store.specs.ShownBy.{IsMissingBy, IsPersonShownBy, IsQuestionRefusalBy, IsRoomShownBy, IsRowBy, IsSheetShownBy}
pub use Rattle.kcr_store.specs.TransactionResult.{EndsCommand, is_in_doubt, last_number_after, result_of}
pub use Rattle.kcr_store.specs.declared.transaction.TransactionResult.TheVariants.{Accepted, InDoubt, Refused}

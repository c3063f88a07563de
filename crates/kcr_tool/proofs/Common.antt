-- The names that most proofs cite, passed on from one place. Declares nothing.
pub use Rattle.sqlite.specs.{Files.file_state, Held.Held, State.HasCleanDisk}
pub use Rattle.std.proofs.Common.{Bool, Err, IfErr, List, None, Ok, OnErr, Option, Result, Some, [], ap, arith, false, inl, inr, length, refl, rules}
pub use Rattle.std.proofs.Common.{sym, true, ℕ, ◌&&◌, ◌+◌, ◌-◌, ◌∙◌, ◌≡◌, ◌≤◌, ◌⊎◌}
pub use Rattle.std.proofs.lemmas.Result.{IfErr-weaker, IfOk-weaker, MatchResult-from_both, err_from_is_err_and}
pub use Rattle.std.specs.Prelude.{IfOk, IfSome, IsSome, IsTrue, option_map}
pub use Rattle.kcr_arguments.specs.declared.words.{Report.Report, Task.Task}
pub use Rattle.kcr_arguments.specs.declared.words.Task.TheVariants.{Run, Serve, Verify, Write}
pub use Rattle.kcr_base.specs.declared.refusal.Refusal.TheVariants.{Disk}
pub use Rattle.kcr_desk.proofs.ConnectionLemmas.{connects_both, connects_none, connects_unread}
pub use Rattle.kcr_desk.specs.Streams.{IsUntouched, Streams, WritesNothing, WritesPart, WritesText, Writing, streams, writing}
pub use Rattle.kcr_fault.specs.Faults.{AreLinesOf, HasCause, MayMeet, MeetsOver, StopsMaking, StopsOpening, StopsReading, StopsRebuild, StopsReplay}
pub use Rattle.kcr_fault.specs.Faults.{StopsReport, StopsServing, StopsTask, TellsFault}
pub use Rattle.kcr_fault.specs.Lines.{listening_line, packed_head, rebuilt_head, verified_head}
pub use Rattle.kcr_fault.specs.Faults.{IsMissing, IsNoted, IsNotedOf, IsTold, IsUnfilled, MayNote, WritesLines}
pub use Rattle.kcr_fault.specs.declared.fault.Fault.{Fault, TheVariants.Invalid, TheVariants.Refused, TheVariants.Words}
pub use Rattle.kcr_fault.specs.declared.fault.Missing.{Missing}
pub use Rattle.kcr_history.specs.History.{History}
pub use Rattle.kcr_store.proofs.OpenLemmas.{founded_in}
pub use Rattle.kcr_store.specs.Register.{RegisterHistory, RegisterState, StandsAt, whole}
pub use Rattle.kcr_verify.specs.{Verification.IsFresh, Verification.IsVerification, declared.verification.Verification.Verification}
pub use Rattle.kcr_tool.specs.Runs.{ConnectsUpTo, EndsReport, EndsReportBy, Finishes, MayNameRow, ServesTo, StopsCopied, StopsVerification}

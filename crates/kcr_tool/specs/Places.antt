-- What becomes of a file that a task was to make.
use Rattle.std.specs.Prelude.{ℕ, Bool, if◌then◌else◌, Result, Ok, Err}
use Rattle.kcr_fault.specs.declared.fault.{Fault.Fault, Fault.TheVariants.IntoFile, Step.TheVariants.Locking}
use Rattle.kcr_tool.specs.declared.place.Place.{Place}
use Rattle.kcr_tool.specs.declared.place.Removal.{Removal, TheVariants.Nothing, TheVariants.File, TheVariants.FileAndLog}

-- what was not there before
abbrev pub new_at : Place → Removal
new_at before = if before.has_file then Nothing else if before.has_log then File else FileAndLog

-- a task that failed takes away what was not there before, unless the file has a byte or another process has it open
abbrev pub removal_after : Place → Bool → Result ℕ Fault → Removal
removal_after before has_bytes (Ok status) = Nothing
removal_after before has_bytes (Err (IntoFile Locking)) = Nothing
removal_after before has_bytes (Err fault) = if has_bytes then Nothing else new_at before

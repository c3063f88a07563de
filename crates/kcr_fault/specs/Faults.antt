-- Why a task was not done to its end, what is told of it, and of a register that is not there or has no command.
use Rattle.std.specs.Fmt.{decimal}
use Rattle.std.specs.Prelude.{◌≡◌, ◌≢◌, ◌⊎◌, ℕ, Bool, List, [], ◌++◌, codes, Option, Some, None, Result, Ok, IsSome, IsTrue, if◌then◌else◌, unwrap_or}
use Rattle.kcr_base.specs.{declared.counted.Counted.Counted, declared.refusal.Refusal.Refusal, Refusal.number_of, Refusal.word_of, Refusal.thing_text}
use Rattle.kcr_base.specs.declared.refusal.Refusal.TheVariants as refusal
use Rattle.kcr_desk.specs.Streams.{Streams, Writing, BreaksStream, HasFailed, IsUntouched, WritesNothing, WritesPart, WritesText, writing}
use Rattle.kcr_desk.specs.declared.fault.DeskFault.TheVariants as stream
use Rattle.kcr_print.specs.declared.fault.PrintFault.{PrintFault}
use Rattle.kcr_print.specs.declared.fault.PrintFault.TheVariants as print
use Rattle.kcr_store.specs.{Register.RegisterState, Rows.MayHaveNoRow, declared.breakage.Breakage.Breakage}
use Rattle.kcr_store.specs.declared.«open».OpenFault.TheVariants as opening
use Rattle.kcr_log.specs.declared.judgement.Log.TheVariants as logs
use Rattle.kcr_tables.specs.Refusals.{IsFault}
use Rattle.kcr_verify.specs.declared.new_register.CreateFault.TheVariants as fresh
use Rattle.kcr_fault.specs.Lines.{broken_line, call_head, found_line, invalid_line, log_line, missing_line, numbered, step_head}
use Rattle.kcr_fault.specs.declared.fault.{Fault.Fault, Missing.Missing, Missing.TheVariants.Unnamed}
use Rattle.kcr_fault.specs.declared.fault.Fault.TheVariants.{Open, File, Log, Nothing, Into, IntoFile, Stream, Refused}
use Rattle.kcr_fault.specs.declared.fault.Fault.TheVariants.{Broken, Invalid, Unwritten, Net, Lost, Words}
use Rattle.kcr_fault.specs.declared.fault.Call.TheVariants as call
use Rattle.kcr_arguments.specs.declared.words.{Serving.Serving, Task.Task, Report.Report, Report.TheVariants.Print, Report.TheVariants.Attendance}
use Rattle.kcr_arguments.specs.declared.words.Task.TheVariants.{Run, Serve, Write, Verify, Rebuild, Pack}

-- the words name no file, or one that is not there or has no command
abbrev pub IsMissing : Option (List ℕ) → Missing → Type 0
IsMissing file Unnamed = file ≡ None
IsMissing file other = IsSome file

-- a file is named that is not there or has no command
abbrev pub IsUnfilled : Missing → Type 0
IsUnfilled Unnamed = ⊥
IsUnfilled other = Unit {0}

-- the lines were written, or a prefix of them before a write failed
abbrev pub WritesLines : {W : Type 0} → Writing W → List ℕ → Type 0
WritesLines w lines = WritesText w lines ⊎ (HasFailed w × WritesPart w lines)

-- that it is missing was told, or not if there was no memory for the line
abbrev pub IsTold : {W : Type 0} → Option (List ℕ) → Missing → Writing W → Type 0
IsTold file missing w = WritesNothing w ⊎ WritesLines w (missing_line file missing)

-- notes are told if the program explains what it meets, or if the task is done
abbrev pub MayNote : {E : Type 0} → Bool → Result ℕ E → Type 0
MayNote is_explained result = IsTrue is_explained ⊎ (result ≡ Ok 0)

-- standard error is as it was, or that the register is missing was told, if it may be
abbrev pub IsNotedOf : {W : Type 0} → Type 0 → Option (List ℕ) → Writing W → Type 0
IsNotedOf May file w =
    WritesNothing w ⊎ (May × ((missing : Missing) × IsMissing file missing × WritesLines w (missing_line file missing)))

-- it is as it was, or a report has told that the register is missing, if it may
abbrev pub IsNoted : {W : Type 0} → Type 0 → Option Task → Option (List ℕ) → Writing W → Type 0
IsNoted May task file w = WritesNothing w ⊎ ((report : Report) × (task ≡ Some (Write report)) × IsNotedOf May file w)

-- what a refusal names, and the end of its line
abbrev pub named : Refusal → List ℕ
named (refusal.Unknown thing) = codes " " ++ (thing_text thing ++ codes "\n")
named other = codes "\n"

-- the line of a refusal: its number, its word, and what it names
abbrev pub refusal_line : Refusal → List ℕ
refusal_line r = codes "refused: " ++ (numbered (number_of r) (word_of r) ++ named r)

-- the line of a fault for which no memory is needed: of a refusal, or where no commands are, it says that there was none
abbrev pub reason_of : Fault → List ℕ
reason_of (Open opening.Memory) = codes "open: memory\n"
reason_of (Open opening.Disk) = codes "open: disk\n"
reason_of (Open opening.Foreign) = codes "open: foreign\n"
reason_of (Open opening.Version) = codes "open: version\n"
reason_of (File step) = codes "open: disk\n"
reason_of (Log log) = codes "open: disk\n"
reason_of (Into fresh.Memory) = codes "into: memory\n"
reason_of (Into fresh.Disk) = codes "into: disk\n"
reason_of (Into fresh.Filled) = codes "into: filled\n"
reason_of (IntoFile step) = codes "into: disk\n"
reason_of (Stream stream.Read) = codes "fault: read\n"
reason_of (Stream stream.Write) = codes "fault: write\n"
reason_of Unwritten = codes "fault: write\n"
reason_of (Net call) = codes "fault: net\n"
reason_of Lost = codes "fault: file\n"
reason_of (Broken why) = codes "refused: 35 broken\n"
reason_of (Invalid row) = codes "refused: 34 disk\n"
reason_of other = codes "fault: memory\n"

-- the port that a task names, 0 if it has none
abbrev pub port_of : Option Task → ℕ
port_of (Some (Serve serving)) = serving.port
port_of other = 0

-- what failed, with what the words name: a task, the register's file and that of a new one; of some faults nothing
abbrev pub second_line : Option Task → Option (List ℕ) → Option (List ℕ) → Fault → List ℕ
second_line task file into (Log log) = log_line log
second_line task file into (File step) = found_line (step_head step) (unwrap_or file [])
second_line task file into (IntoFile step) = found_line (step_head step) (unwrap_or into [])
second_line task file into (Net call) = found_line (call_head call) (decimal (port_of task))
second_line task file into Lost = found_line (codes "lost: ") (unwrap_or file [])
second_line task file into (Broken why) = broken_line why
second_line task file into (Invalid row) = invalid_line row
second_line task file into other = []

-- the line of a fault, and a second one if it is explained; of a refusal, or where no commands are, the line says all
abbrev pub lines_of : Bool → Option Task → Option (List ℕ) → Option (List ℕ) → Fault → List ℕ
lines_of is_explained task file into (Refused r) = refusal_line r
lines_of is_explained task file into (Nothing missing) = missing_line file missing
lines_of is_explained task file into other =
    reason_of other ++ (if is_explained then second_line task file into other else [])

-- the lines of a fault, or the one for which no memory is needed
abbrev pub AreLinesOf : Bool → Option Task → Option (List ℕ) → Option (List ℕ) → Fault → List ℕ → Type 0
AreLinesOf is_explained task file into fault lines =
    (lines ≡ lines_of is_explained task file into fault) ⊎ (lines ≡ reason_of fault)

-- the lines of a fault stand on standard error, unless a write failed; before them only a note, if it is explained
abbrev pub TellsFault : {W : Type 0} → Bool → Option Task → Option (List ℕ) → Option (List ℕ) → Fault → Writing W → Type 0
TellsFault {W} is_explained task file into fault w =
    (between : Counted W) × IsNoted (IsTrue is_explained) task file (writing w.contents w.before between)
    × ((lines : List ℕ) × AreLinesOf is_explained task file into fault lines
    × WritesLines (writing w.contents between w.after) lines)

-- why a report was not written whole
abbrev pub fault_of_print : PrintFault → Fault
fault_of_print (print.Refused r) = Refused r
fault_of_print print.Write = Unwritten

-- the refusals of a task over a register that is not broken: out of memory and an I/O error; of a report of a ceremony
-- that this is unknown; of a port only out of memory. A stream has its refusals as answers
abbrev pub MayMeet : Task → Refusal → Type 0
MayMeet Run met = ⊥
MayMeet (Serve serving) met = met ≡ refusal.Memory
MayMeet (Write (Print ceremony)) met = MayHaveNoRow ceremony met
MayMeet (Write (Attendance ceremony)) met = MayHaveNoRow ceremony met
MayMeet other met = IsFault met

-- a refusal that a call may give, or, over a register that was broken before, that it is broken
abbrev pub MeetsOver : {S : Type 0} → RegisterState S → (Refusal → Type 0) → Refusal → Type 0
MeetsOver register May met = May met ⊎ ((met ≡ refusal.Broken) × IsTrue register.is_broken)

-- the task is to listen on a port
abbrev pub IsServe : Task → Type 0
IsServe task = (serving : Serving) × (task ≡ Serve serving)

-- what caused the fault of a task over a register that was opened: each fault comes only from a task that can have it.
-- No further cause is told here of memory that ran out, of the device, of a port that is taken and of a file that is gone
abbrev pub StopsTask : {R W : Type 0} → Task → Streams R W → Fault → Type 0
StopsTask task s (Stream fault) = (task ≡ Run) × BreaksStream s fault
StopsTask task s (Refused met) = MayMeet task met
StopsTask task s Unwritten = HasFailed s.output
StopsTask task s (Net call) = IsServe task
StopsTask task s Lost = IsServe task
StopsTask task s (Broken why) = IsServe task
StopsTask task s (Invalid row) = MayMeet task refusal.Disk
StopsTask task s other = ⊥

-- the task makes a new file of a register
abbrev pub IsMaking : Option Task → Type 0
IsMaking task = (task ≡ Some Rebuild) ⊎ (task ≡ Some Pack)

-- what caused the fault of a task over the file, if one is named. A register that is not opened, a damaged log, one
-- without commands where some are wanted, a new register that cannot be made, and words for which there is no memory:
-- then nothing was read or written. Without a file an opening fails only for memory, and no file or log fails
abbrev pub HasCause : {R W : Type 0} → Option Task → Option (List ℕ) → Streams R W → Fault → Type 0
HasCause task file s (Open fault) = (file ≡ None → fault ≡ opening.Memory) × IsUntouched s
HasCause task file s (File step) = IsSome file × IsUntouched s
HasCause task file s (Log log) = (log ≢ logs.Sound) × IsSome file × IsUntouched s
HasCause task file s (Nothing missing) = ((task ≡ Some Verify) ⊎ IsMaking task) × IsMissing file missing × IsUntouched s
HasCause task file s (Into fault) = IsMaking task × IsUntouched s
HasCause task file s (IntoFile step) = IsMaking task × IsUntouched s
HasCause task file s Words = IsUntouched s
HasCause task file s other = (known : Task) × (task ≡ Some known) × StopsTask known s other

-- why a report, an audit or a line was not written whole: a refusal that may be met, or a failed write, which is counted
abbrev pub StopsReport : {W : Type 0} → (Refusal → Type 0) → Writing W → Fault → Type 0
StopsReport May w (Refused met) = May met
StopsReport May w (Invalid row) = May refusal.Disk
StopsReport May w Unwritten = HasFailed w
StopsReport May w other = ⊥

-- why a register in a file was not opened, nor a copy of it: it is none, or its file or its log is not sound
abbrev pub StopsOpening : Fault → Type 0
StopsOpening (Open fault) = Unit {0}
StopsOpening (File step) = Unit {0}
StopsOpening (Log log) = log ≢ logs.Sound
StopsOpening other = ⊥

-- why its rows were not read: it was not opened, it is not there, or a row is invalid
abbrev pub StopsReading : Fault → Type 0
StopsReading (Nothing missing) = IsUnfilled missing
StopsReading (Refused met) = IsFault met
StopsReading (Invalid row) = Unit {0}
StopsReading other = StopsOpening other

-- why a replay stopped: as a report does, or there was nothing to replay, and then nothing was written
abbrev pub StopsReplay : {W : Type 0} → Writing W → Fault → Type 0
StopsReplay w (Nothing missing) = IsUnfilled missing × WritesNothing w
StopsReplay w other = StopsReport IsFault w other

-- why no new register was made
abbrev pub StopsMaking : Fault → Type 0
StopsMaking (Into fault) = Unit {0}
StopsMaking (IntoFile step) = Unit {0}
StopsMaking other = ⊥

-- the same for a task that makes one
abbrev pub StopsRebuild : {W : Type 0} → Writing W → Fault → Type 0
StopsRebuild w (Into fault) = WritesNothing w
StopsRebuild w (IntoFile step) = WritesNothing w
StopsRebuild w other = StopsReplay w other

-- why a port is left too early: no connection could be accepted, the file is gone, or the register is broken now
abbrev pub StopsListening : {S : Type 0} → RegisterState S → Fault → Type 0
StopsListening register fault =
    (fault ≡ Net call.Accepting)
    ⊎ ((fault ≡ Lost) ⊎ (((why : Breakage) × (fault ≡ Broken why)) × IsTrue register.is_broken))

-- the same for the whole task of listening, which binds the port and writes a line first
abbrev pub StopsServing : {S W : Type 0} → RegisterState S → Writing W → Fault → Type 0
StopsServing register w fault =
    (fault ≡ Net call.Binding)
    ⊎ (StopsListening register fault ⊎ StopsReport (λ met. met ≡ refusal.Memory) w fault)

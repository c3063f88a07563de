-- What a task leaves on the output.
use Rattle.std.specs.Prelude.{◌≡◌, ◌≤◌, ◌⊎◌, ⊤, ℕ, false, List, String, length, Some, Result, Err, MatchResult, IfErr, IsTrue, OnErr, OnOk}
use Rattle.sqlite.specs.Store.{Ghosts}
use Rattle.kcr_base.specs.declared.refusal.Refusal.TheVariants.{Disk}
use Rattle.kcr_history.specs.{Ceremonies.is_ceremony, History.History, Prints.annotated, Prints.attendance, Prints.custody}
use Rattle.kcr_store.specs.{Calls.OfHistory, Register.RegisterState}
use Rattle.kcr_desk.specs.{Run.Request, Run.IsServed, Run.IsServedInPart, Connections.Connects, Connections.Leads, Texts.ResponseValue}
use Rattle.kcr_desk.specs.Answers.{RegisterHistory, whole, IsAnswer, IsReply}
use Rattle.kcr_desk.specs.Streams.{Streams, Writing, WritesNothing, WritesPart, WritesText, bytes_after, bytes_before, input_of}
use Rattle.kcr_forms.specs.Values.{AreValues}
use Rattle.kcr_journal.specs.Journal.{journal}
use Rattle.kcr_print.specs.Requests.{requests_between}
use Rattle.kcr_fault.specs.Faults.{MayMeet, MeetsOver, StopsOpening, StopsReading, StopsReplay, StopsReport}
use Rattle.kcr_fault.specs.Lines.{clean_line, listening_line, verified_head, rebuilt_head, packed_head, whole_line}
use Rattle.kcr_tool.specs.Audits.{WritesFinding, WritesAuditPrefix}
use Rattle.kcr_tool.specs.Verifications.{WritesVerified, TellsWholeFront, WritesDifference, WritesVerificationPrefix}
use Rattle.kcr_fault.specs.declared.fault.Fault.{Fault, TheVariants.Invalid, TheVariants.Refused}
use Rattle.kcr_verify.specs.declared.invalid.InvalidRow.{InvalidRow}
use Rattle.kcr_arguments.specs.{Tasks.said, Tasks.task_of, declared.words.Report.Report, declared.words.Task.Task}
use Rattle.kcr_arguments.specs.declared.words.Report.TheVariants.{Print, Attendance, Custody, Export, Journal, Audit}
use Rattle.kcr_arguments.specs.declared.words.Task.TheVariants.{Run, Serve, Write, Verify, Rebuild, Pack}

-- all of the input was answered by such steps: from a register that was like this before
abbrev pub ServesAll : {Stand R W : Type 0} → (Stand → Request → ResponseValue → Stand → Type 0) → Stand → Streams R W
    → Type 0
ServesAll {Stand} step before s =
    (after : Stand) × (count : ℕ)
    × IsServed step (input_of s) (bytes_before s.output) (bytes_after s.output) before after count

-- a prefix of it was: what was written begins those answers
abbrev pub ServesPart : {Stand R W : Type 0} → (Stand → Request → ResponseValue → Stand → Type 0) → Stand → Streams R W
    → Type 0
ServesPart {Stand} step before s =
    (after : Stand)
    × IsServedInPart step (input_of s) (bytes_before s.output) (bytes_after s.output) before after

-- a report of a register with this history is written whole: so are the requests of the commands that are exported and
-- the lines of the journal, and an audit found nothing
abbrev pub WritesReport : {W : Type 0} → Report → History → Writing W → Type 0
WritesReport (Print ceremony) A w = IsTrue (is_ceremony A ceremony) × WritesText w (annotated A ceremony)
WritesReport (Attendance ceremony) A w = IsTrue (is_ceremony A ceremony) × WritesText w (attendance A ceremony)
WritesReport Custody A w = WritesText w (custody A)
WritesReport (Export after until) A w = AreValues A → WritesText w (requests_between after until A)
WritesReport (Journal ceremony) A w = AreValues A → WritesText w (journal ceremony A)
WritesReport Audit A w = WritesText w clean_line

-- it stopped before its end: what was written is a prefix of that
abbrev pub WritesReportPart : {W : Type 0} → Report → History → Writing W → Type 0
WritesReportPart (Print ceremony) A w = WritesPart w (annotated A ceremony)
WritesReportPart (Attendance ceremony) A w = WritesPart w (attendance A ceremony)
WritesReportPart Custody A w = WritesPart w (custody A)
WritesReportPart (Export after until) A w = AreValues A → WritesPart w (requests_between after until A)
WritesReportPart (Journal ceremony) A w = AreValues A → WritesPart w (journal ceremony A)
WritesReportPart Audit A w = WritesAuditPrefix w

-- a task over a register with this history went well: the messages of a stream got the answers of a run of the machine,
-- a report is written whole, a verification found no difference, of as many commands as the history has, nor did a
-- rebuild, and a register was packed into one file
abbrev pub Completes : {R W : Type 0} → Task → History → Streams R W → Type 0
Completes Run A s = ServesAll IsAnswer (whole A) s
Completes (Serve serving) A s = WritesText s.output (listening_line serving.port)
Completes (Write report) A s = WritesReport report A s.output
Completes Verify A s = WritesText s.output (whole_line verified_head (length A))
Completes Rebuild A s = WritesVerified rebuilt_head s.output
Completes Pack A s = WritesVerified packed_head s.output

-- it stopped before its end
abbrev pub CompletesInPart : {R W : Type 0} → Task → History → Streams R W → Type 0
CompletesInPart Run A s = ServesPart IsAnswer (whole A) s
CompletesInPart (Serve serving) A s = WritesPart s.output (listening_line serving.port)
CompletesInPart (Write report) A s = WritesReportPart report A s.output
CompletesInPart Verify A s = WritesPart s.output (whole_line verified_head (length A))
CompletesInPart Rebuild A s = WritesVerificationPrefix rebuilt_head s.output
CompletesInPart Pack A s = TellsWholeFront packed_head s.output

-- the exit status is 0 and this was done; or a fault stopped it, after a part of this or before anything was written
abbrev pub Finishes : {W : Type 0} → Type 0 → Type 0 → Writing W → Result ℕ Fault → Type 0
Finishes Done Part w result = MatchResult result (λ status. (status ≡ 0) × Done) (λ _. WritesNothing w ⊎ Part)

-- how a task ends over a register with this history: done, with status 0, or stopped by a fault
abbrev pub EndsTaskBy : {R W : Type 0} → Task → History → Streams R W → Result ℕ Fault → Type 0
EndsTaskBy task A s result = Finishes (Completes task A s) (CompletesInPart task A s) s.output result

abbrev pub EndsReportBy : {W : Type 0} → Report → History → Writing W → Result ℕ Fault → Type 0
EndsReportBy report A w result = Finishes (WritesReport report A w) (WritesReportPart report A w) w result

-- WHATEVER THE DATABASE HELD

-- a report of a register of whose history nothing is known: an audit found nothing, and of any other nothing is said
abbrev pub WritesUnknown : {W : Type 0} → Report → Writing W → Type 0
WritesUnknown Audit w = WritesText w clean_line
WritesUnknown report w = Unit {0}

abbrev pub WritesUnknownPart : {W : Type 0} → Report → Writing W → Type 0
WritesUnknownPart Audit w = WritesAuditPrefix w
WritesUnknownPart report w = Unit {0}

-- a task went well over such a register: each message got a reply, in their order, by a register that nothing had
-- broken before, and the lines of a port, of an audit, of a verification, of a rebuild and of a pack are written
abbrev pub CompletesUnknown : {R W : Type 0} → Task → Streams R W → Type 0
CompletesUnknown Run s = ServesAll IsReply false s
CompletesUnknown (Serve serving) s = WritesText s.output (listening_line serving.port)
CompletesUnknown (Write report) s = WritesUnknown report s.output
CompletesUnknown Verify s = WritesVerified verified_head s.output
CompletesUnknown Rebuild s = WritesVerified rebuilt_head s.output
CompletesUnknown Pack s = WritesVerified packed_head s.output

-- it stopped before its end
abbrev pub CompletesUnknownInPart : {R W : Type 0} → Task → Streams R W → Type 0
CompletesUnknownInPart Run s = ServesPart IsReply false s
CompletesUnknownInPart (Serve serving) s = WritesPart s.output (listening_line serving.port)
CompletesUnknownInPart (Write report) s = WritesUnknownPart report s.output
CompletesUnknownInPart Verify s = WritesVerificationPrefix verified_head s.output
CompletesUnknownInPart Rebuild s = WritesVerificationPrefix rebuilt_head s.output
CompletesUnknownInPart Pack s = TellsWholeFront packed_head s.output

-- a task found something wrong, and told it whole
abbrev pub WritesProblem : {W : Type 0} → Task → Writing W → Type 0
WritesProblem (Write Audit) w = WritesFinding w
WritesProblem Verify w = WritesDifference w
WritesProblem Rebuild w = WritesDifference w
WritesProblem other w = ⊥

-- the exit status is 0 and this was done, or it is 1 after a problem; or a fault stopped it, after a part of this or
-- before anything was written
abbrev pub FinishesOrFinds : {W : Type 0} → Type 0 → Type 0 → Type 0 → Writing W → Result ℕ Fault → Type 0
FinishesOrFinds Done Problem Part w result =
    MatchResult result (λ status. ((status ≡ 0) × Done) ⊎ ((status ≡ 1) × Problem)) (λ _. WritesNothing w ⊎ Part)

-- how a task ends over any register
abbrev pub EndsTask : {R W : Type 0} → Task → Streams R W → Result ℕ Fault → Type 0
EndsTask task s result =
    FinishesOrFinds (CompletesUnknown task s) (WritesProblem task s.output) (CompletesUnknownInPart task s) s.output result

abbrev pub EndsReport : {W : Type 0} → Report → Writing W → Result ℕ Fault → Type 0
EndsReport report w result =
    FinishesOrFinds (WritesUnknown report w) (WritesProblem (Write report) w) (WritesUnknownPart report w) w result

-- it ended so, or in place of an I/O error with an invalid row
abbrev pub MayNameRow : Result ℕ Fault → Result ℕ Fault → Type 0
MayNameRow ended result =
    (result ≡ ended) ⊎ ((row : InvalidRow) × (ended ≡ Err (Refused Disk)) × (result ≡ Err (Invalid row)))

-- the words hold a task of which this is so
abbrev pub OfTask : {Z : Type 0} → List (String Z) → (Task → Type 0) → Type 0
OfTask words Says = (task : Task) × (task_of (said words) ≡ Some task) × Says task

-- WHOSE HISTORY

-- a report: of a register with a history it is done, or in part if a fault stopped it
pub record Reports {S W : Type 0} (g : Ghosts S) (report : Report) (before after : RegisterState S) (w : Writing W)
    (result : Result ⊤ Fault) : Type 0 where
  pub done : OfHistory g before after (λ A. OnOk result (WritesReport report A w))
  pub part : OfHistory g before after (λ A. OnErr result (WritesReportPart report A w))
  pub cause : IfErr result (StopsReport (MeetsOver before (MayMeet (Write report))) w)

-- a stream over a register that stood at the one history leads it to the other: all of the input was answered by a run
-- of the machine, or a prefix of it before a fault
abbrev pub RunsTo : {R W : Type 0} → RegisterHistory → RegisterHistory → Streams R W → Result ℕ Fault → Type 0
RunsTo before after s result =
    MatchResult result
    (λ status. (status ≡ 0)
    × ((count : ℕ) × IsServed IsAnswer (input_of s) (bytes_before s.output) (bytes_after s.output) before after count))
    (λ _. IsServedInPart IsAnswer (input_of s) (bytes_before s.output) (bytes_after s.output) before after)

-- why a report of a copy was not written whole: it was not opened, and then nothing was written, or the report stopped
abbrev pub StopsCopied : {W : Type 0} → Report → Writing W → Fault → Type 0
StopsCopied report w why = (StopsOpening why × WritesNothing w) ⊎ StopsReport (MayMeet (Write report)) w why

-- why a verification of a copy was not told whole: its rows were not read, and then nothing was written, or it stopped
abbrev pub StopsVerification : {W : Type 0} → Writing W → Fault → Type 0
StopsVerification w why = (StopsReading why × WritesNothing w) ⊎ StopsReplay w why

-- CONNECTIONS

-- all connections were served, one after the other, or as many as came before a fault
abbrev pub ConnectsUpTo : {S T : Type 0} → Ghosts S → ℕ → RegisterState S → RegisterState S → Result T Fault → Type 0
ConnectsUpTo g connections before after result =
    MatchResult result (λ _. Connects g before after connections)
    (λ _. (count : ℕ) × (count ≤ connections) × Connects g before after count)

-- the messages of this many connections lead from the one history to the other by a run of the machine, or those of as
-- many as came before a fault
abbrev pub ServesTo : {T : Type 0} → RegisterHistory → RegisterHistory → ℕ → Result T Fault → Type 0
ServesTo before after connections result =
    MatchResult result (λ _. Leads IsAnswer before after connections)
    (λ _. (count : ℕ) × (count ≤ connections) × Leads IsAnswer before after count)

-- What the fault of a task was caused by.
use Rattle.kcr_tool.proofs.Common.{◌≡◌, ℕ, List, Option, Some, None, false, Result, OnErr, length, arith}
use Rattle.kcr_tool.proofs.Common.{IfSome, option_map, Streams, Writing, IsUntouched, WritesNothing, WritesPart, WritesText, RegisterState}
use Rattle.kcr_tool.proofs.Common.{HasCause, MayMeet, MeetsOver, StopsMaking, StopsOpening, StopsReading, StopsRebuild, StopsReplay, StopsReport}
use Rattle.kcr_tool.proofs.Common.{StopsServing, StopsTask, IsMissing, IsUnfilled, Missing, Fault}
use Rattle.kcr_tool.proofs.Common.{StopsCopied, StopsVerification, Report, Task, Serve, Write, Verify}
use Rattle.std.proofs.lemmas.List.{take_all}
use Rattle.kcr_arguments.specs.declared.words.Serving.{Serving}

-- CAUSES

-- what stopped a report over a register that was not broken before
pub report_stops : {S W : Type 0} (register : RegisterState S) (report : Report) (why : Fault) (w : Writing W) → register.is_broken ≡ false
    → StopsReport (MeetsOver register (MayMeet (Write report))) w why → StopsReport (MayMeet (Write report)) w why
report_stops register report why w none stops = grind arith

-- what stopped the listening
pub serving_cause : {S R W : Type 0} (register : RegisterState S) (serving : Serving) (why : Fault) (s : Streams R W)
    → StopsServing register s.output why → StopsTask (Serve serving) s why
serving_cause register serving why s stops = grind (arith, stops)

-- a fault of a task over an open register, whichever file that came from
pub task_cause : {R W : Type 0} (task : Task) (why : Fault) (file : Option (List ℕ)) (s : Streams R W) → StopsTask task s why
    → HasCause (Some task) file s why
task_cause task why file s stops = grind arith

-- what stops a report is a cause of its fault, whichever file it is of
pub report_cause : {R W : Type 0} (report : Report) (why : Fault) (file : Option (List ℕ)) (s : Streams R W)
    → StopsReport (MayMeet (Write report)) s.output why → HasCause (Some (Write report)) file s why
report_cause report why file s stops = grind arith

-- a named file may be without what is missing, if anything is, and that is not the name
pub unfilled_of : (path : List ℕ) (missing : Option Missing) → IfSome missing IsUnfilled → IfSome missing (IsMissing (Some path))
unfilled_of path missing is = grind arith

-- why a register in a file was not opened, after which nothing was read or written
pub opening_cause : {R W : Type 0} (task : Option Task) (why : Fault) (path : List ℕ) (s : Streams R W) → IsUntouched s → StopsOpening why
    → HasCause task (Some path) s why
opening_cause task why path s still stops = grind arith

-- why a report of a copy was not written whole
pub copied_cause : {R W : Type 0} (report : Report) (why : Fault) (path : List ℕ) (s : Streams R W) → s.after ≡ s.before
    → StopsCopied report s.output why → HasCause (Some (Write report)) (Some path) s why
copied_cause report why path s still stops =
    grind (arith, stops, opening_cause (Some (Write report)) why path s, report_cause report why (Some path) s)

-- why no rows of a file were read, after which nothing was read or written
pub reading_cause : {R W : Type 0} (why : Fault) (path : List ℕ) (s : Streams R W) → IsUntouched s → StopsReading why
    → HasCause (Some Verify) (Some path) s why
reading_cause why path s still stops = grind arith

-- why a verification stopped
pub replay_cause : {R W : Type 0} (why : Fault) (path : List ℕ) (s : Streams R W) → s.after ≡ s.before → StopsReplay s.output why
    → HasCause (Some Verify) (Some path) s why
replay_cause why path s still stops = grind arith

-- why a verification of a copy was not told whole
pub verification_cause : {R W : Type 0} (why : Fault) (path : List ℕ) (s : Streams R W) → s.after ≡ s.before
    → StopsVerification s.output why → HasCause (Some Verify) (Some path) s why
verification_cause why path s still stops = grind (arith, stops, reading_cause why path s, replay_cause why path s still)

-- a register that was not opened was not read
pub opening_reads : (why : Fault) → StopsOpening why → StopsReading why
opening_reads why stops = grind arith

-- why no new register was made, before anything was written
pub making_stops : {W : Type 0} (why : Fault) (w : Writing W) → WritesNothing w → StopsMaking why → StopsRebuild w why
making_stops why w none stops = grind arith

-- what stops a replay stops a rebuild
pub replay_stops : {W : Type 0} (why : Fault) (w : Writing W) → StopsReplay w why → StopsRebuild w why
replay_stops why w stops = grind arith

-- no file is named
pub none_mapped : {X Y : Type 0} (f : X → Y) (o : Option X) → option_map f o ≡ None → o ≡ None
none_mapped f o none = grind arith

-- WHOLE AND IN PART

-- what was written whole is a prefix of itself
pub whole_front : {W : Type 0} (w : Writing W) (text : List ℕ) → WritesText w text → WritesPart w text
whole_front w text all = (length text, rw (take_all (length text) text (omega arith)) all)

-- what holds holds if there is an error
pub on_err : {T E X : Type 0} (r : Result T E) → X → OnErr r X
on_err r x = grind (arith, x)

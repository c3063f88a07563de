-- The lines that the program writes beside reports.
use Rattle.std.specs.Prelude.{if◌then◌else◌, ◌||◌, ℕ, Bool, true, false, List, [], ◌++◌, codes, map, nat_eq, nat_lt, Option, Some, None, unwrap_or}
use Rattle.std.specs.Fmt.{decimal}
use Rattle.kcr_base.specs.Moment.{moment_text}
use Rattle.kcr_history.specs.{Refusals.refusal_text, declared.views.Finding.Finding}
use Rattle.kcr_history.specs.declared.views.Finding.TheVariants.{Seating, Custody, Bag, Key, Lone, Crowd}
use Rattle.kcr_log.specs.declared.judgement.Log.{Log}
use Rattle.kcr_log.specs.declared.judgement.Log.TheVariants as Logs
use Rattle.kcr_store.specs.declared.breakage.Breakage.{Breakage}
use Rattle.kcr_store.specs.declared.breakage.Breakage.TheVariants as Breakages
use Rattle.kcr_verify.specs.{Quoted.row_line, Verification.name_of as table_name}
use Rattle.kcr_verify.specs.declared.{invalid.InvalidRow.InvalidRow, verification.Difference.Difference}
use Rattle.kcr_verify.specs.declared.verification.Difference.TheVariants.{Number, Command, Refused, Reply, Rows}
use Rattle.kcr_fault.specs.declared.fault.{Call.Call, Call.TheVariants.Binding, Call.TheVariants.Accepting, Step.Step}
use Rattle.kcr_fault.specs.declared.fault.Missing.{Missing, TheVariants.Unnamed, TheVariants.Absent, TheVariants.Empty}
use Rattle.kcr_fault.specs.declared.fault.Step.TheVariants.{Missing as NotThere, Opening, Locking, Reading}

-- a number, and a text behind a space
abbrev pub numbered : ℕ → List ℕ → List ℕ
numbered number text = decimal number ++ (codes " " ++ text)

-- the program listens on this port
abbrev pub listening_line : ℕ → List ℕ
listening_line port = codes "listening 127.0.0.1:" ++ (decimal port ++ codes "\n")

-- an audit found nothing
abbrev pub clean_line : List ℕ
clean_line = codes "audit: nothing found\n"

-- the line of a kind of finding and what it is about
abbrev pub found_line : List ℕ → List ℕ → List ℕ
found_line kind subject = kind ++ (subject ++ codes "\n")

-- what an audit found
abbrev pub finding_line : Finding → List ℕ
finding_line (Seating ceremony step) = found_line (codes "finding: seating ") (numbered ceremony (decimal step))
finding_line (Custody item) = found_line (codes "finding: custody ") item
finding_line (Bag serial) = found_line (codes "finding: bag ") serial
finding_line (Key key) = found_line (codes "finding: key ") key
finding_line (Lone ceremony moment) = found_line (codes "finding: lone ") (numbered ceremony (moment_text moment))
finding_line (Crowd ceremony moment) = found_line (codes "finding: crowd ") (numbered ceremony (moment_text moment))

-- how the line of a register begins that was verified, rebuilt or packed
abbrev pub verified_head : List ℕ
verified_head = codes "verified: "

abbrev pub rebuilt_head : List ℕ
rebuilt_head = codes "rebuilt: "

abbrev pub packed_head : List ℕ
packed_head = codes "packed: "

-- the register is the one of its own commands, N of them
abbrev pub whole_line : List ℕ → ℕ → List ℕ
whole_line head count = head ++ (decimal count ++ codes " commands\n")

-- a text in one line: each line break and other control character as a blank
abbrev pub in_a_line : List ℕ → List ℕ
in_a_line text = map (λ byte. if nat_lt byte 32 || nat_eq byte 127 then 32 else byte) text

-- what was expected and what was found, and a word on it
abbrev pub judged_line : List ℕ → List ℕ → List ℕ → List ℕ → List ℕ
judged_line head expected found word =
    head ++ (expected ++ (codes "; found " ++ (in_a_line found ++ (word ++ codes "\n"))))

-- whether the people of a stored reply fill the seats; nothing if nothing is told of them
abbrev pub seating_word : Option Bool → List ℕ
seating_word None = []
seating_word (Some true) = codes "; a seating"
seating_word (Some false) = codes "; no seating"

-- the first line on a number of what differs, and the second with what was expected and found, and a word on it
abbrev pub differing_lines : List ℕ → ℕ → List ℕ → List ℕ → List ℕ → List ℕ → List ℕ
differing_lines kind number head expected found word = found_line kind (decimal number) ++ judged_line head expected found word

-- what differs, as a verification found it: what the rules give and what is stored; of a table its first row that differs
abbrev pub difference_line : Difference → List ℕ
difference_line (Number place found) =
    differing_lines (codes "finding: number ") place (codes "number: expected ") (decimal place) (decimal found) []
difference_line (Command number found) =
    differing_lines (codes "finding: command ") number (codes "command: expected ") (codes "a command") found []
difference_line (Refused number refusal found) =
    differing_lines (codes "finding: refused ") number (codes "refused: expected ") (refusal_text refusal) found []
difference_line (Reply number expected found is_seating) =
    differing_lines (codes "finding: reply ") number (codes "reply: expected ") expected found (seating_word is_seating)
difference_line (Rows table row) = found_line (codes "finding: table ") (table_name table) ++ row_line row

-- what is wrong with a log, and how many transactions end in the damage or behind it
abbrev pub log_line : Log → List ℕ
log_line Logs.Sound = []
log_line (Logs.WrongHead count) = found_line (codes "log: wrong head, commits ") (decimal count)
log_line (Logs.WrongFrame first count) =
    found_line (codes "log: wrong from frame " ++ (decimal first ++ codes ", commits ")) (decimal count)
log_line (Logs.NoFile count) = found_line (codes "log: no file, commits ") (decimal count)

-- there is no register with commands
abbrev pub missing_line : Option (List ℕ) → Missing → List ℕ
missing_line file Unnamed = codes "note: no file is named\n"
missing_line file Absent = codes "note: " ++ (unwrap_or file [] ++ codes " is not there\n")
missing_line file Empty = codes "note: " ++ (unwrap_or file [] ++ codes " has no command\n")

-- at what a file failed; its name follows
abbrev pub step_head : Step → List ℕ
step_head NotThere = codes "missing: "
step_head Opening = codes "opening: "
step_head Locking = codes "locking: "
step_head Reading = codes "reading: "

-- at what a port failed; its number follows
abbrev pub call_head : Call → List ℕ
call_head Binding = codes "binding: "
call_head Accepting = codes "accepting: "

-- what broke a register
abbrev pub broken_line : Breakage → List ℕ
broken_line Breakages.NoRoom = codes "broken: no room\n"
broken_line Breakages.Writing = codes "broken: writing\n"
broken_line Breakages.Reading = codes "broken: reading\n"
broken_line Breakages.Memory = codes "broken: memory\n"

-- an invalid row: its table and its key
abbrev pub invalid_line : InvalidRow → List ℕ
invalid_line row = codes "invalid: " ++ (table_name row.table ++ (codes " " ++ (in_a_line row.key ++ codes "\n")))

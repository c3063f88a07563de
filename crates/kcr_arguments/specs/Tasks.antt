-- The task that the words hold, by what `clap` makes of a simple command.
use Rattle.std.specs.Prelude.{ℕ, List, codes, Bool, false, ◌||◌, nat_eq, Option, Some, None, option_and_then, option_map}
use Rattle.std.specs.Prelude.{unwrap_or, if◌then◌else◌, String, map, string_bytes}
use Rattle.std.specs.{List.ends_with, Option.option_map_or, Str.bytes_eq, Str.Parse.digits_value, Str.Parse.without_leading_plus}
use Rattle.clap.specs.ValueTests.{is_unsigned_in}
use Rattle.clap.specs.Words.{Kinds, Row, Text, fault_of, first_of, one_of, subcommand_of}
use Rattle.kcr_arguments.specs.Commands.{tool_app}
use Rattle.kcr_arguments.specs.declared.words.{WordsFault.WordsFault, Order.Order, Task.Task, Serving.Serving, Report.Report}
use Rattle.kcr_arguments.specs.declared.words.WordsFault.TheVariants as WordsFaults
use Rattle.kcr_arguments.specs.declared.words.Report.TheVariants.{Print, Attendance, Custody, Export, Journal, Audit}
use Rattle.kcr_arguments.specs.declared.words.Task.TheVariants.{Run, Serve, Write, Verify, Rebuild, Pack}
use Rattle.kcr_base.specs.declared.limits.TheConstants.{MAX_CEREMONY, MAX_COMMANDS}

-- the words as texts
abbrev pub said : {Z : Type 0} → List (String Z) → List Text
said words = map string_bytes words

-- the file that an order names, and that of a new register
abbrev pub file_in : Order → Option Text
file_in order = option_map (λ name. name.now) order.file

abbrev pub into_in : Order → Option Text
into_in order = option_map (λ name. name.now) order.into

-- the number that a text is in decimal, where it is one from the least to the most; a plus may stand before it
abbrev pub number_between : ℕ → ℕ → Text → Option ℕ
number_between least most text =
    if is_unsigned_in least most text then Some (digits_value 10 (without_leading_plus text)) else None

-- the number that an option was given
abbrev pub number_at : ℕ → ℕ → Text → List Row → Option ℕ
number_at least most name rows = option_and_then (number_between least most) (one_of name rows)

-- the ceremony that was named
abbrev pub ceremony_at : List Row → Option ℕ
ceremony_at = number_at 1 MAX_CEREMONY (codes "ceremony")

-- for how many seconds a connection may be silent between two messages: 5 if no number was named
abbrev pub idle_at : List Row → ℕ
idle_at rows = unwrap_or (number_at 1 300 (codes "idle") rows) 5

-- for how many seconds a connection may last in all: 300 if no number was named
abbrev pub longest_at : List Row → ℕ
longest_at rows = unwrap_or (number_at 1 86400 (codes "longest") rows) 300

-- what was named of a server
abbrev pub serving : List Row → ℕ → ℕ → Serving
serving rows port connections =
    record { port = port; connections = connections; idle = idle_at rows; longest = longest_at rows }

-- the port, the number of connections and the seconds that were named
abbrev pub serve_at : List Row → Option Task
serve_at rows = option_and_then
    (λ port. option_map
    (λ connections. Serve (serving rows port connections)) (number_at 1 1000000 (codes "connections") rows))
    (number_at 1 65535 (codes "port") rows)

-- the number of a command that was named
abbrev pub command_at : Text → List Row → Option ℕ
command_at = number_at 0 MAX_COMMANDS

-- the commands to be exported: those behind a number, all of them where none was named, up to a number, or to the last
abbrev pub export_at : List Row → Report
export_at rows =
    Export (unwrap_or (command_at (codes "after") rows) 0) (unwrap_or (command_at (codes "until") rows) 4294967295)

-- the file of the new register that was named
abbrev pub into_at : List Row → Option Text
into_at rows = first_of (codes "into") rows

-- the report of a subcommand with its matches
abbrev pub report_at : Text × List Row → Option Report
report_at p =
    if bytes_eq p.0 (codes "print") then option_map Print (ceremony_at p.1) else
    if bytes_eq p.0 (codes "attendance") then option_map Attendance (ceremony_at p.1) else
    if bytes_eq p.0 (codes "custody") then Some Custody else
    if bytes_eq p.0 (codes "export") then Some (export_at p.1) else
    if bytes_eq p.0 (codes "journal") then Some (Journal (ceremony_at p.1)) else
    if bytes_eq p.0 (codes "audit") then Some Audit else None

-- its task
abbrev pub task_at : Text × List Row → Option Task
task_at p =
    if bytes_eq p.0 (codes "run") then Some Run else
    if bytes_eq p.0 (codes "serve") then serve_at p.1 else
    if bytes_eq p.0 (codes "verify") then Some Verify else
    if bytes_eq p.0 (codes "rebuild") then option_map (λ into. Rebuild) (into_at p.1) else
    if bytes_eq p.0 (codes "pack") then option_map (λ into. Pack) (into_at p.1) else option_map Write (report_at p)

-- the file that was named, if one was
abbrev pub file_at : List Row → Option Text
file_at rows = first_of (codes "file") rows

-- the words have this flag: `clap` gives it a text of its own, which is `true` only then
abbrev pub flag_at : Text → List Row → Bool
flag_at name rows = option_map_or (λ text. bytes_eq text (codes "true")) (first_of name rows) false

-- the subcommand that the words name, with its matches
unfoldable pub met_in : List Text → Option (Text × List Row)
met_in words = subcommand_of tool_app words

-- the kinds of error for which the words are refused or ask for help: none if they are a task
unfoldable pub faults_of : List Text → Kinds
faults_of words = fault_of tool_app words

-- the task that the words hold
unfoldable pub task_of : List Text → Option Task
task_of words = option_and_then task_at (met_in words)

-- the file that the words name, if they name one
unfoldable pub file_of : List Text → Option Text
file_of words = option_and_then (λ p. file_at p.1) (met_in words)

-- the file of the new register that they name, if they name one
unfoldable pub into_of : List Text → Option Text
into_of words = option_and_then (λ p. into_at p.1) (met_in words)

-- the words have this flag of their subcommand
abbrev pub has_flag : Text → List Text → Bool
has_flag name words = option_map_or (λ p. flag_at name p.1) (met_in words) false

-- the register's file is opened only if it exists
unfoldable pub is_existing : List Text → Bool
is_existing words = has_flag (codes "existing") words

-- what failed is told in lines of its own
unfoldable pub is_explained : List Text → Bool
is_explained words = has_flag (codes "explain") words

-- sqlite gives such a name to a file beside another
abbrev pub is_companion : Text → Bool
is_companion name =
    ends_with nat_eq name (codes "-journal") || ends_with nat_eq name (codes "-wal") || ends_with nat_eq name (codes "-shm")

-- the file of the new register, if one is named, has such a name
abbrev pub names_companion : Option Text → Bool
names_companion into = option_map_or is_companion into false

-- the fault says that it has
abbrev pub IsCompanion : WordsFault → Type 0
IsCompanion WordsFaults.Companion = Unit {0}
IsCompanion other = ⊥

-- the fault says that the words are refused, or ask for help or the version
abbrev pub IsLine : WordsFault → Type 0
IsLine (WordsFaults.Line text) = Unit {0}
IsLine WordsFaults.Companion = ⊥
IsLine WordsFaults.Memory = ⊥

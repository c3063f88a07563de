-- The journal of a register: the lines of its accepted commands, all of them or those of one ceremony.
use Rattle.std.specs.Prelude.{ℕ, ◌==◌, Bool, true, false, List, [], ◌∷◌, map, filter, take, reverse, Option, Some, None}
use Rattle.std.specs.Prelude.{unwrap_or, option_map, if◌then◌else◌}
use Rattle.std.specs.{Fmt.decimal, List.flat_map, Option.option_map_or}
use Rattle.kcr_people.specs.declared.Person.{Person}
use Rattle.kcr_wire.specs.ActTexts.{act_of}
use Rattle.kcr_history.specs.{History.History, Prints.name_of, Tables.people}
use Rattle.kcr_history.specs.declared.{commands.Entry.Entry, commands.Act.Act, row_types.KeyRow.KeyRow}
use Rattle.kcr_history.specs.declared.commands.Act.TheVariants.{Enter, Train, Withdraw, Appoint, Replace, Plan, Ceremony}
use Rattle.kcr_history.specs.declared.commands.Deed.TheVariants.{RecordSheet, Sign, RecordException, SetSafe}
use Rattle.kcr_journal.specs.{Lines.line, Replies.exception_in, Replies.passed_in, Replies.seated_in}

-- the ceremony that a command names
abbrev pub ceremony_of : Act → Option ℕ
ceremony_of (Plan ceremony facility day script) = Some ceremony
ceremony_of (Ceremony ceremony at deed) = Some ceremony
ceremony_of act = None

-- the command names the ceremony that is asked for; if none is asked for, every command passes
abbrev pub is_of_ceremony : Option ℕ → Act → Bool
is_of_ceremony None act = true
is_of_ceremony (Some asked) act = option_map_or (λ ceremony. ceremony == asked) (ceremony_of act) false

-- whom the command names, in its order; of a signature or an exception, who fills the seats
abbrev pub named_people : Act → List (List ℕ) → List (List ℕ)
named_people (Enter who name) seated = who ∷ []
named_people (Train who role since until) seated = who ∷ []
named_people (Withdraw who role day) seated = who ∷ []
named_people (Appoint place who day) seated = who ∷ []
named_people (Replace place who day) seated = who ∷ []
named_people (Ceremony ceremony at (RecordSheet way who)) seated = who
named_people (Ceremony ceremony at (Sign step)) seated = seated
named_people (Ceremony ceremony at (RecordException text pass)) seated = seated
named_people (Ceremony ceremony at (SetSafe safe is_open by)) seated = by ∷ []
named_people act seated = []

-- a person with the name that the register has
abbrev pub with_name : List Person → List ℕ → Person
with_name rows who = record { who = who; name = name_of rows who }

-- THE JOURNAL OF A HISTORY

-- the text of a number, nothing if there is none
abbrev pub number_text : Option ℕ → List ℕ
number_text number = unwrap_or (option_map decimal number) []

-- the line of an accepted command
abbrev pub entry_line : List Person → Entry → List ℕ
entry_line rows entry =
    line entry.reply.accepted entry.command.act
    (map (with_name rows) (named_people entry.command.act (unwrap_or entry.reply.seating [])))
    (number_text entry.reply.exception) (number_text entry.reply.step)

-- the lines of the accepted commands in the order of their numbers, of all or of those that name a ceremony; a number
-- has 32 bits
abbrev pub journal : Option ℕ → History → List ℕ
journal asked A =
    flat_map (entry_line (people A))
    (filter (λ entry. is_of_ceremony asked entry.command.act) (take 4294967295 (reverse A)))

-- THE JOURNAL BY ROWS

-- the line of a row, whose act and people these are
abbrev pub line_with : KeyRow → Act → List Person → List ℕ
line_with row act people = line row.accepted act people (exception_in row.reply) (passed_in row.reply)

-- the line of a row, whose act this is
abbrev pub act_line : List Person → KeyRow → Act → List ℕ
act_line rows row act = line_with row act (map (with_name rows) (named_people act (seated_in row.reply)))

-- the line of a row; nothing if its command does not name the ceremony that is asked for
abbrev pub row_line : Option ℕ → List Person → KeyRow → List ℕ
row_line asked rows row =
    option_map_or (λ act. if is_of_ceremony asked act then act_line rows row act else []) (act_of row.command) []

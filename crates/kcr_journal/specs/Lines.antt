-- A line of the journal: the command's number, its moment or day, and what happened.
use Rattle.std.specs.Prelude.{ℕ, ◌-◌, List, ◌++◌, length, take, codes}
use Rattle.std.specs.Fmt.{decimal}
use Rattle.kcr_base.specs.{Day.day_text, Moment.moment_text}
use Rattle.kcr_people.specs.declared.Person.{Person}
use Rattle.kcr_history.specs.declared.commands.Act.{Act}
use Rattle.kcr_history.specs.declared.commands.Act.TheVariants.{Enter, Train, Withdraw, Appoint, Replace, Release, AddBox, Plan, Ceremony}
use Rattle.kcr_journal.specs.Sentences.{people_text, sentence}

-- a number at the right of six columns
abbrev pub number_column : ℕ → List ℕ
number_column n = take (6 - length (decimal n)) (codes "      ") ++ decimal n

-- a day in the twenty columns of a moment
abbrev pub day_column : ℕ → List ℕ
day_column day = day_text day ++ codes "          "

-- the moment of an act, or its day, or a dash if it has neither, in twenty columns
abbrev pub when_column : Act → List ℕ
when_column (Enter who name) = codes "-                   "
when_column (AddBox facility box place) = codes "-                   "
when_column (Train who role since until) = day_column since
when_column (Withdraw who role day) = day_column day
when_column (Appoint place who day) = day_column day
when_column (Replace place who day) = day_column day
when_column (Release place day) = day_column day
when_column (Plan ceremony facility day script) = day_column day
when_column (Ceremony ceremony at deed) = moment_text at

-- the line of a command with this number: its people, and the numbers of an exception and of the step that it passes
abbrev pub line : ℕ → Act → List Person → List ℕ → List ℕ → List ℕ
line number act people exception passes =
    number_column number ++ codes "  " ++ when_column act ++ codes "  "
    ++ sentence act (people_text people) exception passes ++ codes "\n"

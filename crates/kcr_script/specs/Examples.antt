-- Texts of worked examples.
use Rattle.std.specs.Prelude.{ℕ, List, [], ◌∷◌, codes}
use Rattle.kcr_base.specs.declared.place.Role.TheVariants.{Ca, Iw}
use Rattle.kcr_script.specs.declared.{seat.Seat.TheVariants.Staff, seat.Seat.TheVariants.AnyCo, script.Step.Step}

-- row 1 of a file, with its line feed
abbrev pub first_row : List ℕ
first_row = codes "step,activity,seats\n"

-- a script of two steps
abbrev pub two_rows : List ℕ
two_rows = codes "step,activity,seats\n1,Check bags,CA;IW\n2,Check bags,CO*3\n"

-- its steps
abbrev pub two_steps : List Step
two_steps =
    record { activity = codes "Check bags"; seats = Staff Ca ∷ Staff Iw ∷ [] }
    ∷ record { activity = codes "Check bags"; seats = AnyCo ∷ AnyCo ∷ AnyCo ∷ [] } ∷ []

-- a byte order mark
abbrev pub mark : List ℕ
mark = 0xEF ∷ 0xBB ∷ 0xBF ∷ []

-- What the history says of rooms.
use Rattle.std.specs.Prelude.{ℕ, Bool, List, [], ◌∷◌, ◌++◌, map}
use Rattle.std.specs.List.{list_any}
use Rattle.kcr_base.specs.{Days.day_of, declared.place.Role.Role}
use Rattle.kcr_room.specs.{declared.SheetRow.SheetRow, Requests.new_row, Room.in_by, Room.present_by}
use Rattle.kcr_history.specs.declared.commands.{Act.Act, Act.TheVariants.Ceremony, Deed.TheVariants.RecordSheet}
use Rattle.kcr_history.specs.{History.History, Training.trained}

-- the sheet with the rows that a command adds: one for each of its people
abbrev pub sheet_after : Act → List SheetRow → List SheetRow
sheet_after (Ceremony c at (RecordSheet way people)) rows = rows ++ map (new_row c way at) people
sheet_after act rows = rows

-- the sheet: person, way with ceremony, and moment, of all commands, in the order in which they were accepted
abbrev pub sheet : History → List SheetRow
sheet [] = []
sheet (entry ∷ A) = sheet_after entry.command.act (sheet A)

-- the person is in the room of the ceremony at t: of their rows with moments at most t the one with the greatest moment
-- is `in` for the ceremony
abbrev pub is_in : History → List ℕ → ℕ → ℕ → Bool
is_in A who ceremony t = in_by (sheet A) who ceremony t

-- everybody in the room at t, in the byte order of their initials
abbrev pub present : History → ℕ → ℕ → List (List ℕ)
present A ceremony t = present_by (sheet A) ceremony t

-- somebody in the room at t is trained for the role on the day of t
abbrev pub has_trained_present : History → Role → ℕ → ℕ → Bool
has_trained_present A role ceremony t = list_any (λ who. trained A who role (day_of t)) (present A ceremony t)

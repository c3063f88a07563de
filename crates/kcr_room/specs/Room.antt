-- Who is in a room, by the rows of the sheet.
use Rattle.std.specs.Prelude.{ℕ, ◌==◌, Bool, true, false, not, ◌&&◌, nat_lt, nat_le, List, [], ◌∷◌, ◌++◌, map, filter}
use Rattle.std.specs.Prelude.{length, Option, Some, None, if◌then◌else◌, codes}
use Rattle.std.specs.List.{list_any, count_by}
use Rattle.kcr_base.specs.Same.{same_text, is_before}
use Rattle.kcr_room.specs.declared.{Way.Way, Way.TheVariants.Enter, Way.TheVariants.Leave, SheetRow.SheetRow}

abbrev pub is_enter : Way → Bool
is_enter Enter = true
is_enter Leave = false

abbrev pub way_text : Way → List ℕ
way_text Enter = codes "in"
way_text Leave = codes "out"

-- the row is an `in` of the ceremony
abbrev pub enters : ℕ → SheetRow → Bool
enters ceremony row = is_enter row.way && row.ceremony == ceremony

-- the later of two rows; of two with one moment the later listed
abbrev pub later_row : Option SheetRow → SheetRow → Option SheetRow
later_row None row = Some row
later_row (Some other) row = if nat_lt row.at other.at then Some other else Some row

-- the row is not earlier than the last one so far
abbrev pub is_overtaken : Option SheetRow → SheetRow → Bool
is_overtaken None row = true
is_overtaken (Some other) row = nat_le other.at row.at

-- the later of a row and the last of a list
abbrev pub last_onto : Option SheetRow → List SheetRow → Option SheetRow
last_onto last [] = last
last_onto last (row ∷ rows) = last_onto (later_row last row) rows

-- the row with the greatest moment; of two with one moment the later listed
abbrev pub last_row : List SheetRow → Option SheetRow
last_row rows = last_onto None rows

-- the row is this person's and not later than t
abbrev pub is_of : List ℕ → ℕ → SheetRow → Bool
is_of who t row = same_text row.who who && nat_le row.at t

-- the last row is there, and is `in` for the ceremony
abbrev pub last_enters : ℕ → Option SheetRow → Bool
last_enters ceremony None = false
last_enters ceremony (Some row) = enters ceremony row

-- in the room: of the person's rows with moments at most t, the greatest is `in` for the ceremony
abbrev pub in_by : List SheetRow → List ℕ → ℕ → ℕ → Bool
in_by rows who ceremony t = last_enters ceremony (last_row (filter (is_of who t) rows))

-- the row is of the same person, and later
abbrev pub is_ahead : SheetRow → SheetRow → Bool
is_ahead row other = same_text other.who row.who && nat_lt row.at other.at

-- the row is of the same person, and not earlier
abbrev pub is_as_late : SheetRow → SheetRow → Bool
is_as_late row other = same_text other.who row.who && nat_le row.at other.at

-- the rows that follow a row: the person's later ones, and of those listed behind it the ones at its moment too
abbrev pub following : List SheetRow → SheetRow → List SheetRow → List SheetRow
following before row behind = filter (is_ahead row) before ++ filter (is_as_late row) behind

-- a row of a sheet, with the rows that follow it
pub record Followed : Type 0 where
  pub row : SheetRow
  pub by : List SheetRow

-- the rows that are listed behind others, each with the rows that follow it
abbrev pub followed_rows_behind : List SheetRow → List SheetRow → List Followed
followed_rows_behind before [] = []
followed_rows_behind before (row ∷ rows) =
    record { row = row; by = following before row rows } ∷ followed_rows_behind (before ++ (row ∷ [])) rows

-- the rows of a sheet, each with the rows that follow it
abbrev pub followed_rows : List SheetRow → List Followed
followed_rows rows = followed_rows_behind [] rows

-- the row is not later than t, and each that follows it is
abbrev pub is_last_at : ℕ → Followed → Bool
is_last_at t followed = nat_le followed.row.at t && not (list_any (λ other. nat_le other.at t) followed.by)

-- each person's last row, of those with moments at most t
abbrev pub in_force : ℕ → List SheetRow → List SheetRow
in_force t rows = map (λ followed. followed.row) (filter (is_last_at t) (followed_rows rows))

-- a person put into a list in byte order
abbrev pub put_person : List ℕ → List (List ℕ) → List (List ℕ)
put_person who [] = who ∷ []
put_person who (other ∷ rest) = if is_before other who then other ∷ put_person who rest else who ∷ other ∷ rest

-- the people in byte order
abbrev pub ascending : List (List ℕ) → List (List ℕ)
ascending [] = []
ascending (who ∷ rest) = put_person who (ascending rest)

-- those in the room at t, in byte order
abbrev pub present_by : List SheetRow → ℕ → ℕ → List (List ℕ)
present_by rows ceremony t = ascending (map (λ row. row.who) (filter (enters ceremony) (in_force t rows)))

-- how many people are in the room at t
abbrev pub headcount_by : List SheetRow → ℕ → ℕ → ℕ
headcount_by rows ceremony t = length (present_by rows ceremony t)

-- how many `in` rows the ceremony has
abbrev pub in_row_count_by : List SheetRow → ℕ → ℕ
in_row_count_by rows ceremony = count_by (enters ceremony) rows

-- the person's last row
abbrev pub last_row_of : List SheetRow → List ℕ → Option SheetRow
last_row_of rows who = last_row (filter (λ row. same_text row.who who) rows)

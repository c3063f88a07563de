-- Who is in a room, by stays with a beginning and an end.
use Rattle.std.specs.Prelude.{ℕ, ◌==◌, Bool, true, not, ◌&&◌, ◌||◌, nat_lt, nat_le, List, [], ◌∷◌, ◌++◌, map}
use Rattle.std.specs.Prelude.{filter, Option, Some, None, if◌then◌else◌}
use Rattle.std.specs.List.{list_any, list_all, count_by, filter_map}
use Rattle.kcr_base.specs.{Same.is_before, declared.limits.TheConstants.MAX_PRESENT}
use Rattle.kcr_room.specs.{declared.SheetRow.SheetRow, declared.Stay.Stay, Moments.least}
use Rattle.kcr_room.specs.Room.{is_enter, Followed, followed_rows, ascending}

-- the end is none or later than t
abbrev pub ends_after : ℕ → Option ℕ → Bool
ends_after t None = true
ends_after t (Some until) = nat_lt t until

-- the end is none, or t or later
abbrev pub ends_at_or_after : ℕ → Option ℕ → Bool
ends_at_or_after t None = true
ends_at_or_after t (Some until) = nat_le t until

-- the stay is of the ceremony, and its end is none, or t or later
abbrev pub stay_reaches : ℕ → ℕ → Stay → Bool
stay_reaches ceremony t stay = stay.ceremony == ceremony && ends_at_or_after t stay.until

-- somebody is in the room of the ceremony at t by this stay
abbrev pub stay_covers : ℕ → ℕ → Stay → Bool
stay_covers ceremony t stay = stay.ceremony == ceremony && nat_le stay.since t && ends_after t stay.until

-- a stay that begins with the row
abbrev pub stay_from : SheetRow → Option ℕ → Stay
stay_from row until = record { ceremony = row.ceremony; who = row.who; since = row.at; until = until }

-- the moment of the person's next row
abbrev pub next_of : Followed → Option ℕ
next_of followed = least (map (λ other. other.at) followed.by)

-- a stay for each `in` row, its end the moment of the person's next row
abbrev pub stays_of : List Followed → List Stay
stays_of all =
    map (λ followed. stay_from followed.row (next_of followed)) (filter (λ followed. is_enter followed.row.way) all)

-- the stays of a sheet
abbrev pub stays_by : List SheetRow → List Stay
stays_by rows = stays_of (followed_rows rows)

-- those in the room at t, in byte order
abbrev pub present_in_by : List Stay → ℕ → ℕ → List (List ℕ)
present_in_by stays ceremony t = ascending (map (λ stay. stay.who) (filter (stay_covers ceremony t) stays))

-- how many people are in the room at t
abbrev pub headcount_in_by : List Stay → ℕ → ℕ → ℕ
headcount_in_by stays ceremony t = count_by (stay_covers ceremony t) stays

-- exactly one person is in the room at t
abbrev pub is_lone_in_by : List Stay → ℕ → ℕ → Bool
is_lone_in_by stays ceremony t = headcount_in_by stays ceremony t == 1

-- more than `MAX_PRESENT` people are in the room at t
abbrev pub is_crowd_in_by : List Stay → ℕ → ℕ → Bool
is_crowd_in_by stays ceremony t = nat_lt MAX_PRESENT (headcount_in_by stays ceremony t)

-- the stay is of the ceremony and holds at some moment
abbrev pub is_held : ℕ → Stay → Bool
is_held ceremony stay = stay.ceremony == ceremony && ends_after stay.since stay.until

-- the moments at which somebody comes
abbrev pub comings_by : List Stay → ℕ → List ℕ
comings_by stays ceremony = map (λ stay. stay.since) (filter (is_held ceremony) stays)

-- the moments at which somebody goes
abbrev pub goings_by : List Stay → ℕ → List ℕ
goings_by stays ceremony = filter_map (λ stay. stay.until) (filter (is_held ceremony) stays)

-- the first moment with exactly one person in the room: the least of those at which somebody comes or goes
abbrev pub first_lone_in_by : List Stay → ℕ → Option ℕ
first_lone_in_by stays ceremony =
    least (filter (is_lone_in_by stays ceremony) (comings_by stays ceremony ++ goings_by stays ceremony))

-- at some moment more than `MAX_PRESENT` people are in the room: at one at which somebody comes
abbrev pub is_crowded_in_by : List Stay → ℕ → Bool
is_crowded_in_by stays ceremony = list_any (is_crowd_in_by stays ceremony) (comings_by stays ceremony)

-- the first stay begins before the second, or at its moment with initials before its
abbrev pub is_listed_before : Stay → Stay → Bool
is_listed_before stay other =
    nat_lt stay.since other.since || (stay.since == other.since && is_before stay.who other.who)

-- a stay put into a list by beginning, then initials
abbrev pub put_stay : Stay → List Stay → List Stay
put_stay stay [] = stay ∷ []
put_stay stay (other ∷ rest) = if is_listed_before other stay then other ∷ put_stay stay rest else stay ∷ other ∷ rest

-- the stays by beginning, then initials
abbrev pub in_order : List Stay → List Stay
in_order [] = []
in_order (stay ∷ rest) = put_stay stay (in_order rest)

-- the ceremony's stays by beginning, then initials
abbrev pub attendance_in_by : List Stay → ℕ → List Stay
attendance_in_by stays ceremony = in_order (filter (λ stay. stay.ceremony == ceremony) stays)

-- no stay is listed before one that stands ahead of it
abbrev pub are_listed : List Stay → Bool
are_listed [] = true
are_listed (stay ∷ rest) = list_all (λ other. not (is_listed_before other stay)) rest && are_listed rest

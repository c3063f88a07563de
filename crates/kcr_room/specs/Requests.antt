-- What a request adds to the sheet, by stays, and why it is refused.
use Rattle.std.specs.Prelude.{ℕ, ◌==◌, ◌+◌, Bool, true, false, not, ◌&&◌, ◌||◌, nat_lt, nat_le, List, [], ◌∷◌, ◌++◌, map}
use Rattle.std.specs.Prelude.{filter, length, Option, Some, None, option_map, if◌then◌else◌}
use Rattle.std.specs.List.{list_any, count_by, find}
use Rattle.kcr_base.specs.{Lists.is_among, Same.same_text, Refuse.when, Refuse.first_of, Refuse.not_after_mark_refusal}
use Rattle.kcr_base.specs.declared.{limits.TheConstants.MAX_ENTRIES, refusal.Refusal.Refusal}
use Rattle.kcr_base.specs.declared.refusal.Refusal.TheVariants.{Turn, Crowd, Lone, Full}
use Rattle.kcr_room.specs.declared.{Way.Way, Way.TheVariants.Enter, Way.TheVariants.Leave, Stay.Stay, SheetRow.SheetRow}
use Rattle.kcr_room.specs.{Room.is_enter, Room.last_row_of, Stays.first_lone_in_by, Stays.is_crowded_in_by, Stays.stays_by}

-- the stay has no end
abbrev pub has_no_end : Option ℕ → Bool
has_no_end None = true
has_no_end (Some until) = false

-- the end is there, and not earlier than the moment
abbrev pub ends_from : ℕ → Option ℕ → Bool
ends_from at None = false
ends_from at (Some until) = nat_le at until

-- a row of this stay of the person is not earlier than the moment
abbrev pub reaches : List ℕ → ℕ → Stay → Bool
reaches who at stay = same_text stay.who who && (nat_le at stay.since || ends_from at stay.until)

-- the person is in some room by this stay
abbrev pub is_inside : List ℕ → Stay → Bool
is_inside who stay = same_text stay.who who && has_no_end stay.until

-- the person is in the ceremony's room by this stay
abbrev pub is_inside_of : ℕ → List ℕ → Stay → Bool
is_inside_of ceremony who stay = is_inside who stay && stay.ceremony == ceremony

-- it is not the person's turn: the last row is not earlier, or an `in` follows an `in`, or an `out` no `in` of this
-- ceremony
abbrev pub is_out_of_turn_in : List Stay → ℕ → Way → ℕ → List ℕ → Bool
is_out_of_turn_in stays ceremony Enter at who = list_any (reaches who at) stays || list_any (is_inside who) stays
is_out_of_turn_in stays ceremony Leave at who =
    list_any (reaches who at) stays || not (list_any (is_inside_of ceremony who) stays)

-- the stay of somebody who comes
abbrev pub new_stay : ℕ → ℕ → List ℕ → Stay
new_stay ceremony at who = record { ceremony = ceremony; who = who; since = at; until = None }

-- the stay ends, if it is one of these people's and has no end
abbrev pub with_end : List (List ℕ) → ℕ → Stay → Stay
with_end people at stay =
    record stay { until = if is_among people stay.who && has_no_end stay.until then Some at else stay.until }

abbrev pub of_ceremony : ℕ → Stay → Bool
of_ceremony ceremony stay = stay.ceremony == ceremony

-- the ceremony's stays with the rows of the request
abbrev pub stays_after_request : List Stay → ℕ → Way → List (List ℕ) → ℕ → List Stay
stays_after_request stays ceremony Enter people at = filter (of_ceremony ceremony) stays ++ map (new_stay ceremony at) people
stays_after_request stays ceremony Leave people at = map (with_end people at) (filter (of_ceremony ceremony) stays)

-- the ceremony's open stays of the people
abbrev pub is_open_stay_of : ℕ → List (List ℕ) → Stay → Bool
is_open_stay_of ceremony people stay = stay.ceremony == ceremony && is_among people stay.who && has_no_end stay.until

-- the stays that the request changes: new ones, or old ones with their end
abbrev pub changed_stays : List Stay → ℕ → Way → List (List ℕ) → ℕ → List Stay
changed_stays stays ceremony Enter people at = map (new_stay ceremony at) people
changed_stays stays ceremony Leave people at = map (with_end people at) (filter (is_open_stay_of ceremony people) stays)

-- the refusal of the first person whose turn it is not
abbrev pub turn_refusal : Option (List ℕ) → Option Refusal
turn_refusal who = option_map Turn who

abbrev pub lone_refusal : Option ℕ → Option Refusal
lone_refusal moment = option_map Lone moment

-- the stay from the moment on
abbrev pub clipped_to_moment : ℕ → Stay → Stay
clipped_to_moment at stay = record stay { since = if nat_lt stay.since at then at else stay.since }

-- a stay of the ceremony with the rows of the request, from its moment on
abbrev pub later_stay : Way → List (List ℕ) → ℕ → Stay → Stay
later_stay Enter people at stay = clipped_to_moment at stay
later_stay Leave people at stay = clipped_to_moment at (with_end people at stay)

-- the ceremony's stays with the rows of the request, from its moment on
abbrev pub stays_from_moment : List Stay → ℕ → Way → List (List ℕ) → ℕ → List Stay
stays_from_moment stays ceremony way people at = map (clipped_to_moment at) (stays_after_request stays ceremony way people at)

-- with these people the ceremony, which has N `in` rows, has more than `MAX_ENTRIES` of them
abbrev pub is_overfull : ℕ → Way → List (List ℕ) → Bool
is_overfull entered Enter people = nat_lt MAX_ENTRIES (entered + length people)
is_overfull entered Leave people = false

-- the first refusal for these stays of the ceremony
abbrev pub occupancy_refusal : List Stay → ℕ → Bool → Option Refusal
occupancy_refusal stays ceremony full =
    first_of
    (when (is_crowded_in_by stays ceremony) Crowd
    ∷ lone_refusal (first_lone_in_by stays ceremony)
    ∷ when full Full
    ∷ [])

-- the first refusal in order, of a ceremony that has N `in` rows
abbrev pub stays_refusal : List Stay → ℕ → ℕ → ℕ → Bool → Way → List (List ℕ) → ℕ → Option Refusal
stays_refusal stays entered ceremony mark full way people at =
    first_of
    (not_after_mark_refusal at (Some mark)
    ∷ turn_refusal (find (is_out_of_turn_in stays ceremony way at) people)
    ∷ occupancy_refusal (stays_from_moment stays ceremony way people at) ceremony (full || is_overfull entered way people)
    ∷ [])

-- by the last row it is no turn for a row of this way
abbrev pub is_no_turn : Way → ℕ → SheetRow → Bool
is_no_turn Enter ceremony row = is_enter row.way
is_no_turn Leave ceremony row = not (is_enter row.way && row.ceremony == ceremony)

-- it is not the person's turn: the last row is not earlier, or an `in` follows an `in`, or an `out` no `in` of this
-- ceremony
abbrev pub is_out_of_turn : Way → ℕ → ℕ → Option SheetRow → Bool
is_out_of_turn way ceremony at None = not (is_enter way)
is_out_of_turn way ceremony at (Some row) = nat_le at row.at || is_no_turn way ceremony row

abbrev pub is_out_of_turn_by : List SheetRow → ℕ → Way → ℕ → List ℕ → Bool
is_out_of_turn_by rows ceremony way at who = is_out_of_turn way ceremony at (last_row_of rows who)

-- a row that a request adds
abbrev pub new_row : ℕ → Way → ℕ → List ℕ → SheetRow
new_row ceremony way at who = record { ceremony = ceremony; who = who; way = way; at = at }

-- how many `in` rows the ceremony has
abbrev pub stay_count : List Stay → ℕ → ℕ
stay_count stays ceremony = count_by (of_ceremony ceremony) stays

abbrev pub is_overfull_by : List Stay → ℕ → Way → Bool
is_overfull_by stays ceremony Enter = nat_lt MAX_ENTRIES (stay_count stays ceremony)
is_overfull_by stays ceremony Leave = false

-- the first refusal for the stays of the sheet after the request
abbrev pub sheet_refusal : List Stay → ℕ → Bool → Way → Option Refusal
sheet_refusal stays ceremony full way =
    first_of
    (when (is_crowded_in_by stays ceremony) Crowd
    ∷ lone_refusal (first_lone_in_by stays ceremony)
    ∷ when (full || is_overfull_by stays ceremony way) Full
    ∷ [])

-- the first refusal in order, by rows
abbrev pub rows_refusal : List SheetRow → ℕ → ℕ → Bool → Way → List (List ℕ) → ℕ → Option Refusal
rows_refusal rows ceremony mark full way people at =
    first_of
    (not_after_mark_refusal at (Some mark)
    ∷ turn_refusal (find (is_out_of_turn_by rows ceremony way at) people)
    ∷ sheet_refusal (stays_by (rows ++ map (new_row ceremony way at) people)) ceremony full way
    ∷ [])

-- What the rows of a view say of a ceremony: its plan, its state, its mark, who is in its room.
use Rattle.std.specs.Prelude.{ℕ, Bool, true, false, not, List, [], ◌∷◌, find, Option, Some, None, option_map, unwrap_or}
use Rattle.std.specs.List.{list_any}
use Rattle.kcr_base.specs.{Days.day_of, Same.same_text, declared.refusal.Refusal.Refusal, Refuse.when, Refuse.first_of, Refuse.before_mark_refusal}
use Rattle.kcr_base.specs.declared.place.{Facility.Facility, Facility.TheVariants.East, Place.Place, Role.Role}
use Rattle.kcr_base.specs.declared.refusal.Refusal.TheVariants as Refusals
use Rattle.kcr_people.specs.People.{trained_by, holder_by}
use Rattle.kcr_room.specs.{declared.Stay.Stay, Stays.present_in_by}
use Rattle.kcr_history.specs.declared.row_types.{CeremonyRow.CeremonyRow, MarkRow.MarkRow, CeremonyState.CeremonyState}
use Rattle.kcr_history.specs.declared.row_types.CeremonyState.TheVariants as States
use Rattle.kcr_history.specs.{declared.views.View.View, Views.is_of_number, Views.is_mark_of}

-- THE CEREMONY

-- the row of the ceremony
abbrev pub ceremony_by : List CeremonyRow → ℕ → Option CeremonyRow
ceremony_by rows ceremony = find (is_of_number ceremony) rows

-- the facility of a ceremony that is there (of another the word says nothing of use)
abbrev pub facility_of_row : Option CeremonyRow → Facility
facility_of_row None = East
facility_of_row (Some row) = row.facility

-- the day from which it may be opened
abbrev pub day_by : Option CeremonyRow → ℕ
day_by None = 0
day_by (Some row) = row.day

abbrev pub is_open_state : CeremonyState → Bool
is_open_state States.Planned = false
is_open_state States.Open = true
is_open_state States.Closed = false

-- the ceremony is there, and open
abbrev pub is_open_row : Option CeremonyRow → Bool
is_open_row None = false
is_open_row (Some row) = is_open_state row.state

-- where the ceremony takes place
abbrev pub facility_by : View → ℕ → Facility
facility_by view ceremony = facility_of_row (ceremony_by view.ceremonies.items ceremony)

-- the mark of the ceremony, none if it was never opened
abbrev pub mark_by : List MarkRow → ℕ → Option ℕ
mark_by rows ceremony = option_map (λ row. row.at) (find (is_mark_of ceremony) rows)

-- a ceremony in this state is not open, or the moment is before the ceremony's mark
abbrev pub not_running : View → ℕ → CeremonyState → ℕ → Option Refusal
not_running view ceremony state at =
    first_of (when (not (is_open_state state)) Refusals.State ∷ before_mark_refusal at (mark_by view.marks.items ceremony) ∷ [])

-- THE ROOM

-- the person is in the room at t
abbrev pub is_in_by : List Stay → List ℕ → ℕ → ℕ → Bool
is_in_by stays who ceremony t = list_any (same_text who) (present_in_by stays ceremony t)

-- the person is trained for the role on the day
abbrev pub is_trained_by : View → List ℕ → Role → ℕ → Bool
is_trained_by view who role day = trained_by view.trainings.items view.withdrawals.items who role day

-- somebody in the room at t is trained for the role on the day of t
abbrev pub has_trained_present_by : View → Role → ℕ → ℕ → Bool
has_trained_present_by view role ceremony t =
    list_any (λ who. is_trained_by view who role (day_of t)) (present_in_by view.stays.items ceremony t)

-- the place has a holder on the day of t, who is in the room
abbrev pub is_holder_present_by : View → Place → ℕ → ℕ → Bool
is_holder_present_by view place ceremony t =
    unwrap_or (option_map (λ who. is_in_by view.stays.items who ceremony t)
    (holder_by view.appointments.items place (day_of t))) false

-- Signatures and exceptions, by the rows of a view: the steps of a ceremony, who fits a seat, and who is seated.
use Rattle.std.specs.Prelude.{◌≡◌, ℕ, suc, Bool, true, false, nat_lt, List, [], ◌∷◌, ◌++◌, map}
use Rattle.std.specs.Prelude.{filter, length, find, get_or, slice_get, Option, Some, None, ◌⊎◌}
use Rattle.kcr_base.specs.Days.{day_of}
use Rattle.kcr_base.specs.declared.{limits.TheConstants.MAX_PRESENT, place.Role.TheVariants.Ca, place.Role.TheVariants.Iw}
use Rattle.kcr_base.specs.declared.refusal.Refusal.{Refusal, TheVariants.Short, TheVariants.Disk}
use Rattle.kcr_room.specs.Stays.{present_in_by}
use Rattle.kcr_script.specs.declared.seat.Seat.{Seat, TheVariants.Staff}
use Rattle.kcr_seats.specs.Seating.{IsFirst, IsLeast}
use Rattle.kcr_history.specs.declared.row_types.{StepRow.StepRow, StepState.StepState, SeatingRow.SeatingRow, ExceptionRow.ExceptionRow}
use Rattle.kcr_history.specs.{declared.views.Change.Change, declared.views.View.View, Fitting.fits_by, Tables.seat_rows, Machine.SeatRequest}
use Rattle.kcr_history.specs.declared.views.Change.TheVariants.{PutMark, PutStep, PutSeating, PutException}
use Rattle.kcr_history.specs.Views.{is_step_at, is_exception_of, last_seated}
use Rattle.kcr_rules.specs.CeremonyStatus.{ceremony_by, facility_of_row}

-- THE STEPS AND EXCEPTIONS OF A CEREMONY

-- the row of a step
abbrev pub step_by : List StepRow → ℕ → ℕ → Option StepRow
step_by rows ceremony step = find (is_step_at ceremony step) rows

-- the seats of the step's row
abbrev pub seats_by : Option StepRow → List Seat
seats_by None = []
seats_by (Some row) = row.seats

-- the step that is next: the one after the last that has a seating, since steps are signed and passed in order
abbrev pub next_step_by : List SeatingRow → ℕ → ℕ
next_step_by rows ceremony = suc (last_seated rows ceremony)

-- how many exceptions the ceremony has
abbrev pub exception_count_by : List ExceptionRow → ℕ → ℕ
exception_count_by rows ceremony = length (filter (is_exception_of ceremony) rows)

-- WHO FITS A SEAT

-- there is a seat, and the person is one for it
abbrev pub on_seat : (Seat → List ℕ → Bool) → Option Seat → List ℕ → Bool
on_seat fit None who = false
on_seat fit (Some seat) who = fit seat who

-- the same by the numbers of seats and people, from 0
abbrev pub fits_of : (Seat → List ℕ → Bool) → List Seat → List (List ℕ) → ℕ → ℕ → Bool
fits_of fit seats people seat person = on_seat fit (slice_get seats seat) (get_or people person [])

-- everybody in the room
abbrev pub room_by : View → SeatRequest → List (List ℕ)
room_by view s = present_in_by view.stays.items s.ceremony s.at

-- which of them fits which of the seats
abbrev pub fits_request_by : View → SeatRequest → ℕ → ℕ → Bool
fits_request_by view s =
    fits_of (fits_by view.trainings.items view.withdrawals.items view.appointments.items
    (facility_of_row (ceremony_by view.ceremonies.items s.ceremony)) (day_of s.at))
    s.seats (room_by view s)

-- the people are those whom the search names
pub record IsSeatedBy (view : View) (s : SeatRequest) (people : List (List ℕ)) : Type 0 where
  pub numbers : List ℕ
  pub first : IsFirst (fits_request_by view s) (length s.seats) (length (room_by view s)) numbers
  pub named : people ≡ map (λ person. get_or (room_by view s) person []) numbers

-- the positions are the seats that the search names, counted from 1
pub record IsShortBy (view : View) (s : SeatRequest) (positions : List ℕ) : Type 0 where
  pub numbers : List ℕ
  pub least : IsLeast (fits_request_by view s) (length s.seats) (length (room_by view s)) numbers
  pub counted : positions ≡ map suc numbers

-- nobody is seated: seats lack people, which the refusal names; or there are more people in the room than may be
abbrev pub IsUnseatedBy : View → SeatRequest → Refusal → Type 0
IsUnseatedBy view s refusal =
    ((positions : List ℕ) × IsShortBy view s positions × (refusal ≡ Short positions))
    ⊎ ((refusal ≡ Disk) × (nat_lt MAX_PRESENT (length (room_by view s)) ≡ true))

-- the seats of an exception that passes a step
abbrev pub staff : List Seat
staff = Staff Ca ∷ Staff Iw ∷ []

-- CHANGES

-- the step's row with what became of it
abbrev pub step_change : Option StepRow → StepState → ℕ → List Change
step_change None state at = []
step_change (Some old) state at = PutStep (record old { state = state; at = Some at }) ∷ []

abbrev pub mark_change : ℕ → ℕ → Change
mark_change ceremony at = PutMark (record { ceremony = ceremony; at = at })

-- the step's row, the rows of its seats, the mark
abbrev pub seat_changes : View → StepState → ℕ → ℕ → ℕ → List (List ℕ) → List Change
seat_changes view state ceremony step at people =
    step_change (step_by view.steps.items ceremony step) state at ++ map PutSeating (seat_rows ceremony step 0 people)
    ++ mark_change ceremony at ∷ []

-- the row of an exception
abbrev pub exception_change : View → ℕ → List ℕ → ℕ → Option ℕ → Change
exception_change view ceremony text at passed =
    PutException
    (record {
      ceremony = ceremony;
      exception = suc (exception_count_by view.exceptions.items ceremony);
      text = text;
      at = at;
      passed = passed;
    })

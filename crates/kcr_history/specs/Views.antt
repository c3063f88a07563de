-- Which rows a command asks for, and when a view holds them.
use Rattle.std.specs.Prelude.{◌≡◌, ℕ, suc, ◌==◌, ◌&&◌, Bool, true, false, nat_le, List, [], ◌∷◌, map, filter}
use Rattle.std.specs.Prelude.{find, fold, Option, Some, None, max, unwrap_or, if◌then◌else◌, All as EachOf}
use Rattle.std.specs.List.{list_any, Sorted.IsPermutation}
use Rattle.kcr_base.specs.{Same.same_text, Same.same_place, declared.place.Place.Place, Rows.IsIn}
use Rattle.kcr_people.specs.declared.{Person.Person, Training.Training, Withdrawal.Withdrawal, Appointment.Appointment}
use Rattle.kcr_people.specs.People.{lasts_beyond}
use Rattle.kcr_custody.specs.{declared.Bag.Bag, declared.Item.Item, Custody.lies_in}
use Rattle.kcr_room.specs.{declared.Stay.Stay, Stays.stay_reaches, Requests.stay_count}
use Rattle.kcr_history.specs.{declared.row_types.CeremonyRow.CeremonyRow, declared.row_types.ExceptionRow.ExceptionRow, Tables.Tables}
use Rattle.kcr_history.specs.declared.row_types.{MarkRow.MarkRow, KeyRow.KeyRow, StepRow.StepRow, SeatingRow.SeatingRow}
use Rattle.kcr_history.specs.declared.views.{AppointmentFilter.AppointmentFilter, TrainingFilter.TrainingFilter}
use Rattle.kcr_history.specs.declared.views.AppointmentFilter.TheVariants as Appointments
use Rattle.kcr_history.specs.declared.views.{Asks.Asks, View.View, ItemFilter.ItemFilter, StayFilter.StayFilter, StepFilter.StepFilter}
use Rattle.kcr_history.specs.declared.views.ItemFilter.TheVariants as Items
use Rattle.kcr_history.specs.declared.views.Selection.{Selection, TheVariants.Nothing, TheVariants.Matching, TheVariants.All}
use Rattle.kcr_history.specs.declared.views.TrainingFilter.TheVariants as Trainings

-- WHETHER A ROW IS ONE OF THOSE ASKED FOR

abbrev pub is_of_people : List (List ℕ) → Person → Bool
is_of_people people row = list_any (same_text row.who) people

abbrev pub is_training_of : List ℕ → Training → Bool
is_training_of who row = same_text row.who who

-- the training lasts to the day
abbrev pub training_reaches : ℕ → Training → Bool
training_reaches day row = nat_le day row.until

abbrev pub is_training_asked : TrainingFilter → Training → Bool
is_training_asked (Trainings.Person who) row = is_training_of who row
is_training_asked (Trainings.EndingOnOrAfter day) row = training_reaches day row

abbrev pub is_withdrawal_of : List ℕ → Withdrawal → Bool
is_withdrawal_of who row = same_text row.who who

abbrev pub is_appointment_to : Place → Appointment → Bool
is_appointment_to place row = same_place row.place place

abbrev pub is_appointment_of : List ℕ → Appointment → Bool
is_appointment_of who row = same_text row.who who

abbrev pub is_of_serial : List ℕ → Bag → Bool
is_of_serial serial row = same_text row.serial serial

abbrev pub is_item_of : ItemFilter → Item → Bool
is_item_of (Items.Codes codes) row = list_any (same_text row.code) codes
is_item_of (Items.Bag serial) row = lies_in serial row

abbrev pub is_of_number : ℕ → CeremonyRow → Bool
is_of_number ceremony row = row.number == ceremony

abbrev pub is_mark_of : ℕ → MarkRow → Bool
is_mark_of ceremony row = row.ceremony == ceremony

abbrev pub is_step_at : ℕ → ℕ → StepRow → Bool
is_step_at ceremony step row = row.ceremony == ceremony && row.step == step

abbrev pub is_seating_of : ℕ → SeatingRow → Bool
is_seating_of ceremony row = row.ceremony == ceremony

abbrev pub is_exception_of : ℕ → ExceptionRow → Bool
is_exception_of ceremony row = row.ceremony == ceremony

abbrev pub is_of_key : List ℕ → KeyRow → Bool
is_of_key key row = same_text row.key key

-- WHEN A VIEW HOLDS THEM

-- the rows asked for are the table's, in any order; beside them the view may hold others
abbrev pub Includes : {X K : Type 0} → (K → X → Bool) → Selection K → List X → List X → Type 0
Includes is_under Nothing table rows = Unit {0}
Includes is_under (Matching key) table rows = IsPermutation (filter (is_under key) table) (filter (is_under key) rows)
Includes is_under All table rows = IsPermutation table rows

-- the whole table, if it is asked for
abbrev pub IncludesAll : {X : Type 0} → Bool → List X → List X → Type 0
IncludesAll true table rows = IsPermutation table rows
IncludesAll false table rows = Unit {0}

-- the number of the last step of the ceremony that has a seating, 0 if none has
abbrev pub last_seated : List SeatingRow → ℕ → ℕ
last_seated rows ceremony = fold max 0 (map (λ row. row.step) (filter (is_seating_of ceremony) rows))

-- the number of the step that is asked for, if these are seatings of its ceremony
abbrev pub step_asked : StepFilter → List SeatingRow → ℕ
step_asked asked rows = unwrap_or asked.step (suc (last_seated rows asked.ceremony))

-- the view tells the last step of the ceremony that has a seating, and has the row of the step that is asked for
pub record ShowsStepOf (asked : StepFilter) (all seatings : List SeatingRow) (table rows : List StepRow) : Type 0 where
  pub last : last_seated seatings asked.ceremony ≡ last_seated all asked.ceremony
  pub step : Includes (is_step_at asked.ceremony) (Matching (step_asked asked seatings)) table rows

abbrev pub IncludesStep : Option StepFilter → List SeatingRow → List SeatingRow → List StepRow → List StepRow → Type 0
IncludesStep None all seatings table rows = Unit {0}
IncludesStep (Some asked) all seatings table rows = ShowsStepOf asked all seatings table rows

-- the later of two stays, by their beginnings
abbrev pub later_stay : Stay → Option Stay → Option Stay
later_stay stay None = Some stay
later_stay stay (Some other) = if nat_le other.since stay.since then Some stay else Some other

-- the stay of a list that began last
abbrev pub last_of : List Stay → Option Stay
last_of [] = None
last_of (stay ∷ stays) = later_stay stay (last_of stays)

-- the person's stay that began last, in whatever ceremony
abbrev pub last_stay : List Stay → List ℕ → Option Stay
last_stay stays who = last_of (filter (λ stay. same_text stay.who who) stays)

-- each of the people has the same last stay in the view as in the table
abbrev pub ShowsLast : List (List ℕ) → List Stay → List Stay → Type 0
ShowsLast [] table rows = Unit {0}
ShowsLast (who ∷ people) table rows = (last_stay rows who ≡ last_stay table who) × ShowsLast people table rows

-- the stays of the ceremony that last to the moment, in any order, and of each of the people the one that began last;
-- and no stay that the table does not have
pub record ShowsStaysOf (asked : StayFilter) (table rows : List Stay) : Type 0 where
  pub room : IsPermutation
      (filter (stay_reaches asked.ceremony asked.at) table) (filter (stay_reaches asked.ceremony asked.at) rows)
  pub last : ShowsLast asked.people table rows
  pub within : (stay : Stay) → IsIn stay rows → IsIn stay table

abbrev pub IncludesStays : Selection StayFilter → List Stay → List Stay → Type 0
IncludesStays Nothing table rows = Unit {0}
IncludesStays (Matching asked) table rows = ShowsStaysOf asked table rows
IncludesStays All table rows = IsPermutation table rows

-- how many stays the ceremony has
abbrev pub HasStayCount : Option ℕ → List Stay → ℕ → Type 0
HasStayCount None table count = Unit {0}
HasStayCount (Some ceremony) table count = count ≡ stay_count table ceremony

-- of each row that passes the test the view has one that passes it too and begins no earlier: so it has the last one
abbrev pub ShowsLastOf : (Appointment → Bool) → List Appointment → List Appointment → Type 0
ShowsLastOf test table rows =
    EachOf (λ row. test row ≡ true → list_any (λ shown. test shown && nat_le row.since shown.since) rows ≡ true) table

-- the last appointment to the place, that of the person, or both; or those that last beyond the day, in any order
abbrev pub ShowsAppointmentsOf : AppointmentFilter → List Appointment → List Appointment → Type 0
ShowsAppointmentsOf (Appointments.Place place) table rows = ShowsLastOf (is_appointment_to place) table rows
ShowsAppointmentsOf (Appointments.Person who) table rows = ShowsLastOf (is_appointment_of who) table rows
ShowsAppointmentsOf (Appointments.LastToPlaceAndOfPerson place who) table rows =
    ShowsLastOf (is_appointment_to place) table rows × ShowsLastOf (is_appointment_of who) table rows
ShowsAppointmentsOf (Appointments.EndingAfter day) table rows =
    IsPermutation (filter (lasts_beyond day) table) (filter (lasts_beyond day) rows)

-- the view has the appointments that are asked for, and no row that the table does not have
abbrev pub IncludesAppointments : Selection AppointmentFilter → List Appointment → List Appointment → Type 0
IncludesAppointments Nothing table rows = Unit {0}
IncludesAppointments (Matching asked) table rows =
    ((row : Appointment) → IsIn row rows → IsIn row table) × ShowsAppointmentsOf asked table rows
IncludesAppointments All table rows = IsPermutation table rows

-- the row of the key
abbrev pub row_of_key : List ℕ → List KeyRow → Option KeyRow
row_of_key key rows = find (is_of_key key) rows

-- the greatest number of an accepted command, 0 if there is none
abbrev pub greatest_number : List KeyRow → ℕ
greatest_number [] = 0
greatest_number (row ∷ rows) = max row.accepted (greatest_number rows)

-- the view holds the rows asked for
pub record IsViewOf (asks : Asks) (t : Tables) (view : View) : Type 0 where
  pub people : Includes is_of_people asks.people t.people view.people.items
  pub trainings : Includes is_training_asked asks.trainings t.trainings view.trainings.items
  pub withdrawals : Includes is_withdrawal_of asks.withdrawals t.withdrawals view.withdrawals.items
  pub appointments : IncludesAppointments asks.appointments t.appointments view.appointments.items
  pub boxes : IncludesAll asks.boxes t.boxes view.boxes.items
  pub safes : IncludesAll asks.safes t.safes view.safes.items
  pub bags : Includes is_of_serial asks.bags t.bags view.bags.items
  pub items : Includes is_item_of asks.items t.items view.items.items
  pub ceremonies : Includes is_of_number asks.ceremonies t.ceremonies view.ceremonies.items
  pub marks : Includes is_mark_of asks.marks t.marks view.marks.items
  pub steps : IncludesStep asks.steps t.seatings view.seatings.items t.steps view.steps.items
  pub exceptions : Includes is_exception_of asks.exceptions t.exceptions view.exceptions.items
  pub stays : IncludesStays asks.stays t.stays view.stays.items
  pub entries : HasStayCount asks.stay_count t.stays view.stay_count

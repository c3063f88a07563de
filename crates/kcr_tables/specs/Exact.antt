-- Of the rows that a decision asks for none is strange: each is the row of a value that is shown, whatever else the
-- tables have.
use Rattle.std.specs.Prelude.{◌≡◌, ◌⊎◌, ◌&&◌, ◌||◌, not, ℕ, pos, Bool, List, [], ◌∷◌, ◌++◌, map, filter, slice_get, IsPermutation, Option, Some, None}
use Rattle.std.specs.{List.AllByRecursion, List.list_any, Ordering.is_ge, Ordering.is_gt}
use Rattle.sqlite.specs.{Ops.is_null, Tree.Trees, Order.Row, Order.column, Order.value_cmp}
use Rattle.sqlite.specs.declared.types.Value.{Value, TheVariants.Int, TheVariants.Text}
use Rattle.sqlite_rules.specs.Lists.{Has}
use Rattle.kcr_base.specs.{Place.place_text, declared.place.Place.Place as Custodian}
use Rattle.kcr_people.specs.declared.Appointment.{Appointment}
use Rattle.kcr_history.specs.{declared.row_types.StepRow.StepRow, declared.row_types.SeatingRow.SeatingRow, Views.step_asked}
use Rattle.kcr_history.specs.declared.views.{AppointmentFilter.AppointmentFilter, TrainingFilter.TrainingFilter}
use Rattle.kcr_history.specs.declared.views.AppointmentFilter.TheVariants as Appointments
use Rattle.kcr_history.specs.declared.views.{Asks.Asks, View.View, ItemFilter.ItemFilter, StayFilter.StayFilter, StepFilter.StepFilter}
use Rattle.kcr_history.specs.declared.views.ItemFilter.TheVariants as Items
use Rattle.kcr_history.specs.declared.views.Selection.{Selection, TheVariants.Nothing, TheVariants.Matching, TheVariants.All}
use Rattle.kcr_history.specs.declared.views.TrainingFilter.TheVariants as Trainings
use Rattle.kcr_rows.specs.Keyed.{TableLayout, cells}
use Rattle.kcr_rows.proofs.FilterLemmas.{has_value}
use Rattle.kcr_rows.specs.Rows.{person_row, training_row, appointment_row, box_row, safe_row, bag_row, item_row}
use Rattle.kcr_rows.specs.Rows.{ceremony_row, mark_row, step_row, seating_row, exception_row, stay_row, withdrawal_row}
use Rattle.kcr_tables.specs.Selected.{asked_of, asked_all}
use Rattle.kcr_tables.specs.declared.view.{StaffRows.StaffRows, CustodyRows.CustodyRows, CeremonyRows.CeremonyRows}
use Rattle.kcr_tables.specs.StoredTables.{people_place, trainings_place, appointments_place, boxes_place, safes_place}
use Rattle.kcr_tables.specs.StoredTables.{bags_place, items_place, ceremonies_place, marks_place, steps_place, exceptions_place}
use Rattle.kcr_tables.specs.StoredTables.{seatings_place, stays_place, withdrawals_place}

-- the rows of a table, whatever they are
abbrev pub rows_at : TableLayout → Trees → List Row
rows_at place db = map (cells place) (db place.tree)

-- each of the rows is the row of one of the values that are shown
abbrev pub AreShown : {X : Type 0} → (X → Row) → List X → List Row → Type 0
AreShown {X = X} row_of shown rows = AllByRecursion (λ row. (x : X) × Has shown x × (row ≡ row_of x)) rows

-- each of the rows is that of a value, and this is the first of these values
abbrev pub IsFirstShown : {X : Type 0} → (X → Row) → Option X → List Row → Type 0
IsFirstShown {X = X} row_of first rows = (shown : List X) × IsPermutation rows (map row_of shown) × (first ≡ slice_get shown 0)

-- none if there is no row, and else one row of them
abbrev pub IsOneOf : List Row → List Row → Type 0
IsOneOf all shown = ((all ≡ []) × (shown ≡ [])) ⊎ ((row : Row) × (shown ≡ row ∷ []) × Has all row)

-- ---- whether a row is one of those asked for, by what stands in its columns

abbrev pub has_key : {K : Type 0} → ℕ → (K → Value) → K → Row → Bool
has_key at value_of key row = has_value at (value_of key) row

abbrev pub has_text : ℕ → List ℕ → Row → Bool
has_text at text row = has_value at (Text text) row

abbrev pub has_number : ℕ → ℕ → Row → Bool
has_number at number row = has_value at (Int (pos number)) row

-- the number or a greater one, or a text or a blob, which stand behind all numbers; but not NULL
abbrev pub has_from : ℕ → ℕ → Row → Bool
has_from at number row = not (is_null (column row at)) && is_ge (value_cmp (column row at) (Int (pos number)))

-- a greater number than this one, or a text or a blob; but not NULL
abbrev pub has_beyond : ℕ → ℕ → Row → Bool
has_beyond at number row = not (is_null (column row at)) && is_gt (value_cmp (column row at) (Int (pos number)))

-- one of the texts
abbrev pub has_any : ℕ → List (List ℕ) → Row → Bool
has_any at texts row = list_any (λ text. has_text at text row) texts

abbrev pub is_item_row : ItemFilter → Row → Bool
is_item_row (Items.Codes codes) row = has_any 0 codes row
is_item_row (Items.Bag serial) row = has_text 2 serial row

-- of the person, or lasting to the day
abbrev pub is_training_row : TrainingFilter → Row → Bool
is_training_row (Trainings.Person who) row = has_text 0 who row
is_training_row (Trainings.EndingOnOrAfter day) row = has_from 3 day row

-- an appointment with no end, or one after the day
abbrev pub is_beyond_row : ℕ → Row → Bool
is_beyond_row day row = is_null (column row 3) || has_beyond 3 day row

-- that of a step, by its ceremony and its number
abbrev pub is_row_of_step : ℕ → ℕ → Row → Bool
is_row_of_step ceremony step row = has_number 0 ceremony row && has_number 1 step row

-- of the ceremony, and with no end, or one from the moment on
abbrev pub is_lasting_row : ℕ → ℕ → Row → Bool
is_lasting_row ceremony at row = has_number 2 ceremony row && (is_null (column row 3) || has_from 3 at row)

abbrev pub is_stay_row : StayFilter → Row → Bool
is_stay_row asked row = is_lasting_row asked.ceremony asked.at row

-- ---- the rows asked for

-- the appointments to a place, and those of a person
abbrev pub rows_to : Custodian → Trees → List Row
rows_to place db = filter (has_text 0 (place_text place)) (rows_at appointments_place db)

abbrev pub rows_of_person : List ℕ → Trees → List Row
rows_of_person who db = filter (has_text 2 who) (rows_at appointments_place db)

-- one of the first rows, or none if there are none, and behind it one of the others
abbrev pub AreOneOfEach : List Row → List Row → List Row → Type 0
AreOneOfEach first others shown =
    (front : List Row) × (behind : List Row) × (shown ≡ front ++ behind) × IsOneOf first front × IsOneOf others behind

-- of the appointments one to the place, one of the person, or one of each; those that last beyond the day; or all
abbrev pub AppointmentsAreShown : Selection AppointmentFilter → List Appointment → Trees → Type 0
AppointmentsAreShown Nothing shown db = Unit {0}
AppointmentsAreShown (Matching (Appointments.Place place)) shown db =
    IsOneOf (rows_to place db) (map appointment_row shown)
AppointmentsAreShown (Matching (Appointments.Person who)) shown db =
    IsOneOf (rows_of_person who db) (map appointment_row shown)
AppointmentsAreShown (Matching (Appointments.LastToPlaceAndOfPerson place who)) shown db =
    AreOneOfEach (rows_to place db) (rows_of_person who db) (map appointment_row shown)
AppointmentsAreShown (Matching (Appointments.EndingAfter day)) shown db =
    AreShown appointment_row shown (filter (is_beyond_row day) (rows_at appointments_place db))
AppointmentsAreShown All shown db = AreShown appointment_row shown (rows_at appointments_place db)

-- of the seatings of the ceremony one, or none if there are none
abbrev pub OneSeatingIsShown : ℕ → List SeatingRow → Trees → Type 0
OneSeatingIsShown ceremony seatings db =
    IsOneOf (filter (has_number 0 ceremony) (rows_at seatings_place db)) (map seating_row seatings)

-- of the steps the one whose number is asked for, if these are the seatings that are shown
abbrev pub StepIsShown : StepFilter → List SeatingRow → List StepRow → Trees → Type 0
StepIsShown asked seatings steps db =
    let is_asked = is_row_of_step asked.ceremony (step_asked asked seatings) in
    AreShown step_row steps (filter is_asked (rows_at steps_place db))

-- of a step that is asked for its row, and one seating of its ceremony
abbrev pub StepsAreShown : Option StepFilter → List SeatingRow → List StepRow → Trees → Type 0
StepsAreShown None seatings steps db = Unit {0}
StepsAreShown (Some asked) seatings steps db =
    OneSeatingIsShown asked.ceremony seatings db × StepIsShown asked seatings steps db

-- of people's offices
pub record StaffIsShown (asks : Asks) (db : Trees) (rows : StaffRows) : Type 0 where
  pub trainings : AreShown training_row rows.trainings.items
      (asked_of is_training_row asks.trainings (rows_at trainings_place db))
  pub withdrawals : AreShown withdrawal_row rows.withdrawals.items
      (asked_of (has_text 0) asks.withdrawals (rows_at withdrawals_place db))
  pub appointments : AppointmentsAreShown asks.appointments rows.appointments.items db

-- of what is kept in the safes
pub record CustodyIsShown (asks : Asks) (db : Trees) (rows : CustodyRows) : Type 0 where
  pub boxes : AreShown box_row rows.boxes.items (asked_all asks.boxes (rows_at boxes_place db))
  pub safes : AreShown safe_row rows.safes.items (asked_all asks.safes (rows_at safes_place db))
  pub bags : AreShown bag_row rows.bags.items (asked_of (has_text 0) asks.bags (rows_at bags_place db))
  pub items : AreShown item_row rows.items.items (asked_of is_item_row asks.items (rows_at items_place db))

-- of ceremonies
pub record CeremoniesAreShown (asks : Asks) (db : Trees) (rows : CeremonyRows) : Type 0 where
  pub ceremonies : AreShown ceremony_row rows.ceremonies.items
      (asked_of (has_number 0) asks.ceremonies (rows_at ceremonies_place db))
  pub marks : AreShown mark_row rows.marks.items (asked_of (has_number 0) asks.marks (rows_at marks_place db))
  pub steps : StepsAreShown asks.steps rows.seatings.items rows.steps.items db
  pub exceptions : AreShown exception_row rows.exceptions.items
      (asked_of (has_number 0) asks.exceptions (rows_at exceptions_place db))

-- the parts of a view that are read together
abbrev pub staff_of : View → StaffRows
staff_of view = record { trainings = view.trainings; withdrawals = view.withdrawals; appointments = view.appointments }

abbrev pub custody_of : View → CustodyRows
custody_of view = record { boxes = view.boxes; safes = view.safes; bags = view.bags; items = view.items }

abbrev pub ceremonies_of : View → CeremonyRows
ceremonies_of view = record {
  ceremonies = view.ceremonies;
  marks = view.marks;
  steps = view.steps;
  seatings = view.seatings;
  exceptions = view.exceptions;
}

-- every row asked for, of each table, is the row of a value in the view; of the stays those of the ceremony
pub record HasNoInvalidRow (asks : Asks) (db : Trees) (view : View) : Type 0 where
  pub people : AreShown person_row view.people.items (asked_of (has_any 0) asks.people (rows_at people_place db))
  pub staff : StaffIsShown asks db (staff_of view)
  pub custody : CustodyIsShown asks db (custody_of view)
  pub ceremonies : CeremoniesAreShown asks db (ceremonies_of view)
  pub stays : AreShown stay_row view.stays.items (asked_of is_stay_row asks.stays (rows_at stays_place db))

-- The decision of an act, by the rows of a view.
use Rattle.std.specs.Prelude.{◌≡◌, ◌≢◌, suc, ℕ, Bool, true, false, nat_lt, List, [], ◌∷◌, ◌++◌, map, Option, Some}
use Rattle.std.specs.Prelude.{None, option_map, is_some, is_none, MatchOption, MatchResult, Result, Ok, Err, Vec}
use Rattle.std.specs.{List.list_any, Global.Global}
use Rattle.kcr_base.specs.{Days.day_of, Refuse.first_of, Same.same_place}
use Rattle.kcr_base.specs.declared.{limits.TheConstants.MAX_STEPS, place.Place.Place, place.Role.TheVariants.Ca}
use Rattle.kcr_base.specs.declared.refusal.Refusal.{Refusal, TheVariants.Memory}
use Rattle.kcr_people.specs.declared.{Appointment.Appointment, Roster.Roster}
use Rattle.kcr_people.specs.People.{is_person_by, same_training, ever_trained_by, trained_from_by, ever_put_by}
use Rattle.kcr_people.specs.People.{withdrawn_rows, open_row_by, end_of, nobody}
use Rattle.kcr_custody.specs.declared.CeremonyStatus.{CeremonyStatus}
use Rattle.kcr_custody.specs.Custody.{is_box, place_of_box_by, is_open_by, spot_by, rest_by}
use Rattle.kcr_history.specs.declared.{commands.Act.Act, views.Change.Change, views.View.View}
use Rattle.kcr_history.specs.declared.commands.Deed.{Deed, TheVariants.Take, TheVariants.Put, TheVariants.Cut}
use Rattle.kcr_history.specs.declared.commands.Act.TheVariants.{Enter, Train, Withdraw, Appoint, Replace, Release, AddBox, Plan, Ceremony}
use Rattle.kcr_history.specs.declared.commands.Deed.TheVariants.{AddItem, Open, Close, RecordSheet, SetSafe, Sign, RecordException, Seal}
use Rattle.kcr_history.specs.declared.row_types.{MarkRow.MarkRow, StepState.TheVariants.Signed, StepState.TheVariants.Passed}
use Rattle.kcr_history.specs.declared.views.Change.TheVariants.{PutPerson, PutTraining, PutWithdrawal, PutAppointment, PutBox}
use Rattle.kcr_history.specs.Conditions.{Facts, status, early_conditions, late_conditions}
use Rattle.kcr_history.specs.{History.greatest, Machine.SeatRequest, Views.is_step_at, Views.last_seated}
use Rattle.kcr_rules.specs.declared.{effects.Effect.Effect, context.DecisionContext.DecisionContext}
use Rattle.kcr_rules.specs.CeremonyStatus.{ceremony_by, facility_by, day_by, is_open_row, mark_by, has_trained_present_by, is_holder_present_by}
use Rattle.kcr_rules.specs.CeremonyRows.{was_opened_by, is_busy_by, is_unended, lies_on_table, closing_changes, opening_changes, plan_changes}
use Rattle.kcr_rules.specs.CustodyRows.{seal_changes_by, take_changes_by, put_changes_by, cut_changes_by}
use Rattle.kcr_rules.specs.RoomRows.{safe_operator_by, turn_changes_by, add_item_changes_by}
use Rattle.kcr_rules.specs.SheetRows.{room_refusal, sheet_changes_by}
use Rattle.kcr_rules.specs.Signing.{next_step_by, step_by, seats_by, exception_count_by, staff}
use Rattle.kcr_rules.specs.Signing.{IsSeatedBy, IsUnseatedBy, mark_change, seat_changes, exception_change}

-- the settled day: the day of the greatest mark
abbrev pub settled_by : List MarkRow → Option ℕ
settled_by marks = option_map day_of (greatest (map (λ row. row.at) marks))

-- the roster has the rows of people, trainings, withdrawals and appointments, the settled day, and whether it is full
pub record IsRoster (premises : DecisionContext) (roster : Roster) : Type 0 where
  pub people : roster.people.now ≡ premises.view.now.people.items
  pub trainings : roster.trainings.now ≡ premises.view.now.trainings.items
  pub withdrawals : roster.withdrawals.now ≡ premises.view.now.withdrawals.items
  pub appointments : roster.appointments.now ≡ premises.view.now.appointments.items
  pub settled : roster.settled ≡ settled_by premises.view.now.marks.items
  pub is_full : roster.is_full ≡ premises.is_full

-- THE CONDITIONS: the rows answer what they ask

abbrev pub by_rows : View → Bool → Facts
by_rows view full =
    record {
      is_full = full;
      is_person = is_person_by view.people.items;
      has_training = λ row. list_any (same_training row) view.trainings.items;
      ever_trained = ever_trained_by view.trainings.items;
      trained_from = trained_from_by view.trainings.items view.withdrawals.items;
      was_custodian = ever_put_by view.appointments.items;
      appointments = view.appointments.items;
      settled = settled_by view.marks.items;
      is_ceremony = λ ceremony. is_some (ceremony_by view.ceremonies.items ceremony);
      facility = facility_by view;
      day = λ ceremony. day_by (ceremony_by view.ceremonies.items ceremony);
      was_opened = λ ceremony. was_opened_by (ceremony_by view.ceremonies.items ceremony);
      is_ceremony_open = λ ceremony. is_open_row (ceremony_by view.ceremonies.items ceremony);
      is_busy = λ ceremony. is_busy_by view.ceremonies.items (ceremony_by view.ceremonies.items ceremony);
      mark = mark_by view.marks.items;
      lacks_step = λ ceremony step. is_none (step_by view.steps.items ceremony step);
      next_step = next_step_by view.seatings.items;
      has_step_left = λ ceremony. list_any (is_step_at ceremony (next_step_by view.seatings.items ceremony)) view.steps.items;
      exception_count = exception_count_by view.exceptions.items;
      has_box = λ facility number. list_any (is_box facility number) view.boxes.items;
      has_box_of = λ place. list_any (λ old. same_place old.place place) view.boxes.items;
      place_of_box = place_of_box_by view.boxes.items;
      is_safe_open = is_open_by view.safes.items;
      spot = spot_by view.bags.items;
      rest = rest_by view.items.items;
      has_bag_on_table = λ facility. list_any (lies_on_table facility) view.bags.items;
      is_room_used = λ ceremony at. list_any (is_unended ceremony at) view.stays.items;
      has_ca = has_trained_present_by view Ca;
      has_holder = is_holder_present_by view;
      operator = safe_operator_by view;
      room_conditions = λ ceremony way people at.
          room_refusal view.stays.items view.stay_count full (mark_by view.marks.items ceremony) ceremony way people at ∷ [];
    }

-- the ceremony at the moment
abbrev pub ceremony_status_by : View → Bool → ℕ → ℕ → CeremonyStatus
ceremony_status_by view full ceremony at = status (by_rows view full) ceremony at

-- the first refusal of an act by what is read first, and by what is read then
abbrev pub early_refusal_by : View → Bool → Act → Option Refusal
early_refusal_by view full act = first_of (early_conditions (by_rows view full) act)

abbrev pub late_refusal_by : View → Bool → Act → Option Refusal
late_refusal_by view full act = first_of (late_conditions (by_rows view full) act)

-- CHANGES

-- an appointment without an end
abbrev pub new_appointment : Place → List ℕ → ℕ → Appointment
new_appointment place who day = record { place = place; who = who; since = day; until = None }

-- the rows that an act puts; a withdrawal puts one for each training that it bears on, a replacement and a release end
-- the place's open appointment; of an exception that passes no step the mark and its own row
abbrev pub changes_of_deed : View → ℕ → ℕ → Deed → List Change
changes_of_deed view ceremony at Open = opening_changes ceremony at (ceremony_by view.ceremonies.items ceremony)
changes_of_deed view ceremony at Close = closing_changes at (ceremony_by view.ceremonies.items ceremony)
changes_of_deed view ceremony at (AddItem item) = add_item_changes_by view ceremony item at
changes_of_deed view ceremony at (RecordSheet way people) = sheet_changes_by view ceremony way people at
changes_of_deed view ceremony at (SetSafe safe state by) = turn_changes_by view ceremony safe state at
changes_of_deed view ceremony at (RecordException text pass) =
    mark_change ceremony at ∷ exception_change view ceremony text at None ∷ []
changes_of_deed view ceremony at (Seal serial items) = seal_changes_by view ceremony serial items at
changes_of_deed view ceremony at (Take serial) = take_changes_by view ceremony serial at
changes_of_deed view ceremony at (Put serial to) = put_changes_by view ceremony serial to at
changes_of_deed view ceremony at (Cut serial) = cut_changes_by view ceremony serial at
changes_of_deed view ceremony at (Sign step) = []

abbrev pub changes_by : View → Act → List Change
changes_by view (Enter who name) = PutPerson (record { who = who; name = name }) ∷ []
changes_by view (Train who role since until) =
    PutTraining (record { who = who; role = role; since = since; until = until }) ∷ []
changes_by view (Withdraw who role day) =
    map PutWithdrawal (withdrawn_rows view.trainings.items view.withdrawals.items who role day)
changes_by view (Appoint place who day) = PutAppointment (new_appointment place who day) ∷ []
changes_by view (Replace place who day) =
    PutAppointment (end_of (open_row_by view.appointments.items place) day (new_appointment place who day))
    ∷ PutAppointment (new_appointment place who day) ∷ []
changes_by view (Release place day) =
    PutAppointment (end_of (open_row_by view.appointments.items place) day (nobody place day)) ∷ []
changes_by view (AddBox facility number place) =
    PutBox (record { facility = facility; number = number; place = place }) ∷ []
changes_by view (Plan number facility day script) = plan_changes number facility day script
changes_by view (Ceremony ceremony at deed) = changes_of_deed view ceremony at deed

-- SEATS AND ANSWERS: a signature fills the seats of its step, an exception that passes a step those of two of the
-- staff; other acts need no seats, and are answered their number alone

-- the seats that an act needs
abbrev pub seat_request_by : View → Act → Option SeatRequest
seat_request_by view (Ceremony ceremony at (Sign step)) =
    Some (record { ceremony = ceremony; at = at; seats = seats_by (step_by view.steps.items ceremony step) })
seat_request_by view (Ceremony ceremony at (RecordException text true)) = Some (record { ceremony = ceremony; at = at; seats = staff })
seat_request_by view act = None

-- the people who are seated: by the rows if seats are needed, else none
abbrev pub IsSeatedFor : View → Option SeatRequest → Option (List (List ℕ)) → Type 0
IsSeatedFor view None people = people ≡ None
IsSeatedFor view (Some s) None = ⊥
IsSeatedFor view (Some s) (Some people) = IsSeatedBy view s people

-- why an act that has no other refusal is refused: its seats are not filled
abbrev pub IsUnseatedFor : View → Option SeatRequest → Refusal → Type 0
IsUnseatedFor view None refusal = ⊥
IsUnseatedFor view (Some s) refusal = IsUnseatedBy view s refusal

-- the rows that an act puts, with those of the people who are seated
abbrev pub all_changes_by : View → Act → Option (List (List ℕ)) → List Change
all_changes_by view (Ceremony ceremony at (Sign step)) (Some people) = seat_changes view Signed ceremony step at people
all_changes_by view (Ceremony ceremony at (RecordException text true)) (Some people) =
    seat_changes view Passed ceremony (next_step_by view.seatings.items ceremony) at people
    ++ exception_change view ceremony text at (Some (next_step_by view.seatings.items ceremony)) ∷ []
all_changes_by view act people = changes_by view act

-- the number of the exception that an act states
abbrev pub exception_by : View → Act → Option ℕ
exception_by view (Ceremony ceremony at (RecordException text pass)) = Some (suc (exception_count_by view.exceptions.items ceremony))
exception_by view act = None

-- the step that an act signs or passes
abbrev pub reply_step_by : View → Act → Option ℕ
reply_step_by view (Ceremony ceremony at (Sign step)) = Some step
reply_step_by view (Ceremony ceremony at (RecordException text true)) = Some (next_step_by view.seatings.items ceremony)
reply_step_by view act = None

-- THE FIRST STAGE

-- the rows tell of more steps done than a script has, which no register's rows do
abbrev pub has_too_many_steps : View → Act → Bool
has_too_many_steps view (Ceremony ceremony at (Sign step)) = nat_lt MAX_STEPS (last_seated view.seatings.items ceremony)
has_too_many_steps view (Ceremony ceremony at (RecordException text pass)) = nat_lt MAX_STEPS (last_seated view.seatings.items ceremony)
has_too_many_steps view act = false

-- nothing that is read first refuses the act
abbrev pub IsCleared : View → Bool → Act → Type 0
IsCleared view full act = (early_refusal_by view full act ≡ None) × (has_too_many_steps view act ≡ false)

-- so the check of an act tells, or its first refusal
abbrev pub IsCheckResult : {X : Type 0} → View → Bool → Act → Result X Refusal → Type 0
IsCheckResult view full act result =
    MatchResult result (λ _. IsCleared view full act)
    (λ refusal. has_too_many_steps view act ≡ false → early_refusal_by view full act ≡ Some refusal)

-- THE SECOND STAGE, of an act that is cleared

-- a test passes or tells its refusal, or runs out of memory
abbrev pub IsTested : {X : Type 0} → Option Refusal → Result X Refusal → Type 0
IsTested refusal result = MatchResult result (λ _. refusal ≡ None) (λ told. told ≢ Memory → refusal ≡ Some told)

-- the act has no refusal, these people are seated, and these are its changes and what it is answered beside its number
pub record IsEffect (view : View) (full : Bool) (act : Act) (acted : Effect) : Type 0 where
  pub fine : late_refusal_by view full act ≡ None
  pub seated : IsSeatedFor view (seat_request_by view act) acted.seating
  pub changes : acted.changes.items ≡ all_changes_by view act acted.seating
  pub exception : acted.exception ≡ exception_by view act
  pub step : acted.step ≡ reply_step_by view act

-- the act's first refusal; or it has none, and its seats are not filled
abbrev pub IsRefusalOf : View → Bool → Act → Refusal → Type 0
IsRefusalOf view full act refusal =
    MatchOption (late_refusal_by view full act) (IsUnseatedFor view (seat_request_by view act) refusal)
    (λ told. refusal ≡ told)

-- the act has no refusal, and these are its changes
abbrev pub HasChanges : View → Bool → Act → List Change → Type 0
HasChanges view full act changes = (late_refusal_by view full act ≡ None) × (changes ≡ changes_by view act)

-- the act has this refusal, out of memory aside
abbrev pub HasRefusal : View → Bool → Act → Refusal → Type 0
HasRefusal view full act refusal = refusal ≢ Memory → late_refusal_by view full act ≡ Some refusal

-- the result of deciding the act: its changes if it has no refusal, or its refusal, or out of memory
abbrev pub IsChangesResult : DecisionContext → Act → Result (Vec Change Global) Refusal → Type 0
IsChangesResult premises act result =
    MatchResult result (λ changes. HasChanges premises.view.now premises.is_full act changes.items)
    (λ refusal. HasRefusal premises.view.now premises.is_full act refusal)

-- what an act comes to that needs no seats and states no exception: its changes alone, or its refusal
abbrev pub alone : Result (Vec Change Global) Refusal → Result Effect Refusal
alone (Ok changes) = Ok (record { changes = changes; exception = None; seating = None; step = None })
alone (Err refusal) = Err refusal

-- the same of any act, which may seat people or state an exception
abbrev pub IsEffectResult : View → Bool → Act → Result Effect Refusal → Type 0
IsEffectResult view full act result =
    MatchResult result (IsEffect view full act) (λ refusal. refusal ≢ Memory → IsRefusalOf view full act refusal)

-- The tables of a history: for each table its rows, the one that was put first last.
use Rattle.std.specs.Prelude.{ℕ, suc, ◌==◌, Bool, true, ◌&&◌, List, [], ◌∷◌, map, reverse, Option, Some, None}
use Rattle.std.specs.Prelude.{option_map, is_some, unwrap_or, if◌then◌else◌}
use Rattle.std.specs.{List.filter_map, List.Sorted.IsPermutation, Result.result_unwrap_or}
use Rattle.kcr_base.specs.{Rows.put_all, Same.same_place}
use Rattle.kcr_base.specs.declared.place.{Facility.Facility, Facility.TheVariants.East, Facility.TheVariants.West, Place.Place}
use Rattle.kcr_people.specs.declared.{Person.Person, Training.Training, Withdrawal.Withdrawal, Appointment.Appointment}
use Rattle.kcr_people.specs.{People.withdrawn_rows, Laws.same_withdrawn}
use Rattle.kcr_custody.specs.declared.SafeNumber.{SafeNumber, TheVariants.One, TheVariants.Two}
use Rattle.kcr_custody.specs.declared.{SafeRow.SafeRow, BoxRow.BoxRow, Rest.TheVariants.Loose, Spot.TheVariants.Spent, Bag.Bag, Item.Item}
use Rattle.kcr_room.specs.{declared.SheetRow.SheetRow, declared.Stay.Stay, Stays.stays_by}
use Rattle.kcr_script.specs.{declared.seat.Seat.Seat, declared.script.Step.Step, Reading.script_of}
use Rattle.kcr_history.specs.declared.commands.{Act.Act, Entry.Entry}
use Rattle.kcr_history.specs.declared.commands.Act.TheVariants.{Enter, Train, Withdraw, Appoint, Replace, Release, AddBox, Plan, Ceremony}
use Rattle.kcr_history.specs.declared.commands.Deed.TheVariants.{AddItem, Sign, RecordException, Seal}
use Rattle.kcr_history.specs.declared.row_types.{CeremonyState.CeremonyState, MarkRow.MarkRow, KeyRow.KeyRow}
use Rattle.kcr_history.specs.declared.row_types.CeremonyState.TheVariants as States
use Rattle.kcr_history.specs.declared.row_types.{CeremonyRow.CeremonyRow, ExceptionRow.ExceptionRow, StepRow.StepRow, SeatingRow.SeatingRow}
use Rattle.kcr_history.specs.declared.row_types.StepState.{StepState, TheVariants.Undone, TheVariants.Signed, TheVariants.Passed}
use Rattle.kcr_history.specs.History.{History, values_of_acts, last_value_of_entries, pushed_onto}
use Rattle.kcr_history.specs.Ceremonies.{opened_number, facility_of, day_planned, steps_of, step_at, opened_at, closed_at, mark}
use Rattle.kcr_history.specs.{Room.sheet, Texts.command_text, Texts.reply_text, Custody.spot, Custody.rest, Custody.is_open}

-- PEOPLE, TRAININGS, BOXES: A ROW FOR EACH COMMAND THAT ENTERS ONE

abbrev pub person_row : Act → Option Person
person_row (Enter who name) = Some (record { who = who; name = name })
person_row act = None

abbrev pub people : History → List Person
people A = values_of_acts person_row A

abbrev pub training_row : Act → Option Training
training_row (Train who role since until) = Some (record { who = who; role = role; since = since; until = until })
training_row act = None

abbrev pub trainings : History → List Training
trainings A = values_of_acts training_row A

abbrev pub box_row : Act → Option BoxRow
box_row (AddBox facility number place) = Some (record { facility = facility; number = number; place = place })
box_row act = None

abbrev pub boxes : History → List BoxRow
boxes A = values_of_acts box_row A

-- WITHDRAWALS: EACH TRAINING THAT WAS WITHDRAWN, WITH THE LEAST DAY FROM WHICH IT IS

-- a withdrawal bears on the trainings of the person for the role that stand then and end on its day or later: each gets
-- a row with that day, or keeps an earlier one
abbrev pub withdrawals_after : Act → List Training → List Withdrawal → List Withdrawal
withdrawals_after (Withdraw who role day) rows withdrawn =
    put_all same_withdrawn (withdrawn_rows rows withdrawn who role day) withdrawn
withdrawals_after act rows withdrawn = withdrawn

abbrev pub withdrawals : History → List Withdrawal
withdrawals [] = []
withdrawals (entry ∷ A) = withdrawals_after entry.command.act (trainings A) (withdrawals A)

-- APPOINTMENTS: EACH ENDS ON THE DAY OF THE NEXT LATER REPLACEMENT OR RELEASE OF ITS PLACE

-- the end of a row, which a place's row gets if it has none yet
abbrev pub end_at : Bool → Option ℕ → ℕ → Option ℕ
end_at true None day = Some day
end_at is_its until day = until

-- a row of the place that has no end gets one
abbrev pub ended : Place → ℕ → Appointment → Appointment
ended place day row = record row { until = end_at (same_place row.place place) row.until day }

abbrev pub appointments_after : Act → List Appointment → List Appointment
appointments_after (Appoint place who day) rows = record { place = place; who = who; since = day; until = None } ∷ rows
appointments_after (Replace place who day) rows =
    record { place = place; who = who; since = day; until = None } ∷ map (ended place day) rows
appointments_after (Release place day) rows = map (ended place day) rows
appointments_after act rows = rows

abbrev pub appointments : History → List Appointment
appointments [] = []
appointments (entry ∷ A) = appointments_after entry.command.act (appointments A)

-- SAFES: ALWAYS FOUR, EACH AS ITS LAST COMMAND LEFT IT

abbrev pub safe_row : History → Facility → SafeNumber → SafeRow
safe_row A facility safe = record { facility = facility; safe = safe; is_open = is_open A facility safe }

abbrev pub safes : History → List SafeRow
safes A = safe_row A East One ∷ safe_row A East Two ∷ safe_row A West One ∷ safe_row A West Two ∷ []

-- BAGS: ONE FOR EACH SERIAL THAT WAS SEALED; ITEMS: ONE FOR EACH THAT WAS ADDED

abbrev pub sealed_serial : Act → Option (List ℕ)
sealed_serial (Ceremony c at (Seal serial items)) = Some serial
sealed_serial act = None

abbrev pub bag_row : History → List ℕ → Bag
bag_row A serial = record { serial = serial; spot = unwrap_or (spot A serial) Spent }

abbrev pub bags : History → List Bag
bags A = map (bag_row A) (values_of_acts sealed_serial A)

abbrev pub added_item : Act → Option (List ℕ)
added_item (Ceremony c at (AddItem item)) = Some item
added_item act = None

abbrev pub item_row : History → List ℕ → Item
item_row A item = record { code = item; rest = unwrap_or (rest A item) (Loose East) }

abbrev pub items : History → List Item
items A = map (item_row A) (values_of_acts added_item A)

-- CEREMONIES: ONE FOR EACH PLAN, WITH ITS STATE; MARKS: ONE FOR EACH THAT WAS OPENED

abbrev pub state_of : History → ℕ → CeremonyState
state_of A ceremony =
    if is_some (closed_at A ceremony) then States.Closed else
    (if is_some (opened_at A ceremony) then States.Open else States.Planned)

abbrev pub planned_number : Act → Option ℕ
planned_number (Plan number facility day script) = Some number
planned_number act = None

abbrev pub ceremony_row : History → ℕ → CeremonyRow
ceremony_row A ceremony =
    record {
      number = ceremony;
      facility = facility_of A ceremony;
      day = day_planned A ceremony;
      state = state_of A ceremony;
      opened = opened_at A ceremony;
      closed = closed_at A ceremony;
    }

abbrev pub ceremonies : History → List CeremonyRow
ceremonies A = map (ceremony_row A) (values_of_acts planned_number A)

abbrev pub mark_row : History → ℕ → MarkRow
mark_row A ceremony = record { ceremony = ceremony; at = unwrap_or (mark A ceremony) 0 }

abbrev pub marks : History → List MarkRow
marks A = map (mark_row A) (values_of_acts opened_number A)

-- STEPS: THOSE OF EACH PLAN, WITH WHAT BECAME OF THEM

-- what an accepted command does to step k of the ceremony, and when: it signs it, or passes over it
abbrev pub step_done : ℕ → ℕ → Act → Option ℕ → Option (StepState × ℕ)
step_done ceremony k (Ceremony c at (Sign step)) said = if c == ceremony && step == k then Some (Signed, at) else None
step_done ceremony k (Ceremony c at (RecordException text pass)) (Some step) =
    if c == ceremony && step == k then Some (Passed, at) else None
step_done ceremony k act said = None

-- what became of the step, None while it is neither signed nor passed
abbrev pub step_result : History → ℕ → ℕ → Option (StepState × ℕ)
step_result A ceremony k = last_value_of_entries (λ entry. step_done ceremony k entry.command.act entry.reply.step) A

-- the numbers of some steps, counting on from step k, each with the ceremony's
abbrev pub numbered : {X : Type 0} → ℕ → ℕ → List X → List (ℕ × ℕ)
numbered ceremony k [] = []
numbered ceremony k (x ∷ xs) = (ceremony, suc k) ∷ numbered ceremony (suc k) xs

-- the steps that a command plans, after those planned before
abbrev pub step_keys_after : Act → List (ℕ × ℕ) → List (ℕ × ℕ)
step_keys_after (Plan number facility day script) keys =
    pushed_onto (numbered number 0 (result_unwrap_or (script_of script) [])) keys
step_keys_after act keys = keys

-- ceremony and number of each step that was planned
abbrev pub step_keys : History → List (ℕ × ℕ)
step_keys [] = []
step_keys (entry ∷ A) = step_keys_after entry.command.act (step_keys A)

-- the activity and seats of a step of a script
abbrev pub activity_at : List Step → ℕ → List ℕ
activity_at steps k = unwrap_or (option_map (λ step. step.activity) (step_at steps k)) []

abbrev pub seats_at : List Step → ℕ → List Seat
seats_at steps k = unwrap_or (option_map (λ step. step.seats) (step_at steps k)) []

abbrev pub step_row : History → ℕ × ℕ → StepRow
step_row A key =
    record {
      ceremony = key.0;
      step = key.1;
      activity = activity_at (steps_of A key.0) key.1;
      seats = seats_at (steps_of A key.0) key.1;
      state = unwrap_or (option_map (λ result. result.0) (step_result A key.0 key.1)) Undone;
      at = option_map (λ result. result.1) (step_result A key.0 key.1);
    }

abbrev pub steps : History → List StepRow
steps A = map (step_row A) (step_keys A)

-- SEATINGS: ONE FOR EACH SEAT OF EACH SIGNATURE AND PASSING EXCEPTION, AS ITS ANSWER SAYS

abbrev pub ceremony_of_step : Act → Option ℕ
ceremony_of_step (Ceremony c at (Sign k)) = Some c
ceremony_of_step (Ceremony c at (RecordException text pass)) = Some c
ceremony_of_step act = None

-- the rows of the people, counting the seats on from `seat`
abbrev pub seat_rows : ℕ → ℕ → ℕ → List (List ℕ) → List SeatingRow
seat_rows ceremony step seat [] = []
seat_rows ceremony step seat (who ∷ people) =
    record { ceremony = ceremony; step = step; seat = suc seat; who = who } ∷ seat_rows ceremony step (suc seat) people

abbrev pub seating_rows : Option ℕ → Option ℕ → Option (List (List ℕ)) → List SeatingRow
seating_rows (Some ceremony) (Some step) (Some people) = seat_rows ceremony step 0 people
seating_rows ceremony step people = []

abbrev pub seatings : History → List SeatingRow
seatings [] = []
seatings (entry ∷ A) =
    pushed_onto (seating_rows (ceremony_of_step entry.command.act) entry.reply.step entry.reply.seating) (seatings A)

-- EXCEPTIONS: ONE FOR EACH COMMAND THAT STATES ONE, NUMBERED AND WITH THE STEP THAT IT PASSED, AS ITS ANSWER SAYS

abbrev pub exception_row : Act → Option ℕ → Option ℕ → Option ExceptionRow
exception_row (Ceremony c at (RecordException text pass)) (Some number) passed =
    Some (record { ceremony = c; exception = number; text = text; at = at; passed = passed })
exception_row act number passed = None

abbrev pub exceptions : History → List ExceptionRow
exceptions A = filter_map (λ entry. exception_row entry.command.act entry.reply.exception entry.reply.step) A

-- KEYS: ONE FOR EACH ACCEPTED COMMAND

abbrev pub key_row : Entry → KeyRow
key_row entry =
    record {
      key = entry.command.key;
      accepted = entry.reply.accepted;
      command = command_text entry.command.act;
      reply = reply_text entry.reply;
    }

abbrev pub keys : History → List KeyRow
keys A = map key_row A

-- ALL TABLES. Of the sheet: its rows; of the stays: one for each `in` row, until the person's next row

-- begin: written by tools/tables.py

pub record Tables : Type 0 where
  pub people : List Person
  pub trainings : List Training
  pub withdrawals : List Withdrawal
  pub appointments : List Appointment
  pub boxes : List BoxRow
  pub safes : List SafeRow
  pub bags : List Bag
  pub items : List Item
  pub ceremonies : List CeremonyRow
  pub marks : List MarkRow
  pub steps : List StepRow
  pub seatings : List SeatingRow
  pub sheet : List SheetRow
  pub stays : List Stay
  pub exceptions : List ExceptionRow
  pub keys : List KeyRow

abbrev pub tables : History → Tables
tables A =
    record {
      people = people A;
      trainings = trainings A;
      withdrawals = withdrawals A;
      appointments = appointments A;
      boxes = boxes A;
      safes = safes A;
      bags = bags A;
      items = items A;
      ceremonies = ceremonies A;
      marks = marks A;
      steps = steps A;
      seatings = seatings A;
      sheet = reverse (sheet A);
      stays = reverse (stays_by (sheet A));
      exceptions = exceptions A;
      keys = keys A;
    }

-- the same rows in each table, in whatever order
pub record SameTables (t t' : Tables) : Type 0 where
  pub people : IsPermutation t.people t'.people
  pub trainings : IsPermutation t.trainings t'.trainings
  pub withdrawals : IsPermutation t.withdrawals t'.withdrawals
  pub appointments : IsPermutation t.appointments t'.appointments
  pub boxes : IsPermutation t.boxes t'.boxes
  pub safes : IsPermutation t.safes t'.safes
  pub bags : IsPermutation t.bags t'.bags
  pub items : IsPermutation t.items t'.items
  pub ceremonies : IsPermutation t.ceremonies t'.ceremonies
  pub marks : IsPermutation t.marks t'.marks
  pub steps : IsPermutation t.steps t'.steps
  pub seatings : IsPermutation t.seatings t'.seatings
  pub sheet : IsPermutation t.sheet t'.sheet
  pub stays : IsPermutation t.stays t'.stays
  pub exceptions : IsPermutation t.exceptions t'.exceptions
  pub keys : IsPermutation t.keys t'.keys

-- end: written by tools/tables.py

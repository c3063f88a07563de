-- When a command is refused: the conditions of each kind in the order of the refusals' numbers, said once over what they
-- ask of the register. A history answers that (`by_history`), and so do the rows of a view (`by_rows` of kcr_rules).
use Rattle.std.specs.Prelude.{ℕ, ◌==◌, Bool, true, false, not, ◌&&◌, ◌||◌, nat_lt, nat_le, List, [], ◌∷◌, ◌++◌, length, Err, if◌then◌else◌}
use Rattle.std.specs.Prelude.{find, Option, Some, None, option_map, option_and_then, is_some, is_none, unwrap_or, Result, Ok}
use Rattle.std.specs.List.{list_any}
use Rattle.kcr_base.specs.{Days.day_of, Same.same_facility, Same.same_text}
use Rattle.kcr_base.specs.Refuse.{when, first_of, unknown_people_refusal, unknown_ceremony_refusal, before_mark_refusal, not_after_mark_refusal}
use Rattle.kcr_base.specs.declared.limits.TheConstants.{MAX_COMMANDS, MAX_ENTRIES, MAX_EXCEPTIONS}
use Rattle.kcr_base.specs.declared.{place.Facility.Facility, place.Place.Place, refusal.Refusal.Refusal}
use Rattle.kcr_base.specs.declared.place.Role.{Role, TheVariants.Ca, TheVariants.Ssc1, TheVariants.Ssc2}
use Rattle.kcr_base.specs.declared.refusal.Part.TheVariants as Parts
use Rattle.kcr_base.specs.declared.refusal.Refusal.TheVariants as Refusals
use Rattle.kcr_base.specs.declared.refusal.Refusal.TheVariants.{Unknown, Taken, Range, Script, Busy, Order, Crowd, Full, Unfinished}
use Rattle.kcr_base.specs.declared.refusal.Thing.TheVariants as Things
use Rattle.kcr_people.specs.declared.{Appointment.Appointment, Training.Training}
use Rattle.kcr_people.specs.People.{trained_from_by, enter_conditions, train_conditions, withdraw_conditions}
use Rattle.kcr_people.specs.People.{appoint_conditions, replace_conditions, release_conditions}
use Rattle.kcr_custody.specs.declared.{CeremonyStatus.CeremonyStatus, Rest.Rest, Spot.Spot, SafeOperator.SafeOperator}
use Rattle.kcr_custody.specs.declared.SafeNumber.{SafeNumber, TheVariants.One, TheVariants.Two}
use Rattle.kcr_custody.specs.Custody.{is_on_table, box_of, box_of_destination, add_box_conditions, add_item_early, safe_early}
use Rattle.kcr_custody.specs.Custody.{seal_early, take_early, put_early, cut_early, no_ca_refusal, no_operator_refusal, keepers_conditions}
use Rattle.kcr_room.specs.{declared.SheetRow.SheetRow, declared.Way.Way, Room.in_row_count_by}
use Rattle.kcr_room.specs.declared.Way.TheVariants as Ways
use Rattle.kcr_room.specs.Requests.{is_out_of_turn_by, turn_refusal, lone_refusal}
use Rattle.kcr_room.specs.Stays.{stays_by, is_crowded_in_by, first_lone_in_by}
use Rattle.kcr_script.specs.{declared.script.Step.Step, Reading.script_of}
use Rattle.kcr_history.specs.{declared.commands.Act.Act, History.History, History.has_command, History.values_of_acts}
use Rattle.kcr_history.specs.declared.commands.Deed.{Deed, TheVariants.Take, TheVariants.Put, TheVariants.Cut}
use Rattle.kcr_history.specs.declared.commands.Act.TheVariants.{Enter, Train, Withdraw, Appoint, Replace, Release, AddBox, Plan, Ceremony}
use Rattle.kcr_history.specs.declared.commands.Deed.TheVariants.{AddItem, Open, Close, RecordSheet, Sign, RecordException, SetSafe, Seal}
use Rattle.kcr_history.specs.Training.{is_person, trained, ever_trained, is_training, was_custodian, holder}
use Rattle.kcr_history.specs.Ceremonies.{is_ceremony, facility_of, day_planned, steps_of, step_at, opened_at, is_ceremony_open}
use Rattle.kcr_history.specs.Ceremonies.{mark, settled, steps_done, next_step, exceptions_of}
use Rattle.kcr_history.specs.Room.{sheet, sheet_after, is_in, present, has_trained_present}
use Rattle.kcr_history.specs.Custody.{spot, rest, is_open, place_of_box, boxes_place}
use Rattle.kcr_history.specs.Tables.{trainings, withdrawals, appointments, planned_number, sealed_serial}

-- WHAT THE CONDITIONS ASK

pub record Facts : Type 0 where
  pub is_full : Bool
  pub is_person : List ℕ → Bool
  pub has_training : Training → Bool
  pub ever_trained : List ℕ → Bool
  pub trained_from : List ℕ → Role → ℕ → Bool
  pub was_custodian : List ℕ → Bool
  pub appointments : List Appointment
  pub settled : Option ℕ
  pub is_ceremony : ℕ → Bool
  pub facility : ℕ → Facility
  pub day : ℕ → ℕ
  pub was_opened : ℕ → Bool
  pub is_ceremony_open : ℕ → Bool
  pub is_busy : ℕ → Bool
  pub mark : ℕ → Option ℕ
  pub lacks_step : ℕ → ℕ → Bool
  pub next_step : ℕ → ℕ
  pub has_step_left : ℕ → Bool
  pub exception_count : ℕ → ℕ
  pub has_box : Facility → ℕ → Bool
  pub has_box_of : Place → Bool
  pub place_of_box : Facility → ℕ → Option Place
  pub is_safe_open : Facility → SafeNumber → Bool
  pub spot : List ℕ → Option Spot
  pub rest : List ℕ → Option Rest
  pub has_bag_on_table : Facility → Bool
  pub is_room_used : ℕ → ℕ → Bool
  pub has_ca : ℕ → ℕ → Bool
  pub has_holder : Place → ℕ → ℕ → Bool
  pub operator : List ℕ → ℕ → ℕ → SafeOperator
  pub room_conditions : ℕ → Way → List (List ℕ) → ℕ → List (Option Refusal)

-- the ceremony at the moment
abbrev pub status : Facts → ℕ → ℕ → CeremonyStatus
status facts ceremony at =
    record {
      ceremony = ceremony;
      is_known = facts.is_ceremony ceremony;
      facility = facts.facility ceremony;
      is_open = facts.is_ceremony_open ceremony;
      mark = facts.mark ceremony;
      at = at;
      is_full = facts.is_full;
    }

-- WHAT SEVERAL KINDS TEST

abbrev pub no_ceremony_refusal : Facts → ℕ → Option Refusal
no_ceremony_refusal facts ceremony = unknown_ceremony_refusal (facts.is_ceremony ceremony) ceremony

abbrev pub not_open_refusal : Facts → ℕ → Option Refusal
not_open_refusal facts ceremony = when (not (facts.is_ceremony_open ceremony)) Refusals.State

-- the text is no script: with the number of the first row that breaks a rule
abbrev pub script_refusal : Result (List Step) ℕ → Option Refusal
script_refusal (Ok steps) = None
script_refusal (Err row) = Some (Script row)

-- the first of the people who is named again
abbrev pub first_twice : List (List ℕ) → Option (List ℕ)
first_twice [] = None
first_twice (who ∷ people) = if list_any (same_text who) people then Some who else first_twice people

-- somebody is named twice, and the second row would be out of turn (such a request is refused 10 where it is read,
-- before any register sees it)
abbrev pub named_twice_refusal : List (List ℕ) → Option Refusal
named_twice_refusal people = turn_refusal (first_twice people)

-- CEREMONIES

abbrev pub plan_conditions : Facts → ℕ → List ℕ → List (Option Refusal)
plan_conditions facts number script =
    when (facts.is_ceremony number) Taken
    ∷ script_refusal (script_of script)
    ∷ when facts.is_full Full
    ∷ []

abbrev pub open_conditions : Facts → ℕ → ℕ → List (Option Refusal)
open_conditions facts ceremony at =
    no_ceremony_refusal facts ceremony
    ∷ when (nat_lt (day_of at) (facts.day ceremony)) Range
    ∷ when (facts.was_opened ceremony) Refusals.State
    ∷ when (facts.is_busy ceremony) Busy
    ∷ when facts.is_full Full
    ∷ []

abbrev pub close_early : Facts → ℕ → ℕ → List (Option Refusal)
close_early facts ceremony at =
    no_ceremony_refusal facts ceremony
    ∷ not_open_refusal facts ceremony
    ∷ before_mark_refusal at (facts.mark ceremony)
    ∷ when facts.is_full Full
    ∷ []

abbrev pub close_late : Facts → ℕ → ℕ → List (Option Refusal)
close_late facts ceremony at =
    let is_safe_open = facts.is_safe_open (facts.facility ceremony) in
    when (facts.has_step_left ceremony) (Unfinished Parts.Steps)
    ∷ when (facts.is_room_used ceremony at) (Unfinished Parts.Room)
    ∷ when (is_safe_open One || is_safe_open Two) (Unfinished Parts.Safes)
    ∷ when (facts.has_bag_on_table (facts.facility ceremony)) (Unfinished Parts.Table)
    ∷ []

abbrev pub sheet_early : Facts → ℕ → List (List ℕ) → ℕ → List (Option Refusal)
sheet_early facts ceremony people at =
    no_ceremony_refusal facts ceremony
    ∷ unknown_people_refusal facts.is_person people
    ∷ not_open_refusal facts ceremony
    ∷ not_after_mark_refusal at (facts.mark ceremony)
    ∷ []

abbrev pub sign_early : Facts → ℕ → ℕ → ℕ → List (Option Refusal)
sign_early facts ceremony step at =
    no_ceremony_refusal facts ceremony
    ∷ when (facts.lacks_step ceremony step) (Unknown (Things.Step step))
    ∷ not_open_refusal facts ceremony
    ∷ before_mark_refusal at (facts.mark ceremony)
    ∷ when (not (step == facts.next_step ceremony)) (Order (facts.next_step ceremony))
    ∷ when facts.is_full Full
    ∷ []

abbrev pub exception_early : Facts → ℕ → Bool → ℕ → List (Option Refusal)
exception_early facts ceremony pass at =
    no_ceremony_refusal facts ceremony
    ∷ not_open_refusal facts ceremony
    ∷ before_mark_refusal at (facts.mark ceremony)
    ∷ when (pass && facts.lacks_step ceremony (facts.next_step ceremony)) (Order (facts.next_step ceremony))
    ∷ when (nat_le MAX_EXCEPTIONS (facts.exception_count ceremony)) Full
    ∷ when facts.is_full Full
    ∷ []

-- THE CONDITIONS OF EACH KIND, after that of its key. First those of an act in a ceremony that ask nothing of who is in
-- the room, trained or appointed: they are tested before the rows of people are read

abbrev pub early_of_deed : Facts → ℕ → ℕ → Deed → List (Option Refusal)
early_of_deed facts ceremony at Open = []
early_of_deed facts ceremony at Close = close_early facts ceremony at
early_of_deed facts ceremony at (RecordSheet way people) = sheet_early facts ceremony people at
early_of_deed facts ceremony at (Sign step) = sign_early facts ceremony step at
early_of_deed facts ceremony at (RecordException text pass) = exception_early facts ceremony pass at
early_of_deed facts ceremony at (AddItem item) = add_item_early (status facts ceremony at) (facts.rest item)
early_of_deed facts ceremony at (SetSafe safe state by) =
    safe_early (status facts ceremony at) (facts.is_safe_open (facts.facility ceremony)) safe state (facts.is_person by) by
early_of_deed facts ceremony at (Seal serial items) =
    seal_early (status facts ceremony at) (facts.spot serial) facts.rest items
early_of_deed facts ceremony at (Take serial) =
    take_early (status facts ceremony at) (facts.is_safe_open (facts.facility ceremony)) (facts.spot serial) serial
early_of_deed facts ceremony at (Put serial to) =
    put_early (status facts ceremony at) (facts.is_safe_open (facts.facility ceremony))
    (facts.place_of_box (facts.facility ceremony)) (facts.spot serial) serial to
early_of_deed facts ceremony at (Cut serial) = cut_early (status facts ceremony at) (facts.spot serial) serial

abbrev pub early_conditions : Facts → Act → List (Option Refusal)
early_conditions facts (Ceremony ceremony at deed) = early_of_deed facts ceremony at deed
early_conditions facts act = []

-- the people whom a bag needs that comes from a box or goes into one, or the CA alone
abbrev pub keepers_late : Facts → ℕ → ℕ → Option ℕ → List (Option Refusal)
keepers_late facts ceremony at box =
    keepers_conditions (facts.has_ca ceremony at) (λ place. facts.has_holder place ceremony at)
    (option_and_then (facts.place_of_box (facts.facility ceremony)) box)

-- and then the others
abbrev pub late_of_deed : Facts → ℕ → ℕ → Deed → List (Option Refusal)
late_of_deed facts ceremony at Open = open_conditions facts ceremony at
late_of_deed facts ceremony at Close = close_late facts ceremony at
late_of_deed facts ceremony at (RecordSheet way people) =
    named_twice_refusal people ∷ facts.room_conditions ceremony way people at
late_of_deed facts ceremony at (AddItem item) = no_ca_refusal (facts.has_ca ceremony at) ∷ []
late_of_deed facts ceremony at (SetSafe safe state by) = no_operator_refusal safe (facts.operator by ceremony at) ∷ []
late_of_deed facts ceremony at (Seal serial items) = no_ca_refusal (facts.has_ca ceremony at) ∷ []
late_of_deed facts ceremony at (Take serial) = keepers_late facts ceremony at (box_of (facts.spot serial))
late_of_deed facts ceremony at (Put serial to) = keepers_late facts ceremony at (box_of_destination to)
late_of_deed facts ceremony at (Cut serial) = no_ca_refusal (facts.has_ca ceremony at) ∷ []
late_of_deed facts ceremony at (Sign step) = []
late_of_deed facts ceremony at (RecordException text pass) = []

abbrev pub late_conditions : Facts → Act → List (Option Refusal)
late_conditions facts (Enter who name) = enter_conditions (facts.is_person who) facts.is_full
late_conditions facts (Train who role since until) =
    let row : Training = record { who = who; role = role; since = since; until = until } in
    train_conditions (facts.is_person who) (facts.has_training row) (facts.was_custodian who) facts.is_full row
late_conditions facts (Withdraw who role day) =
    withdraw_conditions (facts.is_person who) (facts.trained_from who role day) facts.settled facts.is_full who day
late_conditions facts (Appoint place who day) =
    appoint_conditions (facts.is_person who) (facts.ever_trained who) facts.appointments facts.settled facts.is_full place
    who day
late_conditions facts (Replace place who day) =
    replace_conditions (facts.is_person who) (facts.ever_trained who) facts.appointments facts.settled facts.is_full place
    who day
late_conditions facts (Release place day) = release_conditions facts.appointments facts.settled facts.is_full place day
late_conditions facts (AddBox facility number place) =
    add_box_conditions (facts.has_box facility number) (facts.has_box_of place) facts.is_full
    (record { facility = facility; number = number; place = place })
late_conditions facts (Plan number facility day script) = plan_conditions facts number script
late_conditions facts (Ceremony ceremony at deed) = late_of_deed facts ceremony at deed

abbrev pub conditions_over : Facts → Act → List (Option Refusal)
conditions_over facts act = early_conditions facts act ++ late_conditions facts act

-- WHAT A HISTORY ANSWERS

-- the register has as many accepted commands as it may have
abbrev pub is_full : History → Bool
is_full A = nat_le MAX_COMMANDS (length A)

-- another ceremony is open in the facility
abbrev pub is_busy : History → ℕ → Bool
is_busy A ceremony =
    list_any (λ other. not (other == ceremony) && same_facility (facility_of A other) (facility_of A ceremony)
    && is_ceremony_open A other) (values_of_acts planned_number A)

-- the ceremony's script has no step of this number
abbrev pub lacks_step : History → ℕ → ℕ → Bool
lacks_step A ceremony step = is_none (step_at (steps_of A ceremony) step)

-- not all steps of the script are done
abbrev pub has_step_left : History → ℕ → Bool
has_step_left A ceremony = nat_lt (steps_done A ceremony) (length (steps_of A ceremony))

abbrev pub is_empty : {X : Type 0} → List X → Bool
is_empty [] = true
is_empty (x ∷ xs) = false

-- somebody is in the room at the moment, or a sheet row of the ceremony is later
abbrev pub is_room_used : History → ℕ → ℕ → Bool
is_room_used A ceremony at =
    not (is_empty (present A ceremony at)) || list_any (λ row. row.ceremony == ceremony && nat_lt at row.at) (sheet A)

-- a bag is on the facility's table
abbrev pub has_bag_on_table : History → Facility → Bool
has_bag_on_table A facility =
    list_any (λ serial. is_on_table facility (spot A serial)) (values_of_acts sealed_serial A)

-- it is not the person's turn: the last row is not earlier than the moment, or it is no `in` after which an `out` may
-- come, or no `out` after which an `in` may come
abbrev pub out_of_turn_refusal : History → ℕ → Way → ℕ → List (List ℕ) → Option Refusal
out_of_turn_refusal A ceremony way at people = turn_refusal (find (is_out_of_turn_by (sheet A) ceremony way at) people)

-- at some moment more than `MAX_PRESENT` people would be in the room
abbrev pub crowd_refusal : List SheetRow → ℕ → Option Refusal
crowd_refusal rows ceremony = when (is_crowded_in_by (stays_by rows) ceremony) Crowd

-- the first moment at which exactly one person would be in the room
abbrev pub lone_room_refusal : List SheetRow → ℕ → Option Refusal
lone_room_refusal rows ceremony = lone_refusal (first_lone_in_by (stays_by rows) ceremony)

-- with an `in` the ceremony would have more than `MAX_ENTRIES` `in` rows
abbrev pub is_overfull : Way → List SheetRow → ℕ → Bool
is_overfull Ways.Enter rows ceremony = nat_lt MAX_ENTRIES (in_row_count_by rows ceremony)
is_overfull Ways.Leave rows ceremony = false

-- what the sheet with the rows of a request tells
abbrev pub sheet_conditions : History → ℕ → Way → List (List ℕ) → ℕ → List (Option Refusal)
sheet_conditions A ceremony way people at =
    let rows = sheet_after (Ceremony ceremony at (RecordSheet way people)) (sheet A) in
    out_of_turn_refusal A ceremony way at people
    ∷ crowd_refusal rows ceremony
    ∷ lone_room_refusal rows ceremony
    ∷ when (is_overfull way rows ceremony) Full
    ∷ when (is_full A) Full
    ∷ []

-- who opens or shuts a safe in the room of the ceremony at the moment
abbrev pub safe_operator_at : History → List ℕ → ℕ → ℕ → SafeOperator
safe_operator_at A by ceremony at =
    record {
      who = by;
      is_present = is_in A by ceremony at;
      has_ssc1 = trained A by Ssc1 (day_of at);
      has_ssc2 = trained A by Ssc2 (day_of at);
    }

-- the holder of the place is in the room
abbrev pub is_holder_present : History → Place → ℕ → ℕ → Bool
is_holder_present A place ceremony at =
    unwrap_or (option_map (λ who. is_in A who ceremony at) (holder A place (day_of at))) false

abbrev pub by_history : History → Facts
by_history A =
    record {
      is_full = is_full A;
      is_person = is_person A;
      has_training = λ row. has_command (is_training row.who row.role row.since row.until) A;
      ever_trained = ever_trained A;
      trained_from = trained_from_by (trainings A) (withdrawals A);
      was_custodian = was_custodian A;
      appointments = appointments A;
      settled = settled A;
      is_ceremony = is_ceremony A;
      facility = facility_of A;
      day = day_planned A;
      was_opened = λ ceremony. is_some (opened_at A ceremony);
      is_ceremony_open = is_ceremony_open A;
      is_busy = is_busy A;
      mark = mark A;
      lacks_step = lacks_step A;
      next_step = next_step A;
      has_step_left = has_step_left A;
      exception_count = exceptions_of A;
      has_box = λ facility number. is_some (place_of_box A facility number);
      has_box_of = λ place. has_command (boxes_place place) A;
      place_of_box = place_of_box A;
      is_safe_open = is_open A;
      spot = spot A;
      rest = rest A;
      has_bag_on_table = has_bag_on_table A;
      is_room_used = is_room_used A;
      has_ca = has_trained_present A Ca;
      has_holder = is_holder_present A;
      operator = safe_operator_at A;
      room_conditions = sheet_conditions A;
    }

-- the conditions of an act whose key is new, and the first refusal, or none
abbrev pub conditions : History → Act → List (Option Refusal)
conditions A act = conditions_over (by_history A) act

abbrev pub fault : History → Act → Option Refusal
fault A act = first_of (conditions A act)

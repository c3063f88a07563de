-- What the acts on whole ceremonies ask of the rows of a view and put: planning, opening and closing.
use Rattle.std.specs.Prelude.{ℕ, ◌+◌, ◌==◌, Bool, false, not, ◌&&◌, ◌||◌, nat_lt, List, [], ◌∷◌, map, Option, Some, None, is_some}
use Rattle.std.specs.{List.list_any, Result.result_unwrap_or}
use Rattle.kcr_base.specs.{Same.same_facility, declared.place.Facility.Facility}
use Rattle.kcr_custody.specs.{declared.Bag.Bag, Custody.is_on_table}
use Rattle.kcr_room.specs.{declared.Stay.Stay, Stays.ends_after}
use Rattle.kcr_script.specs.{declared.script.Step.Step, Reading.script_of}
use Rattle.kcr_history.specs.declared.row_types.{CeremonyRow.CeremonyRow, StepRow.StepRow, StepState.TheVariants.Undone}
use Rattle.kcr_history.specs.declared.row_types.CeremonyState.TheVariants as States
use Rattle.kcr_history.specs.declared.views.Change.{Change, TheVariants.PutCeremony, TheVariants.PutMark, TheVariants.PutStep}
use Rattle.kcr_rules.specs.CeremonyStatus.{is_open_state}

-- OPENING

-- another ceremony of the same facility, which is open
abbrev pub is_open_beside : CeremonyRow → CeremonyRow → Bool
is_open_beside row other =
    not (other.number == row.number) && same_facility other.facility row.facility && is_open_state other.state

-- any other ceremony is open in the same facility
abbrev pub is_busy_by : List CeremonyRow → Option CeremonyRow → Bool
is_busy_by rows None = false
is_busy_by rows (Some row) = list_any (is_open_beside row) rows

-- the ceremony was opened
abbrev pub was_opened_by : Option CeremonyRow → Bool
was_opened_by None = false
was_opened_by (Some row) = is_some row.opened

-- the ceremony is open from its row's moment on, which is its mark
abbrev pub opening_changes : ℕ → ℕ → Option CeremonyRow → List Change
opening_changes ceremony at None = []
opening_changes ceremony at (Some row) =
    PutCeremony (record row { state = States.Open; opened = Some at })
    ∷ PutMark (record { ceremony = ceremony; at = at }) ∷ []

-- CLOSING

-- a stay in the ceremony's room that begins or ends later than the moment, or has no end
abbrev pub is_unended : ℕ → ℕ → Stay → Bool
is_unended ceremony at stay = stay.ceremony == ceremony && (nat_lt at stay.since || ends_after at stay.until)

-- a bag on the facility's table
abbrev pub lies_on_table : Facility → Bag → Bool
lies_on_table facility bag = is_on_table facility (Some bag.spot)

-- the ceremony is closed from the moment on
abbrev pub closing_changes : ℕ → Option CeremonyRow → List Change
closing_changes at None = []
closing_changes at (Some row) = PutCeremony (record row { state = States.Closed; closed = Some at }) ∷ []

-- PLANNING

-- a ceremony that is planned
abbrev pub planned_row : ℕ → Facility → ℕ → CeremonyRow
planned_row number facility day =
    record { number = number; facility = facility; day = day; state = States.Planned; opened = None; closed = None }

-- a step of a ceremony, neither signed nor passed, under its number
abbrev pub planned_step_row : ℕ → ℕ → Step → StepRow
planned_step_row ceremony number step =
    record {
      ceremony = ceremony;
      step = number;
      activity = step.activity;
      seats = step.seats;
      state = Undone;
      at = None;
    }

-- the rows of some steps, counting on from a number
abbrev pub planned_step_rows : ℕ → ℕ → List Step → List StepRow
planned_step_rows ceremony number [] = []
planned_step_rows ceremony number (step ∷ steps) = planned_step_row ceremony number step ∷ planned_step_rows ceremony (number + 1) steps

-- the ceremony, and its steps from 1 on
abbrev pub planned_changes : ℕ → Facility → ℕ → List Step → List Change
planned_changes number facility day steps =
    PutCeremony (planned_row number facility day) ∷ map PutStep (planned_step_rows number 1 steps)

abbrev pub plan_changes : ℕ → Facility → ℕ → List ℕ → List Change
plan_changes number facility day script = planned_changes number facility day (result_unwrap_or (script_of script) [])

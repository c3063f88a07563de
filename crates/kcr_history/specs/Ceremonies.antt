-- What the history says of ceremonies: their plans, steps, states and marks.
use Rattle.std.specs.Prelude.{ℕ, zero, suc, ◌==◌, Bool, true, false, ◌&&◌, nat_le, List, [], map, filter}
use Rattle.std.specs.Prelude.{slice_get, Option, Some, None, option_map, is_some, is_none, unwrap_or, if◌then◌else◌}
use Rattle.std.specs.{List.filter_map, Result.result_unwrap_or}
use Rattle.kcr_base.specs.{Days.day_of, declared.place.Facility.Facility, declared.place.Facility.TheVariants.East}
use Rattle.kcr_script.specs.{declared.script.Step.Step, Reading.script_of}
use Rattle.kcr_history.specs.declared.commands.Act.{Act, TheVariants.Plan, TheVariants.Ceremony}
use Rattle.kcr_history.specs.declared.commands.Deed.TheVariants.{Open, Close, RecordSheet, Sign, RecordException}
use Rattle.kcr_history.specs.History.{History, command_count, values_of_acts, last_value_of_acts, greatest}

-- a planned ceremony
pub record Planned : Type 0 where
  pub facility : Facility
  pub day : ℕ
  pub steps : List Step

-- what a command plans for the ceremony: its script's text is read as steps
abbrev pub planned_as : ℕ → Act → Option Planned
planned_as ceremony (Plan number facility day script) =
    if number == ceremony then Some
    (record { facility = facility; day = day; steps = result_unwrap_or (script_of script) [] }) else None
planned_as ceremony act = None

-- the plan of the ceremony
abbrev pub plan_of : History → ℕ → Option Planned
plan_of A ceremony = last_value_of_acts (planned_as ceremony) A

-- there is such a ceremony
abbrev pub is_ceremony : History → ℕ → Bool
is_ceremony A ceremony = is_some (plan_of A ceremony)

-- the facility of a planned ceremony (of another the word says nothing of use)
abbrev pub facility_of : History → ℕ → Facility
facility_of A ceremony = unwrap_or (option_map (λ plan. plan.facility) (plan_of A ceremony)) East

-- the day of a planned ceremony
abbrev pub day_planned : History → ℕ → ℕ
day_planned A ceremony = unwrap_or (option_map (λ plan. plan.day) (plan_of A ceremony)) 0

-- the steps of a planned ceremony
abbrev pub steps_of : History → ℕ → List Step
steps_of A ceremony = unwrap_or (option_map (λ plan. plan.steps) (plan_of A ceremony)) []

-- step k of a script, k from 1
abbrev pub step_at : List Step → ℕ → Option Step
step_at steps zero = None
step_at steps (suc k) = slice_get steps k

-- STATES

-- when the command opens the ceremony
abbrev pub opening_moment : ℕ → Act → Option ℕ
opening_moment ceremony (Ceremony c at Open) = if c == ceremony then Some at else None
opening_moment ceremony act = None

-- when the command closes the ceremony
abbrev pub closing_moment : ℕ → Act → Option ℕ
closing_moment ceremony (Ceremony c at Close) = if c == ceremony then Some at else None
closing_moment ceremony act = None

abbrev pub opened_at : History → ℕ → Option ℕ
opened_at A ceremony = last_value_of_acts (opening_moment ceremony) A

abbrev pub closed_at : History → ℕ → Option ℕ
closed_at A ceremony = last_value_of_acts (closing_moment ceremony) A

-- the ceremony is open: it was opened and not closed
abbrev pub is_ceremony_open : History → ℕ → Bool
is_ceremony_open A ceremony = is_some (opened_at A ceremony) && is_none (closed_at A ceremony)

-- MARKS

-- the ceremony and moment of an opening, signature, exception or custody command (items, safes, bags): of whatever is
-- done in a ceremony but its closing and its sheet
abbrev pub marked_moment : Act → Option (ℕ × ℕ)
marked_moment (Ceremony c at Close) = None
marked_moment (Ceremony c at (RecordSheet way people)) = None
marked_moment (Ceremony c at deed) = Some (c, at)
marked_moment act = None

-- the mark of the ceremony: the greatest moment of those, none if there is none
abbrev pub mark : History → ℕ → Option ℕ
mark A ceremony = greatest (map (λ m. m.1) (filter (λ m. m.0 == ceremony) (values_of_acts marked_moment A)))

-- the ceremony that a command opens
abbrev pub opened_number : Act → Option ℕ
opened_number (Ceremony ceremony at Open) = Some ceremony
opened_number act = None

-- the marks of all ceremonies that were opened: no other has one
abbrev pub all_marks : History → List ℕ
all_marks A = filter_map (mark A) (values_of_acts opened_number A)

-- the settled day: the day of the greatest mark of all ceremonies, none if there is no mark
abbrev pub settled : History → Option ℕ
settled A = option_map day_of (greatest (all_marks A))

-- the moment is not before the mark
abbrev pub is_not_before : ℕ → Option ℕ → Bool
is_not_before t None = true
is_not_before t (Some m) = nat_le m t

-- STEPS

-- the command signs or passes a step of the ceremony
abbrev pub does_step : ℕ → Act → Bool
does_step ceremony (Ceremony c at (Sign k)) = c == ceremony
does_step ceremony (Ceremony c at (RecordException text pass)) = c == ceremony && pass
does_step ceremony act = false

-- how many steps of the ceremony are signed or passed
abbrev pub steps_done : History → ℕ → ℕ
steps_done A ceremony = command_count (does_step ceremony) A

-- the step that is next: one more than those
abbrev pub next_step : History → ℕ → ℕ
next_step A ceremony = suc (steps_done A ceremony)

-- the command states an exception in the ceremony
abbrev pub is_exception : ℕ → Act → Bool
is_exception ceremony (Ceremony c at (RecordException text pass)) = c == ceremony
is_exception ceremony act = false

abbrev pub exceptions_of : History → ℕ → ℕ
exceptions_of A ceremony = command_count (is_exception ceremony) A

-- step k may be signed at t: the ceremony is open, k is next and a step of its script, and t is not before the mark
abbrev pub next : History → ℕ → ℕ → ℕ → Bool
next A ceremony k t =
    is_ceremony_open A ceremony && k == next_step A ceremony && is_some (step_at (steps_of A ceremony) k)
    && is_not_before t (mark A ceremony)

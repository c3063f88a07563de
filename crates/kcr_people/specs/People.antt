-- People, training and custodians, by rows.
use Rattle.std.specs.Prelude.{ℕ, ◌==◌, Bool, true, false, not, ◌&&◌, ◌||◌, nat_lt, nat_le, min, max, List, [], ◌∷◌, map}
use Rattle.std.specs.Prelude.{filter, fold, Option, Some, None, option_map, find, is_none}
use Rattle.std.specs.List.{list_any}
use Rattle.kcr_base.specs.{Same.same_text, Same.same_role, Same.same_place, Refuse.when, Refuse.first_of, Refuse.unknown_person_refusal}
use Rattle.kcr_base.specs.declared.{place.Role.Role, place.Place.Place, refusal.Refusal.Refusal}
use Rattle.kcr_base.specs.declared.refusal.Refusal.TheVariants.{Taken, Range, Apart, Held, Vacant, Settled, Full}
use Rattle.kcr_people.specs.declared.{Person.Person, Training.Training, Withdrawal.Withdrawal, Appointment.Appointment}

-- PEOPLE

-- the person is in the register
abbrev pub is_person_by : List Person → List ℕ → Bool
is_person_by people who = list_any (λ row. same_text row.who who) people

-- TRAINING

-- the training is the person's for the role and covers the day, both ends inclusive
abbrev pub covers : List ℕ → Role → ℕ → Training → Bool
covers who role day row =
    same_text row.who who && same_role row.role role && nat_le row.since day && nat_le day row.until

-- the withdrawal is of that very training
abbrev pub is_of : Training → Withdrawal → Bool
is_of row withdrawal =
    same_text withdrawal.who row.who && same_role withdrawal.role row.role && withdrawal.since == row.since
    && withdrawal.until == row.until

-- a withdrawal of the training has that day or an earlier one
abbrev pub is_withdrawn_by : List Withdrawal → Training → ℕ → Bool
is_withdrawn_by withdrawals row day =
    list_any (λ withdrawal. is_of row withdrawal && nat_le withdrawal.day day) withdrawals

-- by this training the person is trained for the role on the day: it covers the day and is not withdrawn by then
abbrev pub trains : List Withdrawal → List ℕ → Role → ℕ → Training → Bool
trains withdrawals who role day row = covers who role day row && not (is_withdrawn_by withdrawals row day)

-- the person is trained for the role on the day
abbrev pub trained_by : List Training → List Withdrawal → List ℕ → Role → ℕ → Bool
trained_by trainings withdrawals who role day = list_any (trains withdrawals who role day) trainings

-- the person is trained for the role on the day or a later one: by a training on the first such day that it may cover
abbrev pub trained_from_by : List Training → List Withdrawal → List ℕ → Role → ℕ → Bool
trained_from_by trainings withdrawals who role day =
    list_any (λ row. trains withdrawals who role (max row.since day) row) trainings

-- the person has a training, of whatever days
abbrev pub ever_trained_by : List Training → List ℕ → Bool
ever_trained_by rows who = list_any (λ row. same_text row.who who) rows

abbrev pub same_training : Training → Training → Bool
same_training a b = same_text a.who b.who && same_role a.role b.role && a.since == b.since && a.until == b.until

-- the training is the person's for the role and ends on the day or later
abbrev pub ends_from : List ℕ → Role → ℕ → Training → Bool
ends_from who role day row = same_text row.who who && same_role row.role role && nat_le day row.until

-- the least of the day and the days of the training's withdrawals
abbrev pub least_day : List Withdrawal → Training → ℕ → ℕ
least_day withdrawals row day = fold min day (map (λ withdrawal. withdrawal.day) (filter (is_of row) withdrawals))

-- the row of a training that is withdrawn from the day on, or was so from an earlier day
abbrev pub withdrawal_of : List Withdrawal → ℕ → Training → Withdrawal
withdrawal_of withdrawals day row =
    record { who = row.who; role = row.role; since = row.since; until = row.until; day = least_day withdrawals row day }

-- the rows of a withdrawal: one for each training of the person for the role that ends on the day or later
abbrev pub withdrawn_rows : List Training → List Withdrawal → List ℕ → Role → ℕ → List Withdrawal
withdrawn_rows trainings withdrawals who role day =
    map (withdrawal_of withdrawals day) (filter (ends_from who role day) trainings)

-- CUSTODIANS

-- there is no end, or it is after the day
abbrev pub ends_after : Option ℕ → ℕ → Bool
ends_after None day = true
ends_after (Some end) day = nat_lt day end

-- the appointment has no end, or one after the day
abbrev pub lasts_beyond : ℕ → Appointment → Bool
lasts_beyond day row = ends_after row.until day

-- the appointment is to the place and covers the day; its end is the first day that it does not cover
abbrev pub holds : Place → ℕ → Appointment → Bool
holds place day row = same_place row.place place && nat_le row.since day && lasts_beyond day row

-- the appointment lasts beyond its first day
abbrev pub lasts : Appointment → Bool
lasts row = lasts_beyond row.since row

-- who holds the place on the day
abbrev pub holder_by : List Appointment → Place → ℕ → Option (List ℕ)
holder_by rows place day = option_map (λ row. row.who) (find (holds place day) rows)

-- the person holds a place on the day
abbrev pub holds_some_by : List Appointment → List ℕ → ℕ → Bool
holds_some_by rows who day =
    list_any (λ row. same_text row.who who && nat_le row.since day && lasts_beyond day row) rows

-- the person was put in a place at some time
abbrev pub ever_put_by : List Appointment → List ℕ → Bool
ever_put_by rows who = list_any (λ row. same_text row.who who) rows

-- on the day or a later one the place has a holder
abbrev pub place_held_from_by : List Appointment → Place → ℕ → Bool
place_held_from_by rows place day = list_any (λ row. same_place row.place place && lasts_beyond day row) rows

-- on the day or a later one the person holds a place
abbrev pub person_holds_from_by : List Appointment → List ℕ → ℕ → Bool
person_holds_from_by rows who day = list_any (λ row. same_text row.who who && lasts_beyond day row) rows

-- the appointment is to the place and has no end
abbrev pub is_open_ended : Place → Appointment → Bool
is_open_ended place row = same_place row.place place && is_none row.until

-- the appointment of the place that has no end
abbrev pub open_row_by : List Appointment → Place → Option Appointment
open_row_by rows place = find (is_open_ended place) rows

-- the open appointment of the place begins on the day or later
abbrev pub begins_too_late : Option Appointment → ℕ → Bool
begins_too_late None day = false
begins_too_late (Some row) day = nat_le day row.since

-- an appointment of nobody, which no row is
abbrev pub nobody : Place → ℕ → Appointment
nobody place day = record { place = place; who = []; since = day; until = None }

-- the open appointment with its end, or the other if there is none
abbrev pub end_of : Option Appointment → ℕ → Appointment → Appointment
end_of None day new = new
end_of (Some row) day new = record row { until = Some day }

-- THE CONDITIONS OF THE ACTS, IN THE ORDER OF THE REFUSALS' NUMBERS, over what is asked: whether the person is in the
-- register, was ever trained, was ever put in a place, is trained on the day or later; whether the very training is
-- there; the appointments; the settled day; whether the register is full

-- the day is not after the settled day
abbrev pub settled_refusal : Option ℕ → ℕ → Option Refusal
settled_refusal None day = None
settled_refusal (Some last) day = when (nat_le day last) (Settled last)

-- the day is not after the settled day, or the register is full
abbrev pub settled_or_full_refusal : Option ℕ → Bool → ℕ → Option Refusal
settled_or_full_refusal settled full day = first_of (settled_refusal settled day ∷ when full Full ∷ [])

-- the appointment to the place that has no end begins on the day or later
abbrev pub first_day_refusal : List Appointment → Place → ℕ → Option Refusal
first_day_refusal rows place day = when (begins_too_late (open_row_by rows place) day) Range

-- each appointment to the place has an end, or there is none
abbrev pub vacant_refusal : List Appointment → Place → Option Refusal
vacant_refusal rows place = when (is_none (open_row_by rows place)) Vacant

-- on the day or a later one somebody holds the place, or the person holds a place
abbrev pub place_or_person_holds : List Appointment → Place → List ℕ → ℕ → Bool
place_or_person_holds rows place who day = place_held_from_by rows place day || person_holds_from_by rows who day

abbrev pub enter_conditions : Bool → Bool → List (Option Refusal)
enter_conditions is_person full =
    when is_person Taken
    ∷ when full Full
    ∷ []

abbrev pub train_conditions : Bool → Bool → Bool → Bool → Training → List (Option Refusal)
train_conditions is_person is_there ever_put full row =
    unknown_person_refusal is_person row.who
    ∷ when is_there Taken
    ∷ when (nat_lt row.until row.since) Range
    ∷ when ever_put Apart
    ∷ when full Full
    ∷ []

abbrev pub withdraw_conditions : Bool → Bool → Option ℕ → Bool → List ℕ → ℕ → List (Option Refusal)
withdraw_conditions is_person is_trained settled full who day =
    unknown_person_refusal is_person who
    ∷ when (not is_trained) Vacant
    ∷ settled_refusal settled day
    ∷ when full Full
    ∷ []

abbrev pub appoint_conditions : Bool → Bool → List Appointment → Option ℕ → Bool → Place → List ℕ → ℕ
    → List (Option Refusal)
appoint_conditions is_person ever_trained appointments settled full place who day =
    unknown_person_refusal is_person who
    ∷ when ever_trained Apart
    ∷ when (place_or_person_holds appointments place who day) Held
    ∷ settled_refusal settled day
    ∷ when full Full
    ∷ []

abbrev pub replace_conditions : Bool → Bool → List Appointment → Option ℕ → Bool → Place → List ℕ → ℕ
    → List (Option Refusal)
replace_conditions is_person ever_trained appointments settled full place who day =
    unknown_person_refusal is_person who
    ∷ first_day_refusal appointments place day
    ∷ when ever_trained Apart
    ∷ when (person_holds_from_by appointments who day) Held
    ∷ vacant_refusal appointments place
    ∷ settled_refusal settled day
    ∷ when full Full
    ∷ []

abbrev pub release_conditions : List Appointment → Option ℕ → Bool → Place → ℕ → List (Option Refusal)
release_conditions appointments settled full place day =
    first_day_refusal appointments place day
    ∷ vacant_refusal appointments place
    ∷ settled_refusal settled day
    ∷ when full Full
    ∷ []

-- THE FIRST REFUSAL OF EACH ACT, by rows

abbrev pub enter_refusal : List Person → Bool → List ℕ → Option Refusal
enter_refusal people full who = first_of (enter_conditions (is_person_by people who) full)

abbrev pub train_refusal : List Person → List Training → List Appointment → Bool → Training → Option Refusal
train_refusal people trainings appointments full row =
    first_of
    (train_conditions (is_person_by people row.who) (list_any (same_training row) trainings)
    (ever_put_by appointments row.who) full row)

abbrev pub withdraw_refusal : List Person → List Training → List Withdrawal → Option ℕ → Bool → List ℕ → Role → ℕ
    → Option Refusal
withdraw_refusal people trainings withdrawals settled full who role day =
    first_of
    (withdraw_conditions (is_person_by people who) (trained_from_by trainings withdrawals who role day) settled full who
    day)

abbrev pub appoint_refusal : List Person → List Training → List Appointment → Option ℕ → Bool → Place → List ℕ → ℕ
    → Option Refusal
appoint_refusal people trainings appointments settled full place who day =
    first_of
    (appoint_conditions (is_person_by people who) (ever_trained_by trainings who) appointments settled full place who
    day)

abbrev pub replace_refusal : List Person → List Training → List Appointment → Option ℕ → Bool → Place → List ℕ → ℕ
    → Option Refusal
replace_refusal people trainings appointments settled full place who day =
    first_of
    (replace_conditions (is_person_by people who) (ever_trained_by trainings who) appointments settled full place who
    day)

abbrev pub release_refusal : List Appointment → Option ℕ → Bool → Place → ℕ → Option Refusal
release_refusal appointments settled full place day = first_of (release_conditions appointments settled full place day)

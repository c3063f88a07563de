-- Laws of people.
use Rattle.std.proofs.Common.{◌≡◌, ℕ, Bool, List, Option, option_map, ap}
use Rattle.std.specs.List.{list_any, Sorted.IsPermutation}
use Rattle.std.proofs.lemmas.List.Sorted.{list_any-IsPermutation}
use Rattle.kcr_base.specs.declared.place.{Place.Place, Role.Role}
use Rattle.kcr_people.specs.declared.{Appointment.Appointment, Withdrawal.Withdrawal, Person.Person, Training.Training}
use Rattle.kcr_people.specs.Laws.{AtMostOne}
use Rattle.kcr_people.specs.People.{holds, holder_by, is_open_ended, open_row_by}
use Rattle.kcr_people.specs.People.{enter_refusal, train_refusal, withdraw_refusal, appoint_refusal, replace_refusal, release_refusal}
use Rattle.kcr_people.proofs.Orders.{find-one, trained_from-order}
-- somebody is trained, or holds a place, from a day on if and only if they do on that day or a later one
pub use Rattle.kcr_people.proofs.Days.{trained_on_some_day, trained_on_no_other, place_on_some_day, place_on_no_other}
pub use Rattle.kcr_people.proofs.Days.{person_on_some_day, person_on_no_other}
-- after a withdrawal the person is trained for the role before its day as before, and not from it on; nothing else changes
pub use Rattle.kcr_people.proofs.Withdrawn.{trained-after}
-- nothing that is asked of trainings depends on the order of rows
pub use Rattle.kcr_people.proofs.Orders.{trained-order, trained_from-order}

-- a list passes a test in any order
any-ordered : {X : Type 0} (xs ys : List X) → IsPermutation xs ys → (test : X → Bool) → list_any test xs ≡ list_any test ys
any-ordered xs ys p test = list_any-IsPermutation test xs ys p

-- the holder of a place on a day does not depend on the order of appointments, if at most one of them covers the day
pub holder_in_any_order : (rows others : List Appointment) → IsPermutation rows others → (place : Place) (day : ℕ) → AtMostOne (holds place day) rows
    → holder_by others place day ≡ holder_by rows place day
holder_in_any_order rows others p place day one = ap (option_map (λ row. row.who)) (find-one (holds place day) rows others p one)

-- nor does the open appointment of a place that has at most one
pub open_row_in_any_order : (rows others : List Appointment) → IsPermutation rows others → (place : Place) → AtMostOne (is_open_ended place) rows
    → open_row_by others place ≡ open_row_by rows place
open_row_in_any_order rows others p place one = find-one (is_open_ended place) rows others p one

-- a person is entered, or refused for the same reason, whatever the order of people
pub enter_in_any_order : (people others : List Person) → IsPermutation people others → (full : Bool) (who : List ℕ)
    → enter_refusal others full who ≡ enter_refusal people full who
enter_in_any_order people others p full who = simp (any-ordered people others p)

-- a training is taken, or refused for the same reason, whatever the order of people, trainings and appointments
pub train_in_any_order : (people persons : List Person) (trainings others : List Training) (rows puts : List Appointment)
    → IsPermutation people persons → IsPermutation trainings others → IsPermutation rows puts → (full : Bool) (row : Training)
    → train_refusal persons others puts full row ≡ train_refusal people trainings rows full row
train_in_any_order people persons trainings others rows puts p t x full row =
    simp (any-ordered people persons p, any-ordered trainings others t, any-ordered rows puts x)

-- a withdrawal is taken, or refused for the same reason, whatever the order of people, trainings and withdrawals
pub withdraw_in_any_order : (people persons : List Person) (trainings others : List Training) (withdrawals rest : List Withdrawal)
    → IsPermutation people persons → IsPermutation trainings others → IsPermutation withdrawals rest
    → (settled : Option ℕ) (full : Bool) (who : List ℕ) (role : Role) (day : ℕ)
    → withdraw_refusal persons others rest settled full who role day ≡ withdraw_refusal people trainings withdrawals settled full who role day
withdraw_in_any_order people persons trainings others withdrawals rest p t w settled full who role day =
    simp (any-ordered people persons p, trained_from-order trainings others withdrawals rest t w who role day)

-- an appointment is taken, or refused for the same reason, whatever the order of people, trainings and appointments
pub appoint_in_any_order : (people persons : List Person) (trainings others : List Training) (rows puts : List Appointment)
    → IsPermutation people persons → IsPermutation trainings others → IsPermutation rows puts
    → (settled : Option ℕ) (full : Bool) (place : Place) (who : List ℕ) (day : ℕ)
    → appoint_refusal persons others puts settled full place who day ≡ appoint_refusal people trainings rows settled full place who day
appoint_in_any_order people persons trainings others rows puts p t x settled full place who day =
    simp (any-ordered people persons p, any-ordered trainings others t, any-ordered rows puts x)

-- a custodian is replaced, or it is refused for the same reason, whatever that order, if at most one appointment of the place is open
pub replace_in_any_order : (people persons : List Person) (trainings others : List Training) (rows puts : List Appointment)
    → IsPermutation people persons → IsPermutation trainings others → IsPermutation rows puts
    → (settled : Option ℕ) (full : Bool) (place : Place) (who : List ℕ) (day : ℕ) → AtMostOne (is_open_ended place) rows
    → replace_refusal persons others puts settled full place who day ≡ replace_refusal people trainings rows settled full place who day
replace_in_any_order people persons trainings others rows puts p t x settled full place who day one =
    rw (find-one (is_open_ended place) rows puts x one) (simp (any-ordered people persons p, any-ordered trainings others t, any-ordered rows puts x))

-- a place is released, or it is refused for the same reason, whatever the order of appointments, if at most one of the place is open
pub release_in_any_order : (rows puts : List Appointment) → IsPermutation rows puts → (settled : Option ℕ) (full : Bool) (place : Place) (day : ℕ)
    → AtMostOne (is_open_ended place) rows → release_refusal puts settled full place day ≡ release_refusal rows settled full place day
release_in_any_order rows puts x settled full place day one = rw (find-one (is_open_ended place) rows puts x one)

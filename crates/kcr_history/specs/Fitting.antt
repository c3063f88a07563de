-- Who fits a seat, by the rows of trainings, withdrawals and appointments.
use Rattle.std.specs.{Prelude.ℕ, Prelude.Bool, Prelude.List, List.list_any}
use Rattle.kcr_base.specs.{Same.is_this, declared.place.Facility.Facility, declared.place.Place.Place}
use Rattle.kcr_base.specs.declared.place.Place.TheVariants as Places
use Rattle.kcr_people.specs.People.{trained_by, holder_by}
use Rattle.kcr_people.specs.declared.{Appointment.Appointment, Training.Training, Withdrawal.Withdrawal}
use Rattle.kcr_script.specs.declared.seat.Seat.{Seat}
use Rattle.kcr_script.specs.declared.seat.Seat.TheVariants.{Staff, AnyCo, AnyRksh, Co, Rksh}
use Rattle.kcr_history.specs.Seating.{one_to_seven}

-- the person holds the place on the day
abbrev pub is_holder_by : List Appointment → Place → ℕ → List ℕ → Bool
is_holder_by rows place day who = is_this who (holder_by rows place day)

-- the person fits the seat on the day, in a ceremony of the facility
abbrev pub fits_by : List Training → List Withdrawal → List Appointment → Facility → ℕ → Seat → List ℕ → Bool
fits_by trainings withdrawals rows facility day (Staff role) who = trained_by trainings withdrawals who role day
fits_by trainings withdrawals rows facility day AnyCo who =
    list_any (λ n. is_holder_by rows (Places.Co facility n) day who) one_to_seven
fits_by trainings withdrawals rows facility day (Co n) who = is_holder_by rows (Places.Co facility n) day who
fits_by trainings withdrawals rows facility day AnyRksh who =
    list_any (λ n. is_holder_by rows (Places.Rksh n) day who) one_to_seven
fits_by trainings withdrawals rows facility day (Rksh n) who = is_holder_by rows (Places.Rksh n) day who

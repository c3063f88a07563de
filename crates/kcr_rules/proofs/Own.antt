-- Who fits a seat by a person's own trainings.
use Rattle.kcr_rules.proofs.Common.{◌≡◌, ℕ, ◌<◌, Bool, true, List, [], map, filter, length, get_or, refl, ap, arith, get_or-map, get_or_default}
use Rattle.kcr_rules.proofs.Common.{length-map, trains, Training, Staff, fits_by, trainings_by_person}
use Rattle.std.proofs.lemmas.{Option.slice_get-get_or, Map.Views.any-filter_same}
use Rattle.kcr_base.specs.declared.place.Facility.{Facility}
use Rattle.kcr_people.specs.declared.{Appointment.Appointment, Withdrawal.Withdrawal}
use Rattle.kcr_script.specs.declared.seat.Seat.{Seat}
use Rattle.kcr_history.specs.Views.{is_training_of}
use Rattle.kcr_rules.specs.Signing.{fits_of}

-- a person fits a seat by the person's own trainings if and only if by all trainings
pub fits_own : (trainings : List Training) (withdrawals : List Withdrawal) (rows : List Appointment) (facility : Facility) (day : ℕ)
    (seat : Seat) (who : List ℕ)
    → fits_by (filter (is_training_of who) trainings) withdrawals rows facility day seat who ≡ fits_by trainings withdrawals rows facility day seat who
fits_own trainings withdrawals rows facility day (Staff role) who =
    any-filter_same (trains withdrawals who role day) (is_training_of who) true (λ row h. grind (arith, h)) trainings
fits_own trainings withdrawals rows facility day seat who = refl

-- the trainings that stand at a person's place are the person's own
pub own_row : {V : Type 0} (items : V → List Training) (trainings : List Training) (people : List (List ℕ)) (own : List V)
    → map items own ≡ trainings_by_person trainings people
    → (person : ℕ) (d : V) → person < length people → items (get_or own person d) ≡ filter (is_training_of (get_or people person [])) trainings
own_row items trainings people own split person d there =
    let many : length own ≡ length people = simp length-map at (ap length split) in
    rw (← get_or-map items own person d [] (rw many there), split)
    (get_or-map (λ who. filter (is_training_of who) trainings) people person [] [] there)

-- by the numbers of a seat and of a person who are there
pub fits_there : (fit : Seat → List ℕ → Bool) (seats : List Seat) (people : List (List ℕ)) (seat person : ℕ) (s : Seat) (e : List ℕ) → seat < length seats
    → person < length people → fit (get_or seats seat s) (get_or people person e) ≡ fits_of fit seats people seat person
fits_there fit seats people seat person s e there among =
    rw (slice_get-get_or seats seat s there, get_or_default people person e [] among)

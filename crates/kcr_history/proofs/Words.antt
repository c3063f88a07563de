-- The words on the rows of a history's tables are the words on the history.
use Rattle.kcr_history.proofs.Common.{◌≡◌, ℕ, Bool, ◌||◌, List, [], ◌∷◌, map, Option, option_map, refl, ap, ◌∙◌, arith, eqb, is_some, list_any}
use Rattle.kcr_history.proofs.Common.{cons_option, option_or, same_text, Place, Appointment, Training, is_person_by, ever_trained_by, ever_put_by}
use Rattle.kcr_history.proofs.Common.{same_training, Act, History, values_of_acts, has_command, entry_of, enters, is_person, trains_person}
use Rattle.kcr_history.proofs.Common.{ever_trained, is_training, puts, was_custodian, people, person_row, trainings, training_row, appointments}
use Rattle.kcr_history.proofs.Common.{appointments_after, ended, keys, key_row, planned_number, row_of_key, Planned, planned_as, plan_of, is_ceremony}

-- some row of the commands passes a test if some command says so
some_row : {X : Type 0} (row_of : Act → Option X) (test : X → Bool) (says : Act → Bool)
    → ((act : Act) (rows : List X) → list_any test (cons_option (row_of act) rows) ≡ (says act || list_any test rows))
    → (A : History) → list_any test (values_of_acts row_of A) ≡ has_command says A
some_row row_of test says one [] = refl
some_row row_of test says one (entry ∷ A) = one entry.command.act (values_of_acts row_of A) ∙ ap (λ b. says entry.command.act || b) (some_row row_of test says one A)

-- a person has a row if and only if a command entered the person
pub is_person-people : (A : History) (who : List ℕ) → is_person_by (people A) who ≡ is_person A who
is_person-people A who = some_row person_row (λ row. same_text row.who who) (enters who) (λ act rows. grind arith) A

-- a person has a training's row if and only if a command trained the person
pub ever_trained-trainings : (A : History) (who : List ℕ) → ever_trained_by (trainings A) who ≡ ever_trained A who
ever_trained-trainings A who = some_row training_row (λ row. same_text row.who who) (trains_person who) (λ act rows. grind arith) A

-- the very same training
pub is_training-trainings : (A : History) (row : Training)
    → list_any (same_training row) (trainings A) ≡ has_command (is_training row.who row.role row.since row.until) A
is_training-trainings A row =
    some_row training_row (same_training row) (is_training row.who row.role row.since row.until) (λ act rows. grind arith) A

-- an end changes no person
ever_put-ended : (who : List ℕ) (place : Place) (day : ℕ) (rows : List Appointment) → ever_put_by (map (ended place day) rows) who ≡ ever_put_by rows who
ever_put-ended who place day [] = refl
ever_put-ended who place day (row ∷ rows) = ap (λ b. same_text row.who who || b) (ever_put-ended who place day rows)

ever_put_after : (who : List ℕ) (act : Act) (rows : List Appointment) → ever_put_by (appointments_after act rows) who ≡ (puts who act || ever_put_by rows who)
ever_put_after who act rows = grind (arith, ever_put-ended who)

-- a person has an appointment's row if and only if the person was ever a custodian
pub ever_put-appointments : (A : History) (who : List ℕ) → ever_put_by (appointments A) who ≡ was_custodian A who
ever_put-appointments [] who = refl
ever_put-appointments (entry ∷ A) who =
    ever_put_after who entry.command.act (appointments A) ∙ ap (λ b. puts who entry.command.act || b) (ever_put-appointments A who)

-- the row of a key is that of its entry
pub row_of_key-keys : (A : History) (key : List ℕ) → row_of_key key (keys A) ≡ option_map key_row (entry_of A key)
row_of_key-keys [] key = refl
row_of_key-keys (entry ∷ A) key = grind (arith, row_of_key-keys A key)

-- a ceremony has a row if it was planned
planned_after : (act : Act) (c : ℕ) (numbers : List ℕ) (plan : Option Planned) → list_any (λ k. eqb k c) numbers ≡ is_some plan
    → list_any (λ k. eqb k c) (cons_option (planned_number act) numbers) ≡ is_some (option_or (planned_as c act) plan)
planned_after act c numbers plan ih = grind (arith, ih)

-- a number is among those planned if and only if it is a ceremony's
pub planned-number : (A : History) (c : ℕ) → list_any (λ k. eqb k c) (values_of_acts planned_number A) ≡ is_ceremony A c
planned-number [] c = refl
planned-number (entry ∷ A) c = planned_after entry.command.act c (values_of_acts planned_number A) (plan_of A c) (planned-number A c)

-- Who is trained, who holds a place and who fits a seat: by all rows of a register, in whatever order, as by its history.
use Rattle.kcr_laws.proofs.Common.{◌≡◌, ℕ, List, option_map, ap, ◌∙◌, is_this, Facility, Place, Role, any-same, find-order, Appointment, trained_by}
use Rattle.kcr_laws.proofs.Common.{holder_by, holds, Seat, Staff, AnyCo, AnyRksh, Co, Rksh, History, fits, one_to_seven, trained, holder, is_holder}
use Rattle.kcr_laws.proofs.Common.{trainings, withdrawals, appointments, IsRegister, orderly, holder-appointments, trained-rows}
use Rattle.std.specs.List.Sorted.{IsPermutation}
use Rattle.kcr_base.specs.declared.place.Place.TheVariants as Places
use Rattle.kcr_people.specs.declared.{Training.Training, Withdrawal.Withdrawal}
use Rattle.kcr_people.proofs.Orders.{trained-order}
use Rattle.kcr_history.specs.Fitting.{is_holder_by, fits_by}
use Rattle.kcr_laws.proofs.Finds.{only-holder}

module _ (A : History) (h : IsRegister A) (us : List Training) (vs : List Withdrawal) (p : IsPermutation (trainings A) us)
    (q : IsPermutation (withdrawals A) vs) where
  trained-all : (who : List ℕ) (role : Role) (day : ℕ) → trained_by us vs who role day ≡ trained A who role day
  trained-all who role day = trained-order (trainings A) us (withdrawals A) vs p q who role day ∙ trained-rows A h who role day

-- by the rows each place is held on the day by whom the history says
abbrev pub TellsHolders : History → List Appointment → ℕ → Type 0
TellsHolders A rows day = (place : Place) → holder_by rows place day ≡ holder A place day

-- all appointments, in any order, name the holders that the history names
pub holder-all : (A : History) → IsRegister A → (rows : List Appointment) → IsPermutation (appointments A) rows → (day : ℕ) → TellsHolders A rows day
holder-all A h rows p day place =
    ap (option_map (λ row. row.who))
    (find-order (holds place day) (appointments A) rows p (λ r e. only-holder place day r (appointments A) (orderly A h).0 e))
    ∙ holder-appointments A h place day

-- on a day for which the rows tell who is trained and who holds a place
module _ (A : History) (us : List Training) (vs : List Withdrawal) (rows : List Appointment) (day : ℕ) (held : TellsHolders A rows day)
    (trained-same : (who : List ℕ) (role : Role) → trained_by us vs who role day ≡ trained A who role day) where
  is_holder-same : (place : Place) (who : List ℕ) → is_holder_by rows place day who ≡ is_holder A place day who
  is_holder-same place who = ap (is_this who) (held place)

  -- a person fits a seat by the rows if and only if by the history
  pub fits-on : (f : Facility) (seat : Seat) (who : List ℕ) → fits_by us vs rows f day seat who ≡ fits A f day seat who
  fits-on f (Staff role) who = trained-same who role
  fits-on f AnyCo who = any-same _ _ one_to_seven (λ n. is_holder-same (Places.Co f n) who)
  fits-on f (Co n) who = is_holder-same (Places.Co f n) who
  fits-on f AnyRksh who = any-same _ _ one_to_seven (λ n. is_holder-same (Places.Rksh n) who)
  fits-on f (Rksh n) who = is_holder-same (Places.Rksh n) who

-- on every day, by all trainings and withdrawals
module _ (A : History) (h : IsRegister A) (us : List Training) (vs : List Withdrawal) (rows : List Appointment) (p : IsPermutation (trainings A) us)
    (q : IsPermutation (withdrawals A) vs) (r : IsPermutation (appointments A) rows) where
  -- on every day a person fits a seat by all rows if and only if by the history
  pub fits-all : (f : Facility) (day : ℕ) (seat : Seat) (who : List ℕ) → fits_by us vs rows f day seat who ≡ fits A f day seat who
  fits-all f day = fits-on A us vs rows day (holder-all A h rows r day) (λ who role. trained-all A h us vs p q who role day) f

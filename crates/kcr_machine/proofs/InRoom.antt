-- Who is in a room, who is trained and who holds a place: by the rows that a view shows, as by the history.
use Rattle.kcr_machine.proofs.Common.{◌≡◌, ℕ, List, map, filter, reverse, option_map, ap, ◌∙◌, arith, list_any, IsPermutation, IsPermutation-refl}
use Rattle.kcr_machine.proofs.Common.{IsPermutation-reverse, day_of, same_text, Place, Role, any-same, Appointment, Training, Withdrawal, trains}
use Rattle.kcr_machine.proofs.Common.{trained_by, holds, lasts_beyond, Stay, ascending, stay_reaches, present_in_by, stays_by, filter-kept}
use Rattle.kcr_machine.proofs.Common.{same-present, present-order, present_are_in, View, History, trained, sheet, is_in, present, trainings}
use Rattle.kcr_machine.proofs.Common.{withdrawals, appointments, is_training_of, is_withdrawal_of, training_reaches, is_holder_present, IsRegister}
use Rattle.kcr_machine.proofs.Common.{orderly, holder-appointments, is_in_by, has_trained_present_by, is_holder_present_by, TellsHolders}
use Rattle.kcr_people.proofs.Orders.{trained-order}
use Rattle.kcr_room.specs.Stays as Stays
use Rattle.kcr_history.specs.Room as Rooms
use Rattle.kcr_history.proofs.Trained.{trained-rows}
use Rattle.kcr_laws.proofs.Finds.{only-holder}
use Rattle.kcr_machine.proofs.{Keyed.Shown, Keyed.any-shown, Keyed.find-shown, People.trained-shown}

-- THE ROOM

-- those in the room at the moment, by the stays of it that last to the moment
present-own : (stays : List Stay) (c t : ℕ) → present_in_by (filter (stay_reaches c t) stays) c t ≡ present_in_by stays c t
present-own stays c t =
    ap (λ some. ascending (map (λ stay. stay.who) some)) (filter-kept (Stays.stay_covers c t) (stay_reaches c t) stays (λ stay h. grind arith))

module _ (A : History) (c t : ℕ) (rows : List Stay) (p : Shown (stay_reaches c t) (reverse (stays_by (sheet A))) rows) where
  -- those in the room
  pub present-shown : present_in_by rows c t ≡ present A c t
  present-shown =
      let own = present-own rows c t in
      let all = present-own (reverse (stays_by (sheet A))) c t in
      let turned = present-order (stays_by (sheet A)) (reverse (stays_by (sheet A))) (IsPermutation-reverse (stays_by (sheet A))) c t in
      grind (arith, present-order _ _ p c t, same-present (sheet A) c t)

  -- whether a person is in the room
  pub in-shown : (who : List ℕ) → is_in_by rows who c t ≡ is_in A who c t
  in-shown who = ap (list_any (same_text who)) present-shown ∙ present_are_in (sheet A) who c t

-- TRAINING

-- whether a person is trained, by the trainings and withdrawals of the person
pub trained-own : (A : History) → IsRegister A → (us : List Training) (vs : List Withdrawal) → (who : List ℕ) → Shown (is_training_of who) (trainings A) us
    → Shown (is_withdrawal_of who) (withdrawals A) vs
    → (role : Role) (day : ℕ) → trained_by us vs who role day ≡ trained A who role day
trained-own A h us vs who p q role day = trained-shown who (trainings A) us (withdrawals A) vs p q role day ∙ trained-rows A h who role day

-- whether a person is trained on a day, by anybody's trainings that last to it and all withdrawals
pub trained-lasting : (A : History) → IsRegister A → (us : List Training) (vs : List Withdrawal) (day : ℕ) → Shown (training_reaches day) (trainings A) us
    → IsPermutation (withdrawals A) vs
    → (who : List ℕ) (role : Role) → trained_by us vs who role day ≡ trained A who role day
trained-lasting A h us vs day p q who role =
    trained-order us us (withdrawals A) vs (IsPermutation-refl us) q who role day
    ∙ any-shown (trains (withdrawals A) who role day) (training_reaches day) (λ row h. grind arith) (trainings A) us p
    ∙ trained-rows A h who role day

-- whether somebody in the room is trained at the moment
pub attended-shown : (A : History) → IsRegister A → (view : View) (c t : ℕ) → Shown (stay_reaches c t) (reverse (stays_by (sheet A))) view.stays.items
    → Shown (training_reaches (day_of t)) (trainings A) view.trainings.items → IsPermutation (withdrawals A) view.withdrawals.items
    → (role : Role) → has_trained_present_by view role c t ≡ Rooms.has_trained_present A role c t
attended-shown A h view c t s p q role = grind (arith, any-same, trained-lasting, present-shown)

-- PLACES

-- who holds a place on the day, by the appointments that last beyond it
pub holder-lasting : (A : History) → IsRegister A → (rows : List Appointment) (day : ℕ) → Shown (lasts_beyond day) (appointments A) rows
    → TellsHolders A rows day
holder-lasting A h rows day p place =
    ap (option_map (λ row. row.who))
    (find-shown (holds place day) (lasts_beyond day) (λ row h. grind arith) (appointments A) rows p
    (λ r e. only-holder place day r (appointments A) (orderly A h).0 e))
    ∙ holder-appointments A h place day

-- whether the place has a holder, who is in the room
pub holder_in-shown : (A : History) → IsRegister A → (view : View) (c t : ℕ) → Shown (stay_reaches c t) (reverse (stays_by (sheet A))) view.stays.items
    → Shown (lasts_beyond (day_of t)) (appointments A) view.appointments.items
    → (place : Place) → is_holder_present_by view place c t ≡ is_holder_present A place c t
holder_in-shown A h view c t s p place = grind (arith, in-shown, holder-lasting)

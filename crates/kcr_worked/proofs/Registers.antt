-- What holds of every register, of some that the machine reaches, and not of histories that it does not reach.
use Rattle.std.specs.Prelude.{[], ◌∷◌, codes, Some, None}
use Rattle.std.proofs.Common.{refl}
use Rattle.std.proofs.lemmas.Bool.{false≢true}
use Rattle.kcr_custody.specs.declared.Destination.TheVariants.{DepositBox}
use Rattle.kcr_history.specs.{declared.commands.Act.TheVariants.Ceremony, Laws.IsBalanced, Laws.IsSound}
use Rattle.kcr_history.specs.declared.commands.Deed.TheVariants.{AddItem, Close, Cut, Put, Seal, Sign}
use Rattle.kcr_laws.specs.Runs.{AreAnswered}
use Rattle.kcr_laws.proofs.{Alone.rooms, Balance.balanced}
use Rattle.kcr_worked.specs.Examples.{AA, BB, HSM4, bag_7, bag_8, clock, come, leave, with_act, with_acts, script_of_one, opened_with}
use Rattle.kcr_worked.specs.Examples.{opened_with_people, signed_by_two, bag_on_table}
use Rattle.kcr_worked.proofs.{OnLiterals.rows_on_literals, Played.Seated, Played.answered, Reached.bag_lies, Reached.two_signed}

-- A register is sound. A history is not, if somebody was alone in the room, or if BB, who is no IW, sits as IW.
pub sound_register-sound : IsSound signed_by_two
unfolding rows_on_literals
sound_register-sound = record { seated = refl; rooms = rooms signed_by_two two_signed }

pub sound_register-alone : IsSound (with_act (opened_with (script_of_one (codes "CA;IW"))) (come (AA ∷ []) (clock 20 5 0)) None) → ⊥
unfolding rows_on_literals
sound_register-alone = λ h. absurd ((h.rooms 61 (clock 20 5 0)).0 refl)

pub sound_register-not_trained : IsSound (with_act (opened_with_people (script_of_one (codes "CA;IW")) (AA ∷ BB ∷ []))
    (Ceremony 61 (clock 20 10 0) (Sign 1)) (Some (AA ∷ BB ∷ []))) → ⊥
unfolding rows_on_literals
sound_register-not_trained = λ h. absurd (false≢true h.seated)

-- The item of a bag that was cut is sealed in another; a serial is used once, and a ceremony does not close while a bag
-- lies on its table. So its custody is balanced. It is not, if an item was sealed in two bags, or if a bag was put into
-- a box that is not there.
pub balanced_custody-answered : AreAnswered (opened_with_people (script_of_one (codes "IW")) (AA ∷ BB ∷ []))
    ((Ceremony 61 (clock 20 6 0) (AddItem HSM4), codes "{\"accepted\":18}")
    ∷ (Ceremony 61 (clock 20 7 0) (Seal bag_7 (HSM4 ∷ [])), codes "{\"accepted\":19}")
    ∷ (Ceremony 61 (clock 20 8 0) (Cut bag_7), codes "{\"accepted\":20}")
    ∷ (Ceremony 61 (clock 20 9 0) (Seal bag_7 (HSM4 ∷ [])), codes "{\"number\":13,\"refusal\":\"taken\"}")
    ∷ (Ceremony 61 (clock 20 9 0) (Seal bag_8 (HSM4 ∷ [])), codes "{\"accepted\":21}")
    ∷ (Ceremony 61 (clock 20 10 0) (Sign 1), codes "{\"accepted\":22,\"seating\":[\"AA\"],\"step\":1}")
    ∷ (leave (AA ∷ BB ∷ []) (clock 20 15 0), codes "{\"accepted\":23}")
    ∷ (Ceremony 61 (clock 20 20 0) Close, codes "{\"number\":31,\"part\":\"table\",\"refusal\":\"unfinished\"}")
    ∷ [])
    bag_on_table
unfolding rows_on_literals
balanced_custody-answered = answered _ _ (Seated (AA ∷ []) ∷ []) _ refl

pub balanced_custody-balanced : IsBalanced bag_on_table
balanced_custody-balanced = balanced bag_on_table bag_lies

pub balanced_custody-in_two_bags : IsBalanced (with_acts (opened_with_people (script_of_one (codes "IW")) (AA ∷ BB ∷ []))
    (Ceremony 61 (clock 20 6 0) (AddItem HSM4)
    ∷ Ceremony 61 (clock 20 7 0) (Seal bag_7 (HSM4 ∷ []))
    ∷ Ceremony 61 (clock 20 8 0) (Seal bag_8 (HSM4 ∷ []))
    ∷ [])) → ⊥
unfolding rows_on_literals
balanced_custody-in_two_bags = λ h. absurd (false≢true h.in_place)

pub balanced_custody-in_no_box : IsBalanced (with_acts (opened_with_people (script_of_one (codes "IW")) (AA ∷ BB ∷ []))
    (Ceremony 61 (clock 20 6 0) (AddItem HSM4)
    ∷ Ceremony 61 (clock 20 7 0) (Seal bag_7 (HSM4 ∷ []))
    ∷ Ceremony 61 (clock 20 8 0) (Put bag_7 (DepositBox 3))
    ∷ [])) → ⊥
unfolding rows_on_literals
balanced_custody-in_no_box = λ h. absurd (false≢true (h.boxed bag_7))

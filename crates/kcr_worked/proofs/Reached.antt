-- Histories of the examples that the machine reaches are registers.
use Rattle.std.proofs.Common.{ℕ, List, [], ◌∷◌, codes, refl}
use Rattle.kcr_history.specs.{declared.commands.Act.Act, declared.commands.Act.TheVariants.Ceremony, Machine.IsRegister}
use Rattle.kcr_history.specs.declared.commands.Deed.TheVariants.{AddItem, Cut, Seal, Sign}
use Rattle.kcr_laws.proofs.Accepted.{answers_keep}
use Rattle.kcr_worked.specs.Examples.{AA, BB, HSM4, bag_7, bag_8, clock, come, leave, script_of_one, opened_with, signed_by_two, bag_on_table}
use Rattle.kcr_worked.proofs.Commands.{opening-one_seat, opening-two_seats, signature_of_a_step}
use Rattle.kcr_worked.proofs.{OnLiterals.rows_on_literals, Played.Seated, Played.answered}

-- the history after two people signed a step is that of a register
pub two_signed : IsRegister signed_by_two
two_signed =
    let opened = opened_with (script_of_one (codes "CA;IW")) in
    answers_keep opened signed_by_two _ (answers_keep [] opened _ tt opening-two_seats) signature_of_a_step

sealing : List (Act × List ℕ)
sealing =
    (come (AA ∷ BB ∷ []) (clock 20 5 0), codes "{\"accepted\":17}")
    ∷ (Ceremony 61 (clock 20 6 0) (AddItem HSM4), codes "{\"accepted\":18}")
    ∷ (Ceremony 61 (clock 20 7 0) (Seal bag_7 (HSM4 ∷ [])), codes "{\"accepted\":19}")
    ∷ (Ceremony 61 (clock 20 8 0) (Cut bag_7), codes "{\"accepted\":20}")
    ∷ (Ceremony 61 (clock 20 9 0) (Seal bag_8 (HSM4 ∷ [])), codes "{\"accepted\":21}")
    ∷ (Ceremony 61 (clock 20 10 0) (Sign 1), codes "{\"accepted\":22,\"seating\":[\"AA\"],\"step\":1}")
    ∷ (leave (AA ∷ BB ∷ []) (clock 20 15 0), codes "{\"accepted\":23}")
    ∷ []

-- the history after an item was sealed into a second bag is that of a register
pub bag_lies : IsRegister bag_on_table
unfolding rows_on_literals sealing
bag_lies =
    let opened = opened_with (script_of_one (codes "IW")) in
    answers_keep opened bag_on_table sealing (answers_keep [] opened _ tt opening-one_seat)
    (answered _ sealing (Seated (AA ∷ []) ∷ []) _ refl)

-- No training is entered twice.
use Rattle.kcr_history.proofs.Common.{◌≡◌, [], ◌∷◌, None, ◌∙◌, arith, false, cons_option, Apart, Training, same_training, Act, Train, History}
use Rattle.kcr_history.proofs.Common.{has_command, is_training, trainings, training_row, fault, IsRegister}
use Rattle.kcr_history.proofs.{Steps.took, Words.is_training-trainings}

apart_after : (A : History) (act : Act) → fault A act ≡ None → Apart same_training (trainings A)
    → Apart same_training (cons_option (training_row act) (trainings A))
apart_after A (Train who role since until) f a =
    let new : Training = record { who = who; role = role; since = since; until = until } in
    let absent : has_command (is_training who role since until) A ≡ false = grind arith in
    (is_training-trainings A new ∙ absent, a)
apart_after A act f a = a

-- the trainings of a register are all different
pub trainings-apart : (A : History) → IsRegister A → Apart same_training (trainings A)
trainings-apart [] h = tt
trainings-apart (entry ∷ A) h = apart_after A entry.command.act (took A entry h.0).no_fault (trainings-apart A h.1)

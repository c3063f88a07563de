-- Trainings and withdrawals by their keys: no two rows of one withdrawal are of one training.
use Rattle.std.proofs.Common.{◌≡◌, ℕ, true, List, sym, subst, arith}
use Rattle.std.proofs.lemmas.Bool.Decides.{nat_tests}
use Rattle.kcr_base.proofs.SameLemmas.{same-turned}
use Rattle.kcr_base.proofs.RowsLemmas.{IsKeyTest, Apart, filter-apart, map-apart}
use Rattle.kcr_base.specs.declared.place.Role.{Role}
use Rattle.kcr_people.specs.{declared.Training.Training, declared.Withdrawal.Withdrawal, Laws.same_withdrawn}
use Rattle.kcr_people.specs.People.{is_of, same_training, ends_from, withdrawal_of, withdrawn_rows}
use Rattle.kcr_people.proofs.Withdrawn.{training_of, is_of-true, is_of-own}

-- `same_withdrawn` tells whether two rows are of one training
pub same_withdrawn-keys : IsKeyTest same_withdrawn
same_withdrawn-keys =
    record {
      turns = λ x y h. subst (λ t. is_of t x ≡ true) (sym (is_of-true (training_of x) y h)) (is_of-own x);
      joins = λ x y z h k. subst (λ t. is_of t z ≡ true) (is_of-true (training_of x) y h) k;
    }

-- a training's row has the training's key
its-key : (withdrawn : List Withdrawal) (day : ℕ) (a b : Training)
    → same_withdrawn (withdrawal_of withdrawn day a) (withdrawal_of withdrawn day b) ≡ same_training a b
its-key withdrawn day a b = grind (arith, nat_tests, same-turned a.who b.who)

-- of trainings that are all different a withdrawal makes rows of different keys
pub withdrawn_rows-apart : (ts : List Training) (ws : List Withdrawal) (who : List ℕ) (role : Role) (day : ℕ) → Apart same_training ts
    → Apart same_withdrawn (withdrawn_rows ts ws who role day)
withdrawn_rows-apart ts ws who role day a =
    map-apart (withdrawal_of ws day) same_training same_withdrawn (its-key ws day) _ (filter-apart same_training (ends_from who role day) ts a)

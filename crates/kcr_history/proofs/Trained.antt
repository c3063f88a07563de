-- Training by rows, with the withdrawals that bear on it, is training by history.
use Rattle.kcr_history.proofs.Common.{◌≡◌, ℕ, Bool, true, false, ◌&&◌, nat_le, subst, List, [], ◌∷◌, filter, None, refl, sym, ◌∙◌, arith, unwrap_or}
use Rattle.kcr_history.proofs.Common.{list_any, list_all, cons_option, both_ways, and_left, and_parts, and_from, or_from, or_left, or_right}
use Rattle.kcr_history.proofs.Common.{false_from_ne_true, list_all-map, option_or, all-more, Training, is_of, is_withdrawn_by, trained_by}
use Rattle.kcr_history.proofs.Common.{same_training, ends_from, withdrawal_of, withdrawn_rows, Act, Train, Withdraw, History, has_command}
use Rattle.kcr_history.proofs.Common.{last_value_of_acts, trained, training_effect, is_training, trainings, training_row, withdrawals}
use Rattle.kcr_history.proofs.Common.{withdrawals_after, fault, IsRegister}
use Rattle.kcr_base.specs.declared.place.Role.{Role}
use Rattle.kcr_people.specs.{declared.Withdrawal.Withdrawal, Laws.same_withdrawn}
use Rattle.kcr_custody.proofs.Puts.{all_put_all}
use Rattle.kcr_people.proofs.Withdrawn.{trained-after, is_of-true, is_of-own}
use Rattle.kcr_history.proofs.{Stacked.none-weaker, Steps.took, Words.is_training-trainings}

-- EACH WITHDRAWAL IS OF A TRAINING THAT IS THERE

abbrev pub has_its_training : List Training → Withdrawal → Bool
has_its_training rows withdrawal = list_any (λ row. is_of row withdrawal) rows

-- each row of a list is found there
each-found : {X : Type 0} (R : X → X → Bool) → ((x : X) → R x x ≡ true) → (xs : List X) → list_all (λ x. list_any (λ y. R y x) xs) xs ≡ true
each-found R own [] = refl
each-found R own (x ∷ xs) = and_from _ _ (or_left (R x x) _ (own x)) (all-more _ _ xs (λ y. or_right (R x y) _) (each-found R own xs))

all-filter : {X : Type 0} (p test : X → Bool) (xs : List X) → list_all p xs ≡ true → list_all p (filter test xs) ≡ true
all-filter p test [] h = refl
all-filter p test (x ∷ xs) h = grind (arith, h, all-filter p test xs)

rooted_after : (act : Act) (rows : List Training) (withdrawn : List Withdrawal) → list_all (has_its_training rows) withdrawn ≡ true
    → list_all (has_its_training (cons_option (training_row act) rows)) (withdrawals_after act rows withdrawn) ≡ true
rooted_after (Train who role since until) rows withdrawn h =
    all-more (has_its_training rows) _ withdrawn (λ w. or_right (is_of (record { who = who; role = role; since = since; until = until }) w) _) h
rooted_after (Withdraw who role day) rows withdrawn h =
    let own = λ (row : Training). is_of-own (withdrawal_of withdrawn day row) in
    let new : list_all (has_its_training rows) (withdrawn_rows rows withdrawn who role day) ≡ true =
    list_all-map (has_its_training rows) (withdrawal_of withdrawn day) (filter (ends_from who role day) rows)
    ∙ all-filter _ (ends_from who role day) rows (each-found (λ x y. is_of x (withdrawal_of withdrawn day y)) own rows) in
    all_put_all same_withdrawn (has_its_training rows) (withdrawn_rows rows withdrawn who role day) withdrawn new
    (all-more (has_its_training rows) _ withdrawn (λ w g. or_left _ _ g) h)
rooted_after act rows withdrawn h = h

-- each withdrawal is of a training that has a row
pub rooted : (A : History) → list_all (has_its_training (trainings A)) (withdrawals A) ≡ true
rooted [] = refl
rooted (entry ∷ A) = rooted_after entry.command.act (trainings A) (withdrawals A) (rooted A)

-- A NEW TRAINING IS NOT WITHDRAWN

-- two trainings of one withdrawal are the same
one_training : (new row : Training) (w : Withdrawal) → is_of new w ≡ true → is_of row w ≡ true → same_training new row ≡ true
one_training new row w a b = subst (λ x. same_training new x ≡ true) (sym (is_of-true new w a) ∙ is_of-true row w b) (is_of-own (withdrawal_of [] 0 new))

-- of a training that is not there no withdrawal is
not_withdrawn : (new : Training) (day : ℕ) (rows : List Training) (ws : List Withdrawal) → list_any (same_training new) rows ≡ false
    → list_all (has_its_training rows) ws ≡ true → is_withdrawn_by ws new day ≡ false
not_withdrawn new day rows [] n h = refl
not_withdrawn new day rows (w ∷ ws) n h =
    let p = and_parts (has_its_training rows w) (list_all (has_its_training rows) ws) h in
    let other = false_from_ne_true _ (λ own. both_ways _ (none-weaker _ (λ row. is_of row w)
    (λ row e. false_from_ne_true _ (λ its. both_ways _ e (one_training new row w own its))) rows n) p.0) in
    or_from (is_of new w && nat_le w.day day) _ (and_left _ _ other) (not_withdrawn new day rows ws n p.1)

-- TRAINED

trained_after : (A : History) (act : Act) (who : List ℕ) (role : Role) (day : ℕ) → fault A act ≡ None
    → trained_by (trainings A) (withdrawals A) who role day ≡ trained A who role day
    → trained_by (cons_option (training_row act) (trainings A)) (withdrawals_after act (trainings A) (withdrawals A)) who role day
    ≡ unwrap_or (option_or (training_effect who role day act) (last_value_of_acts (training_effect who role day) A)) false
trained_after A (Train p r since until) who role day f ih =
    let new : Training = record { who = p; role = r; since = since; until = until } in
    let absent : has_command (is_training p r since until) A ≡ false = grind arith in
    let fresh = not_withdrawn new day (trainings A) (withdrawals A) (is_training-trainings A new ∙ absent) (rooted A) in
    grind (arith, ih, fresh)
trained_after A (Withdraw p r from) who role day f ih =
    grind (arith, ih, trained-after (trainings A) (withdrawals A) p r from who role day)
trained_after A act who role day f ih = ih

-- by the rows of a register somebody is trained if and only if the history says so
pub trained-rows : (A : History) → IsRegister A → (who : List ℕ) (role : Role) (day : ℕ)
    → trained_by (trainings A) (withdrawals A) who role day ≡ trained A who role day
trained-rows [] h who role day = refl
trained-rows (entry ∷ A) h who role day = trained_after A entry.command.act who role day (took A entry h.0).no_fault (trained-rows A h.1 who role day)

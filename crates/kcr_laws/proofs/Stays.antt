-- A later command changes neither who held a place on a settled day, nor that somebody was trained on it.
use Rattle.kcr_laws.proofs.Common.{◌≡◌, ℕ, ◌≤◌, Bool, true, false, cond, ◌&&◌, nat_le, List, ◌∷◌, Option, Some, None, ap, arith, unwrap_or, and_right}
use Rattle.kcr_laws.proofs.Common.{nat_tests, option_or, same_text, same_role, Role, Place, settled_refusal, Act, Train, Withdraw, Entry, History}
use Rattle.kcr_laws.proofs.Common.{last_value_of_acts, holder, holder_effect, trained, training_effect, settled, fault}

-- a day that is not refused is later than the settled one
later : (o : Option ℕ) (s day d : ℕ) → o ≡ Some s → settled_refusal o day ≡ None → d ≤ s → nat_le day d ≡ false
later o s day d e h l = grind (arith, nat_tests)

-- such a command says nothing of the place, or of the person, on the day
silent : (b : Bool) (day d : ℕ) {X : Type 0} (x : X) → nat_le day d ≡ false → cond (b && nat_le day d) (Some x) None ≡ None
silent b day d x h = ap (λ z. cond z (Some x) None) (and_right b (nat_le day d) h)

no_word : (A : History) (act : Act) (place : Place) (s d : ℕ) → fault A act ≡ None → settled A ≡ Some s → d ≤ s → holder_effect place d act ≡ None
no_word A act place s d f e l = grind (arith, later (settled A) s)

-- who held a place on a settled day still did after any accepted command
pub holder_stays : (A : History) (entry : Entry) (place : Place) (s d : ℕ) → fault A entry.command.act ≡ None → settled A ≡ Some s → d ≤ s
    → holder (entry ∷ A) place d ≡ holder A place d
holder_stays A entry place s d f e l =
    ap (λ o. unwrap_or (option_or o (last_value_of_acts (holder_effect place d) A)) None) (no_word A entry.command.act place s d f e l)

-- a command says of a settled day that somebody is trained, or nothing
says_no_worse : (A : History) (act : Act) (who : List ℕ) (role : Role) (s d : ℕ) → fault A act ≡ None → settled A ≡ Some s → d ≤ s
    → (said : Option Bool) → unwrap_or said false ≡ true → unwrap_or (option_or (training_effect who role d act) said) false ≡ true
says_no_worse A (Train p r since until) who role s d f e l said h = grind arith
says_no_worse A (Withdraw p r day) who role s d f e l said h =
    rw (silent (same_text who p && same_role role r) day d false (later (settled A) s day d e (grind arith) l)) h
says_no_worse A act who role s d f e l said h = h

-- who was trained on a settled day still was after any accepted command
pub trained_stays : (A : History) (entry : Entry) (who : List ℕ) (role : Role) (s d : ℕ) → fault A entry.command.act ≡ None → settled A ≡ Some s → d ≤ s
    → trained A who role d ≡ true → trained (entry ∷ A) who role d ≡ true
trained_stays A entry who role s d f e l h = says_no_worse A entry.command.act who role s d f e l (last_value_of_acts (training_effect who role d) A) h

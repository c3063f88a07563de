-- Each step of a ceremony is signed or passed once, and in order.
use Rattle.kcr_laws.proofs.Common.{◌≡◌, ℕ, suc, Bool, true, false, cond, ◌&&◌, nat_le, List, [], ◌∷◌, filter, length, Option, Some, None, refl, sym}
use Rattle.kcr_laws.proofs.Common.{ap, ◌∙◌, arith, inl, inr, lt-leb, eqb-true, and_right, cases_Bool, nat_tests, option_or, none-there, Act, Ceremony}
use Rattle.kcr_laws.proofs.Common.{Sign, RecordException, Entry, History, does_step, steps_done, next_step, fault, reply_to, IsRegister, step_done}
use Rattle.kcr_laws.proofs.Common.{step_result, took}
use Rattle.std.specs.Prelude.{is_some, ◌==◌}
use Rattle.kcr_history.specs.declared.row_types.StepState.TheVariants.{Signed, Passed}

abbrev pub one_more : Bool → ℕ → ℕ
one_more true n = suc n
one_more false n = n

-- a further element adds one to how many pass if it passes
pub count-cons : {X : Type 0} (p : X → Bool) (x : X) (xs : List X) → length (filter p (x ∷ xs)) ≡ one_more (p x) (length (filter p xs))
count-cons p x xs = grind arith

-- the step that an accepted command does is the next one
pub next_signed : (A : History) (d k at : ℕ) → fault A (Ceremony d at (Sign k)) ≡ None → k ≡ suc (steps_done A d)
next_signed A d k at f = grind (arith, nat_tests)

-- a command that does the step after the n steps done so far tells of it, and of no other
pub advance : {F : Type 0} (n k step : ℕ) (m : Bool) → (step == k) ≡ m → step ≡ suc n → (found : Option F) (new : F) → is_some found ≡ (nat_le 1 k && nat_le k n)
    → is_some (option_or (cond m (Some new) None) found) ≡ (nat_le 1 k && nat_le k (suc n))
advance n k step m e s found new ih = grind (arith, nat_tests)

-- so a command that does the next step of a ceremony, if m tells whether that is this ceremony
done_at : {F : Type 0} (A : History) (d c k step : ℕ) (m : Bool) → m ≡ (d == c) → step ≡ suc (steps_done A d) → (found : Option F) (new : F)
    → is_some found ≡ (nat_le 1 k && nat_le k (steps_done A c))
    → is_some (option_or (cond (d == c && step == k) (Some new) None) found) ≡ (nat_le 1 k && nat_le k (one_more m (steps_done A c)))
done_at A d c k step m g s found new ih = rw g (elim (cases_Bool (d == c)) [
  | inl e ↦ rw e (advance (steps_done A c) k step (step == k) refl (s ∙ ap (λ z. suc (steps_done A z)) (eqb-true d c e)) found new ih)
  | inr e ↦ rw e ih
])

-- by one command; `said` is the step that the answer names
pub result_after : (A : History) (act : Act) (said : Option ℕ) (c k : ℕ) → fault A act ≡ None → (people : Option (List (List ℕ)))
    → said ≡ (reply_to A act people).step
    → is_some (step_result A c k) ≡ (nat_le 1 k && nat_le k (steps_done A c))
    → is_some (option_or (step_done c k act said) (step_result A c k)) ≡ (nat_le 1 k && nat_le k (one_more (does_step c act) (steps_done A c)))
result_after A (Ceremony d at (Sign step)) said c k f people e ih = done_at A d c k step (d == c) refl (next_signed A d step at f) (step_result A c k) (Signed, at) ih
result_after A (Ceremony d at (RecordException text true)) said c k f people e ih =
    rw e (done_at A d c k (next_step A d) (d == c && true) (grind arith) refl (step_result A c k) (Passed, at) ih)
result_after A (Ceremony d at (RecordException text false)) said c k f people e ih = rw (e, and_right (d == c) false refl) ih
result_after A act said c k f people e ih = ih

-- no number is at least 1 and at most 0
pub nothing_within : (k : ℕ) → (nat_le 1 k && nat_le k 0) ≡ false
nothing_within k = grind (arith, nat_tests)

-- a further command makes one more step done if it signs or passes one of the ceremony
pub done-after : (A : History) (entry : Entry) (c : ℕ) → steps_done (entry ∷ A) c ≡ one_more (does_step c entry.command.act) (steps_done A c)
done-after A entry c = count-cons (λ entry. does_step c entry.command.act) entry A

-- step k was signed or passed if and only if it is one of the steps done so far
pub result_of_done : (A : History) → IsRegister A → (c k : ℕ) → is_some (step_result A c k) ≡ (nat_le 1 k && nat_le k (steps_done A c))
result_of_done [] h c k = sym (nothing_within k)
result_of_done (entry ∷ A) h c k =
    let t = took A entry h.0 in
    result_after A entry.command.act entry.reply.step c k t.no_fault t.people (ap (λ a. a.step) t.reply) (result_of_done A h.1 c k)
    ∙ ap (λ n. nat_le 1 k && nat_le k n) (sym (done-after A entry c))

-- nothing has become of the next step
pub next-undone : (A : History) → IsRegister A → (c k : ℕ) → k ≡ suc (steps_done A c) → step_result A c k ≡ None
next-undone A h c k e =
    none-there (step_result A c k)
    (result_of_done A h c k ∙ and_right (nat_le 1 k) (nat_le k (steps_done A c)) (lt-leb k (steps_done A c) (omega (arith, e))))

-- The law of withdrawals: whose training counts on which day after one.
use Rattle.std.proofs.Common.{◌≡◌, ℕ, Bool, true, false, not, ◌||◌, ◌&&◌, cond, nat_le, min, List, [], ◌∷◌, map, filter, refl, ap, ◌∙◌, arith}
use Rattle.std.specs.{Prelude.fold, List.list_any}
use Rattle.std.proofs.lemmas.{Bool.or_right, Bool.Decides.nat_tests, Map.Views.any-filter_same}
use Rattle.kcr_base.specs.{Same.same_text, Same.same_role, Rows.put, Rows.put_all, declared.place.Role.Role}
use Rattle.kcr_base.proofs.SameLemmas.{role-same, same-is, same-itself}
use Rattle.kcr_people.specs.{declared.Training.Training, declared.Withdrawal.Withdrawal, People.withdrawn_rows, Laws.same_withdrawn}
use Rattle.kcr_people.specs.People.{covers, is_of, same_training, is_withdrawn_by, trains, trained_by, ends_from, least_day, withdrawal_of}

-- TESTS THAT FIND ROWS THE SAME FIND THEM EQUAL

-- the training that a withdrawal is of
abbrev pub training_of : Withdrawal → Training
training_of w = record { who = w.who; role = w.role; since = w.since; until = w.until }

-- the training that a withdrawal is found to be of is its own
pub is_of-true : (row : Training) (w : Withdrawal) → is_of row w ≡ true → training_of w ≡ row
is_of-true row w h = grind (arith, nat_tests, same-is w.who row.who, role-same w.role row.role)

-- a withdrawal is of its own training
pub is_of-own : (w : Withdrawal) → is_of (training_of w) w ≡ true
is_of-own w = grind (arith, nat_tests, same-itself w.who)

-- A ROW THAT IS PUT

-- rows of which `of` tells whose are asked for, and `counts` which of them count; `same` tells whose the new row is
module _ {X : Type 0} (of counts same : X → Bool) (new : X) where
  abbrev bears : X → Bool
  bears w = of w && counts w

  any-put : ((x : X) → of new ≡ true → same x ≡ of x) → ((x : X) → of new ≡ false → same x ≡ true → of x ≡ false) → (ws : List X)
      → list_any bears (cond (list_any same ws) (map (λ old. cond (same old) new old) ws) (new ∷ ws)) ≡ cond (of new) (counts new) (list_any bears ws)
  any-put f g ws = grind (arith, mapped ws, none ws)
    where
      mapped : (ws : List X) → list_any bears (map (λ x. cond (same x) new x) ws) ≡ cond (of new) (list_any same ws && counts new) (list_any bears ws)
      mapped [] = grind arith
      mapped (w ∷ ws) = grind (arith, f w, g w, mapped ws)

      none : (ws : List X) → of new ≡ true → list_any same ws ≡ false → list_any bears ws ≡ false
      none [] n m = refl
      none (w ∷ ws) n m = grind (arith, n, m, f w, none ws)

put-bears : (row : Training) (d : ℕ) (new : Withdrawal) (ws : List Withdrawal)
    → is_withdrawn_by (put same_withdrawn new ws) row d ≡ cond (is_of row new) (nat_le new.day d) (is_withdrawn_by ws row d)
put-bears row d new ws =
    any-put (is_of row) (λ w. nat_le w.day d) (same_withdrawn new) new (λ x h. ap (λ t. is_of t x) (is_of-true row new h))
    (λ x h e. ap (λ t. same_training t row) (is_of-true (training_of new) x e) ∙ h) ws

-- ALL THE ROWS OF A WITHDRAWAL

-- the row of the training x is one of the training t
abbrev is_row_of : List Withdrawal → ℕ → Training → Training → Bool
is_row_of ws day t x = is_of t (withdrawal_of ws day x)

put_all-bears : (t : Training) (d day : ℕ) (ws : List Withdrawal) (xs : List Training) (rows : List Withdrawal)
    → is_withdrawn_by (put_all same_withdrawn (map (withdrawal_of ws day) xs) rows) t d
    ≡ cond (list_any (is_row_of ws day t) xs) (nat_le (least_day ws t day) d) (is_withdrawn_by rows t d)
put_all-bears t d day ws [] rows = refl
put_all-bears t d day ws (x ∷ xs) rows =
    put_all-bears t d day ws xs (put same_withdrawn (withdrawal_of ws day x) rows)
    ∙ rw (put-bears t d (withdrawal_of ws day x) rows)
    (grind (arith, λ (e : is_row_of ws day t x ≡ true). ap (λ row. nat_le (least_day ws row day) d) (is_of-true t (withdrawal_of ws day x) e)))

-- THE LEAST DAY

least-of : (of : Withdrawal → Bool) (ws : List Withdrawal) (day d : ℕ)
    → nat_le (fold min day (map (λ w. w.day) (filter of ws))) d ≡ (nat_le day d || list_any (λ w. of w && nat_le w.day d) ws)
least-of of [] day d = grind arith
least-of of (w ∷ ws) day d = grind (arith, nat_tests, least-of of ws (min day w.day) d, least-of of ws day d)

-- the least day is d or earlier if and only if the day is, or a withdrawal of the training is
pub least-day : (ws : List Withdrawal) (row : Training) (day d : ℕ) → nat_le (least_day ws row day) d ≡ (nat_le day d || is_withdrawn_by ws row d)
least-day ws row day d = least-of (is_of row) ws day d

-- WHO IS TRAINED AFTERWARDS

-- tests that answer alike, but for g, at each element of ts that is found in it, by a test that finds itself
any-own : {X : Type 0} (own : X → X → Bool) (p q : X → Bool) (g : Bool) (ts : List X) → ((x : X) → own x x ≡ true)
    → ((x : X) → list_any (own x) ts ≡ true → p x ≡ (q x && g)) → (xs : List X) → ((x : X) → list_any (own x) xs ≡ true → list_any (own x) ts ≡ true)
    → list_any p xs ≡ (list_any q xs && g)
any-own own p q g ts r f [] k = refl
any-own own p q g ts r f (x ∷ xs) k =
    grind (arith, r x, f x, k x, any-own own p q g ts r f xs (λ z h. k z (or_right (own z x) (list_any (own z) xs) h)))

-- whether a training that the table has is withdrawn afterwards
withdrawn-after : (ts : List Training) (ws : List Withdrawal) (who : List ℕ) (role : Role) (day : ℕ) (t : Training) (d : ℕ)
    → list_any (is_row_of ws day t) ts ≡ true
    → is_withdrawn_by (put_all same_withdrawn (withdrawn_rows ts ws who role day) ws) t d
    ≡ ((ends_from who role day t && nat_le day d) || is_withdrawn_by ws t d)
withdrawn-after ts ws who role day t d own =
    let its_row = any-filter_same (is_row_of ws day t) (ends_from who role day) (ends_from who role day t)
    (λ x e. ap (ends_from who role day) (is_of-true t (withdrawal_of ws day x) e)) ts in
    put_all-bears t d day ws (filter (ends_from who role day) ts) ws
    ∙ rw (its_row, own, least-day ws t day d) (grind arith)

-- for a training that covers the day it makes no difference that a withdrawal passes over those that end before its own
covered : (who p : List ℕ) (role r : Role) (day d : ℕ) (t : Training) → covers p r d t ≡ true
    → (ends_from who role day t && nat_le day d) ≡ (same_text p who && same_role r role && nat_le day d)
covered who p role r day d t h =
    rw (same-is t.who p (grind (arith, nat_tests)), role-same t.role r (grind (arith, nat_tests))) (grind (arith, nat_tests))

trains-after : (ts : List Training) (ws : List Withdrawal) (who : List ℕ) (role : Role) (day : ℕ) (p : List ℕ) (r : Role) (d : ℕ) (t : Training)
    → list_any (is_row_of ws day t) ts ≡ true
    → trains (put_all same_withdrawn (withdrawn_rows ts ws who role day) ws) p r d t
    ≡ (trains ws p r d t && not (same_text p who && same_role r role && nat_le day d))
trains-after ts ws who role day p r d t own =
    rw (withdrawn-after ts ws who role day t d own) (by_cover (covers p r d t) _ _ _ (covered who p role r day d t))
  where
    by_cover : (b e g w : Bool) → (b ≡ true → e ≡ g) → (b && not (e || w)) ≡ ((b && not w) && not g)
    by_cover b e g w f = grind arith

-- after a withdrawal, its rows put in place of those of the same trainings, the person is trained for the role before the day as before, and neither on the
-- day nor later; for everybody else, and for the other roles, nothing changes
pub trained-after : (ts : List Training) (ws : List Withdrawal) (who : List ℕ) (role : Role) (day : ℕ) (p : List ℕ) (r : Role) (d : ℕ)
    → trained_by ts (put_all same_withdrawn (withdrawn_rows ts ws who role day) ws) p r d
    ≡ (trained_by ts ws p r d && not (same_text p who && same_role r role && nat_le day d))
trained-after ts ws who role day p r d =
    any-own (is_row_of ws day) (trains (put_all same_withdrawn (withdrawn_rows ts ws who role day) ws) p r d) (trains ws p r d) _ ts
    (λ t. is_of-own (withdrawal_of ws day t)) (λ t. trains-after ts ws who role day p r d t) ts (λ x h. h)

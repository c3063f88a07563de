-- Steps and exceptions: how many there are by the rows as by the history, each step once and in order, and the rows of one that is done.
use Rattle.kcr_machine.proofs.Common.{◌≡◌, ℕ, zero, suc, ◌+◌, ◌≤◌, Bool, true, false, cond, ◌&&◌, List, [], ◌∷◌, map, filter, length, Option, Some}
use Rattle.kcr_machine.proofs.Common.{subst, None, refl, sym, ap, ◌∙◌, arith, ◌<◌, ◌==◌, rules, slice_get, unwrap_or, list_any, IsPermutation}
use Rattle.kcr_machine.proofs.Common.{result_unwrap_or, false≢true, eqb-true, eq-eqb, ne_eqb, and_parts, or_from, length_permutation}
use Rattle.kcr_machine.proofs.Common.{list_any-IsPermutation, IsPermutation-sym, slice_get_past, option_or, put, none_holds, unmet, script_of, Step}
use Rattle.kcr_machine.proofs.Common.{script_has_steps, Act, Plan, Ceremony, Sign, RecordException, ReplyData, StepRow, StepState, History}
use Rattle.kcr_machine.proofs.Common.{pushed_onto, Planned, planned_as, plan_of, is_ceremony, steps_of, step_at, does_step, steps_done, next_step}
use Rattle.kcr_machine.proofs.Common.{is_exception, exceptions_of, fault, reply_to, IsRegister, numbered, step_keys, step_result, step_row, steps}
use Rattle.kcr_machine.proofs.Common.{exceptions, Tables, seatings, seat_rows, seating_rows, ceremony_of_step, is_step_at, is_exception_of, took}
use Rattle.kcr_machine.proofs.Common.{any-pushed, filter-pushed, pushed-alone, exception_count_by, step_by, one_more, count-cons, next_signed}
use Rattle.kcr_machine.proofs.Common.{done-after, Entry, SeatingRow, PutSeating, same_step, same_seating, all_changed, any-same, any-map, some_if}
use Rattle.kcr_machine.proofs.Common.{there, Facility, Implies}
use Rattle.std.specs.Prelude.{is_some, option_map}
use Rattle.kcr_history.specs.declared.row_types.ExceptionRow.{ExceptionRow}
use Rattle.kcr_room.proofs.Lists as RoomLists
use Rattle.kcr_machine.proofs.Keyed.{Shown, any-shown, filter-shown, find-view, put-at, put-new}

-- COUNTING

-- how many of a list pass the test
abbrev tally : {X : Type 0} → (X → Bool) → List X → ℕ
tally test xs = length (filter test xs)

count-view : {X : Type 0} (test of : X → Bool) → Implies test of → (table rows : List X) → Shown of table rows → tally test rows ≡ tally test table
count-view test of inside table rows p = length_permutation (filter test table) (filter test rows) (filter-shown test of inside table rows p)

-- THE STEPS OF A CEREMONY

no_steps : (A : History) (c : ℕ) → is_ceremony A c ≡ false → steps_of A c ≡ []
no_steps A c h = grind arith

-- the step of a signature or of a passing exception that has no fault is in the script
pub sign-there : (A : History) (c k at : ℕ) → fault A (Ceremony c at (Sign k)) ≡ None → is_some (step_at (steps_of A c) k) ≡ true
sign-there A c k at f = grind (arith, there, unmet, none_holds)

-- an exception that passes a step is refused unless the next step is one of the script
pub pass-there : (A : History) (c : ℕ) (text : List ℕ) (at : ℕ) → fault A (Ceremony c at (RecordException text true)) ≡ None
    → is_some (step_at (steps_of A c) (next_step A c)) ≡ true
pass-there A c text at f = grind (arith, there, unmet, none_holds)

next-there : (A : History) (act : Act) (c : ℕ) → fault A act ≡ None → does_step c act ≡ true → is_some (step_at (steps_of A c) (next_step A c)) ≡ true
next-there A (Ceremony d at (Sign k)) c f e =
    subst (λ c. is_some (step_at (steps_of A c) (next_step A c)) ≡ true) (eqb-true d c e)
    (subst (λ k. is_some (step_at (steps_of A d) k) ≡ true) (next_signed A d k at f) (sign-there A d k at f))
next-there A (Ceremony d at (RecordException text true)) c f e =
    subst (λ c. is_some (step_at (steps_of A c) (next_step A c)) ≡ true) (eqb-true d c (grind arith)) (pass-there A d text at f)
next-there A (Ceremony d at (RecordException text false)) c f e = absurd (grind arith)
next-there A act c f e = absurd (false≢true e)

one_below : (b : Bool) (n : ℕ) (ss : List Step) → (b ≡ true → is_some (step_at ss (suc n)) ≡ true) → n ≤ length ss → one_more b n ≤ length ss
one_below b n ss inside l = grind (arith, slice_get_past)

-- a ceremony that is planned now had no steps
new_planned : (A : History) (number : ℕ) (facility : Facility) (day : ℕ) (script : List ℕ) (c : ℕ) → fault A (Plan number facility day script) ≡ None
    → (number == c) ≡ true → steps_of A c ≡ []
new_planned A number facility day script c f q = grind (arith, no_steps, eqb-true, unmet, none_holds)

below_after : (A : History) (act : Act) (answer : ReplyData) (key : List ℕ) (c : ℕ) → fault A act ≡ None → steps_done A c ≤ length (steps_of A c)
    → one_more (does_step c act) (steps_done A c) ≤ length (steps_of (record { command = record { key = key; act = act }; reply = answer } ∷ A) c)
below_after A (Plan number facility day script) answer key c f ih = grind (arith, new_planned A number facility day script c f)
below_after A act answer key c f ih = one_below (does_step c act) (steps_done A c) (steps_of A c) (next-there A act c f) ih

-- no more steps are done than the script has
pub done-below : (A : History) → IsRegister A → (c : ℕ) → steps_done A c ≤ length (steps_of A c)
done-below [] h c = omega arith
done-below (entry ∷ A) h c =
    let t = took A entry h.0 in
    rw (done-after A entry c) (below_after A entry.command.act entry.reply entry.command.key c t.no_fault (done-below A h.1 c))

-- a script has at most 400 steps
few_script : (script : List ℕ) → length (result_unwrap_or (script_of script) []) ≤ 400
few_script script = grind (arith, script_has_steps)

few_after : (act : Act) (c : ℕ) (plan : Option Planned) → length (unwrap_or (option_map (λ plan. plan.steps) plan) []) ≤ 400
    → length (unwrap_or (option_map (λ plan. plan.steps) (option_or (planned_as c act) plan)) []) ≤ 400
few_after act c plan ih = grind (arith, few_script)

-- a ceremony has at most 400 steps
pub few-steps : (A : History) (c : ℕ) → length (steps_of A c) ≤ 400
few-steps [] c = omega arith
few-steps (entry ∷ A) c = few_after entry.command.act c (plan_of A c) (few-steps A c)

-- THE KEYS OF STEPS

own-keys : (c i : ℕ) (ss : List Step) → filter (λ key. key.0 == c) (numbered c i ss) ≡ numbered c i ss
own-keys c i [] = refl
own-keys c i (s ∷ ss) = rw (eq-eqb c c refl) (ap (λ keys. (c, suc i) ∷ keys) (own-keys c (suc i) ss))

other-keys : (c d i : ℕ) (ss : List Step) → (d == c) ≡ false → filter (λ key. key.0 == c) (numbered d i ss) ≡ []
other-keys c d i [] e = refl
other-keys c d i (s ∷ ss) e = rw e (other-keys c d (suc i) ss e)

-- the keys of a ceremony's steps in the table are those of its script
keys-stacked : (A : History) → IsRegister A → (c : ℕ) → filter (λ key. key.0 == c) (step_keys A) ≡ pushed_onto (numbered c 0 (steps_of A c)) []
keys-stacked [] h c = refl
keys-stacked (entry ∷ A) h c = grind (arith, took, filter-pushed, other-keys, own-keys, new_planned, keys-stacked A h.1 c)

keys-order : (A : History) → IsRegister A → (c : ℕ) → IsPermutation (filter (λ key. key.0 == c) (step_keys A)) (numbered c 0 (steps_of A c))
keys-order A h c = grind (arith, keys-stacked, IsPermutation-sym, pushed-alone)

keys-any : (A : History) → IsRegister A → (c : ℕ) (g : ℕ → Bool)
    → list_any (λ key. key.0 == c && g key.1) (step_keys A) ≡ list_any (λ key. g key.1) (numbered c 0 (steps_of A c))
keys-any A h c g =
    sym (RoomLists.any-filter (λ key. key.0 == c) (λ key. g key.1) (step_keys A))
    ∙ list_any-IsPermutation (λ key. g key.1) (filter (λ key. key.0 == c) (step_keys A)) (numbered c 0 (steps_of A c)) (keys-order A h c)

-- no step of a ceremony that was not planned has a key
pub keys-planned : (A : History) → IsRegister A → (c : ℕ) → is_ceremony A c ≡ false → list_any (λ key. key.0 == c) (step_keys A) ≡ false
keys-planned A h c e =
    any-same (λ key. key.0 == c) (λ key. key.0 == c && true) (step_keys A) (λ key. grind arith) ∙ keys-any A h c (λ k. true)
    ∙ ap (λ ss. list_any (λ key. true) (numbered c 0 ss)) (no_steps A c e)

none_zero : (c i : ℕ) (ss : List Step) → list_any (λ key. key.1 == 0) (numbered c i ss) ≡ false
none_zero c i [] = refl
none_zero c i (s ∷ ss) = rw (ne_eqb (suc i) 0 (λ e. omega (arith, e))) (none_zero c (suc i) ss)

numbered-from : (c i j m : ℕ) (ss : List Step) → m ≡ suc i + j → list_any (λ key. key.1 == m) (numbered c i ss) ≡ is_some (slice_get ss j)
numbered-from c i j m [] e = refl
numbered-from c i zero m (s ∷ ss) e = rw (eq-eqb (suc i) m (omega (arith, e))) refl
numbered-from c i (suc j) m (s ∷ ss) e = rw (ne_eqb (suc i) m (λ q. omega (arith, e, q))) (numbered-from c (suc i) j m ss (omega (arith, e)))

-- the table has a row of step k if and only if it is a step of the script
pub has-step : (A : History) → IsRegister A → (c k : ℕ) → list_any (λ key. key.0 == c && key.1 == k) (step_keys A) ≡ is_some (step_at (steps_of A c) k)
has-step A h c zero = keys-any A h c (λ j. j == zero) ∙ none_zero c 0 (steps_of A c)
has-step A h c (suc j) = keys-any A h c (λ i. i == suc j) ∙ numbered-from c 0 j (suc j) (steps_of A c) (omega arith)

-- EXCEPTIONS

stated-exceptions : (A : History) → IsRegister A → (c : ℕ) → exception_count_by (exceptions A) c ≡ exceptions_of A c
stated-exceptions [] h c = refl
stated-exceptions (entry ∷ A) h c = grind (arith, took, count-cons, one_more, stated-exceptions A h.1 c)

-- THE ROWS THAT A VIEW SHOWS

-- the row of a step, if it is one of the script
pub step-shown : (A : History) → IsRegister A → (c k : ℕ) (rows : List StepRow) → Shown (is_step_at c k) (steps A) rows
    → step_by rows c k ≡ some_if (is_some (step_at (steps_of A c) k)) (step_row A (c, k))
step-shown A h c k rows p =
    find-view (is_step_at c k) (is_step_at c k) (step_row A) (step_row A (c, k)) (λ x e. e)
    (λ key e. let q = and_parts (key.0 == c) (key.1 == k) e in ap (λ a. step_row A (a, key.1)) (eqb-true key.0 c q.0)
    ∙ ap (λ b. step_row A (c, b)) (eqb-true key.1 k q.1))
    (step_keys A) rows p
    ∙ ap (λ b. some_if b (step_row A (c, k))) (has-step A h c k)

-- it is there if and only if it is one
pub any_step-shown : (A : History) → IsRegister A → (c k : ℕ) (rows : List StepRow) → Shown (is_step_at c k) (steps A) rows
    → list_any (is_step_at c k) rows ≡ is_some (step_at (steps_of A c) k)
any_step-shown A h c k rows p =
    any-shown (is_step_at c k) (is_step_at c k) (λ x e. e) (steps A) rows p ∙ any-map (is_step_at c k) (step_row A) (step_keys A) ∙ has-step A h c k

-- how many exceptions are stated
pub stated-shown : (A : History) → IsRegister A → (c : ℕ) (rows : List ExceptionRow) → Shown (is_exception_of c) (exceptions A) rows
    → exception_count_by rows c ≡ exceptions_of A c
stated-shown A h c rows p = count-view (is_exception_of c) (is_exception_of c) (λ x e. e) (exceptions A) rows p ∙ stated-exceptions A h c

-- THE ROW OF A STEP THAT IS DONE

-- an act does step k of c, and leaves scripts as they are: putting the step's row gives the steps after it
module _ (A : History) (h : IsRegister A) (entry : Entry) (c k at : ℕ) (state : StepState)
    (fate_now : (d j : ℕ) → step_result (entry ∷ A) d j ≡ option_or (cond (c == d && k == j) (Some (state, at)) None) (step_result A d j))
    (steps_same : (d : ℕ) → steps_of (entry ∷ A) d ≡ steps_of A d)
    (keys_same : step_keys (entry ∷ A) ≡ step_keys A)
    (inside : is_some (step_at (steps_of A c) k) ≡ true) where
  -- the step's row put with what became of it gives the rows of steps after the act
  pub put-step : put same_step (record (step_row A (c, k)) { state = state; at = Some at }) (steps A) ≡ steps (entry ∷ A)
  put-step =
      put-at same_step (step_row A) (step_row (entry ∷ A)) (record (step_row A (c, k)) { state = state; at = Some at })
      (λ s e. grind (arith, fate_now, steps_same)) (λ s e. grind (arith, fate_now, steps_same)) (step_keys A) (has-step A h c k ∙ inside)
      ∙ ap (map (step_row (entry ∷ A))) (sym keys_same)

-- SEATS

-- the row is of that seat of the step
abbrev is_seat_of : ℕ → ℕ → ℕ → SeatingRow → Bool
is_seat_of c k j row = row.ceremony == c && row.step == k && row.seat == j

-- the rows of new seats are pushed one after the other onto the seatings
pub put-seats : (c k i : ℕ) (people : List (List ℕ)) (t : Tables) → ((j : ℕ) → i < j → list_any (is_seat_of c k j) t.seatings ≡ false)
    → all_changed (map PutSeating (seat_rows c k i people)) t ≡ record t { seatings = pushed_onto (seat_rows c k i people) t.seatings }
put-seats c k i [] t fresh = refl
put-seats c k i (who ∷ people) t fresh =
    let row : SeatingRow = record { ceremony = c; step = k; seat = suc i; who = who } in
    ap (λ rows. all_changed (map PutSeating (seat_rows c k (suc i) people)) (record t { seatings = rows }))
    (put-new same_seating row t.seatings (fresh (suc i) (omega arith)))
    ∙ put-seats c k (suc i) people (record t { seatings = row ∷ t.seatings }) (λ j l. grind (arith, fresh j))

foreign-seats : (c k d s i j : ℕ) (people : List (List ℕ)) → (d == c && s == k) ≡ false → list_any (is_seat_of c k j) (seat_rows d s i people) ≡ false
foreign-seats c k d s i j [] e = refl
foreign-seats c k d s i j (who ∷ people) e = rw e (foreign-seats c k d s (suc i) j people e)

-- of a step that is not done yet no seats are recorded
pub fresh-seats : (A : History) → IsRegister A → (c k j : ℕ) → steps_done A c < k → list_any (is_seat_of c k j) (seatings A) ≡ false
fresh-seats [] h c k j l = refl
fresh-seats (entry ∷ A) h c k j l =
    let t = took A entry h.0 in
    let l2 : one_more (does_step c entry.command.act) (steps_done A c) < k = rw (done-after A entry c) at l in
    any-pushed (is_seat_of c k j) (seating_rows (ceremony_of_step entry.command.act) entry.reply.step entry.reply.seating) (seatings A)
    ∙ or_from _ _ (rw t.reply (by_act entry.command.act t.people t.no_fault l2)) (fresh-seats A h.1 c k j (grind arith))
  where
    rows_of : (d s : ℕ) (people : Option (List (List ℕ))) → (d == c && s == k) ≡ false
        → list_any (is_seat_of c k j) (seating_rows (Some d) (Some s) people) ≡ false
    rows_of d s None e = refl
    rows_of d s (Some people) e = foreign-seats c k d s 0 j people e

    other : (d s : ℕ) → s ≡ suc (steps_done A d) → one_more (d == c) (steps_done A c) < k → (d == c && s == k) ≡ false
    other d s q l = let same : (d == c) ≡ true → steps_done A d ≡ steps_done A c = λ e. ap (steps_done A) (eqb-true d c e) in grind arith

    by_act : (act : Act) (people : Option (List (List ℕ))) → fault A act ≡ None → one_more (does_step c act) (steps_done A c) < k
        → list_any (is_seat_of c k j) (seating_rows (ceremony_of_step act) (reply_to A act people).step (reply_to A act people).seating) ≡ false
    by_act act people f l = search (rules, rows_of, other, next_signed)

-- EXCEPTIONS

-- the row is of the ceremony's exception with that number
abbrev is_numbered : ℕ → ℕ → ExceptionRow → Bool
is_numbered c j row = row.ceremony == c && row.exception == j

-- no exception has a higher number than the ceremony has exceptions
pub fresh-exception : (A : History) → IsRegister A → (c j : ℕ) → exceptions_of A c < j → list_any (is_numbered c j) (exceptions A) ≡ false
fresh-exception [] h c j l = refl
fresh-exception (entry ∷ A) h c j l =
    let t = took A entry h.0 in
    let l2 : one_more (is_exception c entry.command.act) (exceptions_of A c) < j = rw (count-cons (λ entry. is_exception c entry.command.act) entry A) at l in
    by_act entry.command.act entry.reply t.people t.reply l2 (fresh-exception A h.1 c j)
  where
    by_act : (act : Act) (answer : ReplyData) (people : Option (List (List ℕ))) → answer ≡ reply_to A act people
        → one_more (is_exception c act) (exceptions_of A c) < j → (exceptions_of A c < j → list_any (is_numbered c j) (exceptions A) ≡ false)
        → list_any (is_numbered c j) (exceptions (record { command = record { key = entry.command.key; act = act }; reply = answer } ∷ A)) ≡ false
    by_act (Ceremony d at (RecordException text true)) answer people e l ih = rw e (grind arith)
    by_act (Ceremony d at (RecordException text false)) answer people e l ih = rw e (grind arith)
    by_act act answer people e l ih = ih l

-- The last step of a ceremony that has a seating is the last that is done: so it tells how many are.
use Rattle.kcr_machine.proofs.Common.{◌≡◌, ℕ, zero, suc, ◌≤◌, Bool, true, false, List, [], ◌∷◌, filter, max, length, Option, Some, None, is_some}
use Rattle.kcr_machine.proofs.Common.{Result, Ok, Err, refl, ap, ◌∙◌, arith, slice_get, unwrap_or, AllByRecursion, list_any, result_unwrap_or}
use Rattle.kcr_machine.proofs.Common.{false≢true, eqb-true, eq-eqb, cases_Bool, recursion_from_All, option_or, script_of, Seat, Step, HasForm}
use Rattle.kcr_machine.proofs.Common.{steps_have_form, Act, Ceremony, Sign, RecordException, ReplyData, SeatingRow, StepFilter, View, History}
use Rattle.kcr_machine.proofs.Common.{pushed_onto, Planned, planned_as, plan_of, steps_of, step_at, does_step, steps_done, next_step, fault}
use Rattle.kcr_machine.proofs.Common.{IsRegister, IsReplyTo, CanFollow, seat_request, is_seating, steps, seatings, seat_rows, seating_rows, seats_at}
use Rattle.kcr_machine.proofs.Common.{ceremony_of_step, IncludesStep, is_seating_of, is_step_at, last_seated, filter-pushed, staff, one_more}
use Rattle.kcr_machine.proofs.Common.{next_signed, done-after}
use Rattle.std.specs.Prelude.{◌==◌, nat_lt, option_map}
use Rattle.kcr_history.proofs.Tops.{top, top-more}
use Rattle.kcr_laws.proofs.Accepted.{entry_from, each_register}
use Rattle.kcr_machine.proofs.StepRows.{any_step-shown, done-below, few-steps, sign-there}

-- THE SEATS OF A STEP

form_script : (script : List ℕ) → AllByRecursion HasForm (result_unwrap_or (script_of script) [])
form_script script = by_result (script_of script) refl
  where
    by_result : (r : Result (List Step) ℕ) → script_of script ≡ r → AllByRecursion HasForm (result_unwrap_or r [])
    by_result (Ok steps) e = recursion_from_All HasForm steps (steps_have_form script steps e)
    by_result (Err row) e = tt

form_after : (act : Act) (c : ℕ) (plan : Option Planned) → AllByRecursion HasForm (unwrap_or (option_map (λ plan. plan.steps) plan) [])
    → AllByRecursion HasForm (unwrap_or (option_map (λ plan. plan.steps) (option_or (planned_as c act) plan)) [])
form_after act c plan ih = grind (arith, cases_Bool, form_script)

-- each step that was planned has the form of one of a script
each_form : (A : History) (c : ℕ) → AllByRecursion HasForm (steps_of A c)
each_form [] c = tt
each_form (entry ∷ A) c = form_after entry.command.act c (plan_of A c) (each_form A c)

some_seats : (steps : List Step) (k : ℕ) → AllByRecursion HasForm steps → is_some (step_at steps k) ≡ true → 1 ≤ length (seats_at steps k)
some_seats steps zero all e = absurd (false≢true e)
some_seats [] (suc k) all e = absurd (false≢true e)
some_seats (step ∷ steps) (suc zero) all e = all.0.1.some_seat
some_seats (step ∷ steps) (suc (suc k)) all e = some_seats steps (suc k) all.1 e

-- people fill seats, of which there are some
some_people : (A : History) (c t : ℕ) (seats : List Seat) (people : List (List ℕ)) → is_seating A c t seats people ≡ true → 1 ≤ length seats
    → 1 ≤ length people
some_people A c t [] people h l = absurd (omega (arith, l))
some_people A c t (seat ∷ seats) [] h l = absurd (false≢true h)
some_people A c t (seat ∷ seats) (who ∷ people) h l = omega arith

-- THE GREATEST NUMBER OF A STEP

top-stacked : (front rows : List SeatingRow) → top (pushed_onto front rows) ≡ max (top front) (top rows)
top-stacked [] rows = omega arith
top-stacked (x ∷ front) rows = omega (arith, top-stacked front (x ∷ rows), top-more x rows, top-more x front)

top-seats : (c k i : ℕ) (people : List (List ℕ)) → 1 ≤ length people → top (seat_rows c k i people) ≡ k
top-seats c k i [] l = absurd (omega (arith, l))
top-seats c k i (who ∷ []) l = omega arith
top-seats c k i (who ∷ other ∷ people) l = grind (arith, top-more, top-seats c k (suc i) (other ∷ people) (omega arith))

own-seats : (c k i : ℕ) (people : List (List ℕ)) → filter (is_seating_of c) (seat_rows c k i people) ≡ seat_rows c k i people
own-seats c k i [] = refl
own-seats c k i (who ∷ people) = grind (arith, eq-eqb, own-seats c k (suc i) people)

other-seats : (c d k i : ℕ) (people : List (List ℕ)) → (d == c) ≡ false → filter (is_seating_of c) (seat_rows d k i people) ≡ []
other-seats c d k i [] e = refl
other-seats c d k i (who ∷ people) e = rw e (other-seats c d k (suc i) people e)

-- people are seated at the next step of a ceremony, if m tells whether that is this one
seated-after : (c d k n : ℕ) (m : Bool) (people : List (List ℕ)) (rows : List SeatingRow) → m ≡ (d == c) → 1 ≤ length people
    → ((d == c) ≡ true → k ≡ suc n) → last_seated rows c ≡ n → last_seated (pushed_onto (seat_rows d k 0 people) rows) c ≡ one_more m n
seated-after c d k n m people rows g some next ih =
    grind (arith, top, filter-pushed, top-stacked, cases_Bool, eqb-true, own-seats, top-seats, other-seats)

-- BY THE HISTORY

next-of : (A : History) (d c k : ℕ) → k ≡ suc (steps_done A d) → (d == c) ≡ true → k ≡ suc (steps_done A c)
next-of A d c k e q = e ∙ ap (λ z. suc (steps_done A z)) (eqb-true d c q)

by_act : (A : History) (act : Act) (answer : ReplyData) (c : ℕ) → fault A act ≡ None
    → IsReplyTo A act answer (seat_request A act) → last_seated (seatings A) c ≡ steps_done A c
    → last_seated (pushed_onto (seating_rows (ceremony_of_step act) answer.step answer.seating) (seatings A)) c ≡ one_more (does_step c act) (steps_done A c)
by_act A (Ceremony d at (Sign k)) answer c f (people, seated, e) ih =
    rw e (seated-after c d k (steps_done A c) (d == c) people (seatings A) refl
    (some_people A d at (seats_at (steps_of A d) k) people seated (some_seats (steps_of A d) k (each_form A d) (sign-there A d k at f)))
    (next-of A d c k (next_signed A d k at f)) ih)
by_act A (Ceremony d at (RecordException text true)) answer c f (people, seated, e) ih =
    let two : 1 ≤ length staff = omega arith in
    rw e (seated-after c d (next_step A d) (steps_done A c) (does_step c (Ceremony d at (RecordException text true))) people (seatings A) (grind arith)
    (some_people A d at staff people seated two) (next-of A d c (next_step A d) refl) ih)
by_act A (Ceremony d at (RecordException text false)) answer c f e ih = rw e (ih ∙ grind arith)
by_act A act answer c f e ih = ih

-- the last step that has a seating is as many steps as are done
pub last-seated : (A : History) → IsRegister A → (c : ℕ) → last_seated (seatings A) c ≡ steps_done A c
last-seated A h c = each_register (λ A. last_seated (seatings A) c ≡ steps_done A c) refl step A h
  where
    step : (A : History) (key : List ℕ) (act : Act) (answer : ReplyData) → IsRegister A → CanFollow A (entry_from key act answer)
        → last_seated (seatings A) c ≡ steps_done A c → last_seated (seatings (entry_from key act answer ∷ A)) c ≡ steps_done (entry_from key act answer ∷ A) c
    step A key act answer h a ih = grind (arith, by_act, done-after, entry_from)

-- THE ROWS THAT A VIEW SHOWS

-- as many steps are done as the seatings of the view tell
pub done-shown : (A : History) → IsRegister A → (asked : StepFilter) (view : View)
    → IncludesStep (Some asked) (seatings A) view.seatings.items (steps A) view.steps.items
    → last_seated view.seatings.items asked.ceremony ≡ steps_done A asked.ceremony
done-shown A h asked view v = v.last ∙ last-seated A h asked.ceremony

-- never more than a script has
pub not_overdone : (A : History) → IsRegister A → (asked : StepFilter) (view : View)
    → IncludesStep (Some asked) (seatings A) view.seatings.items (steps A) view.steps.items
    → nat_lt 400 (last_seated view.seatings.items asked.ceremony) ≡ false
not_overdone A h asked view v =
    let few = few-steps A asked.ceremony in let done = done-shown A h asked view v in let below = done-below A h asked.ceremony in grind arith

-- a step is left if not all are done
pub left-shown : (A : History) → IsRegister A → (c : ℕ) (view : View)
    → IncludesStep (Some (record { ceremony = c; step = None })) (seatings A) view.seatings.items (steps A) view.steps.items
    → list_any (is_step_at c (suc (last_seated view.seatings.items c))) view.steps.items ≡ nat_lt (steps_done A c) (length (steps_of A c))
left-shown A h c view v =
    let done = done-shown A h (record { ceremony = c; step = None }) view v in
    any_step-shown A h c (suc (last_seated view.seatings.items c)) view.steps.items v.step ∙ rw done (is_left (steps_of A c) (steps_done A c))
  where
    is_left : (ss : List Step) (n : ℕ) → is_some (slice_get ss n) ≡ nat_lt n (length ss)
    is_left [] n = grind arith
    is_left (s ∷ ss) zero = grind arith
    is_left (s ∷ ss) (suc n) = grind (arith, is_left ss n)

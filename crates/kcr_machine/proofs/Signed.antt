-- Signatures and exceptions: what the rows of a view say of them is what the history says, and their changes lead on.
use Rattle.kcr_machine.proofs.Common.{StepRow, ◌≡◌, ℕ, suc, ◌<◌, Bool, true, false, List, [], ◌∷◌, ◌++◌, map, Option, Some, None, is_none, refl, ap}
use Rattle.kcr_machine.proofs.Common.{◌∙◌, subst, arith, inl, inr, append_assoc, rules, slice_get, IsPermutation, ltb-true, day_of, put, Facility}
use Rattle.kcr_machine.proofs.Common.{Refusal, Short, lasts_beyond, Seat, Act, Ceremony, Sign, RecordException, Command, StepState, Change}
use Rattle.kcr_machine.proofs.Common.{PutSeating, PutKey, StepFilter, View, History, pushed_onto, facility_of, steps_of, step_at, steps_done}
use Rattle.kcr_machine.proofs.Common.{next_step, exceptions_of, present, fits, IsFirst, IsLeast, Tables, tables, marks, steps, step_row, seatings}
use Rattle.kcr_machine.proofs.Common.{seat_rows, seats_at, exceptions, trainings, withdrawals, appointments, all_changed, same_step, same_mark}
use Rattle.kcr_machine.proofs.Common.{same_exception, changed, IsViewOf, is_step_at, training_reaches, asks_of_act, SeatRequest, reply_to, IsRegister}
use Rattle.kcr_machine.proofs.Common.{seat_request, ceremony_by, facility_of_row, step_by, seats_by, next_step_by, on_seat, room_by, IsSeatedBy}
use Rattle.kcr_machine.proofs.Common.{IsUnseatedBy, staff, mark_change, seat_changes, exception_change, new_key_row, rooms, next_signed, fits-on}
use Rattle.kcr_machine.proofs.{Common.same_Some, Common.none-some, Seatings.first-of, Seatings.least-of}
use Rattle.std.specs.Prelude.{is_some}
use Rattle.kcr_history.specs.{declared.row_types.StepState.TheVariants.Signed, declared.row_types.StepState.TheVariants.Passed, Fitting.fits_by}
use Rattle.kcr_machine.proofs.InRoom.{present-shown, trained-lasting, holder-lasting}
use Rattle.kcr_machine.proofs.{Keyed.Shown, Keyed.put-new, LastSeated.done-shown, Scenes.facility-shown, Scenes.scene-shown, Scenes.told}
use Rattle.kcr_machine.proofs.Leads.{EarlyShown, SeatsLeadOn, changed-append, command_of, entry_as}
use Rattle.kcr_machine.proofs.StepRows.{fresh-exception, fresh-seats, pass-there, put-seats, put-step, sign-there, stated-shown, step-shown}

-- THE FIRST REFUSAL

-- whether the script has the step
no_step-shown : (A : History) → IsRegister A → (c k : ℕ) (view : View) → Shown (is_step_at c k) (steps A) view.steps.items
    → is_none (step_by view.steps.items c k) ≡ is_none (step_at (steps_of A c) k)
no_step-shown A h c k view p = grind (arith, step-shown A h c k view.steps.items p)

-- the step and the next one are asked for
abbrev named : ℕ → ℕ → StepFilter
named c k = record { ceremony = c; step = Some k }

abbrev pub the_next : ℕ → StepFilter
the_next c = record { ceremony = c; step = None }

-- a signature has the same early refusal by the rows read first as by the history
pub sign-early : (A : History) → IsRegister A → (c k at : ℕ) → EarlyShown A (Ceremony c at (Sign k))
sign-early A h c k at view v =
    let s = scene-shown A h c view v.ceremonies v.marks in
    rw (s.0, no_step-shown A h c k view v.steps.step, s.1, s.2, done-shown A h (named c k) view v.steps)

-- an exception has the same early refusal by the rows read first as by the history
pub except-early : (A : History) → IsRegister A → (c : ℕ) (text : List ℕ) (pass : Bool) (at : ℕ) → EarlyShown A (Ceremony c at (RecordException text pass))
except-early A h c text pass at view v =
    let s = scene-shown A h c view v.ceremonies v.marks in
    let none = no_step-shown A h c (next_step_by view.seatings.items c) view v.steps.step in
    rw (s.0, none, s.1, s.2, done-shown A h (the_next c) view v.steps, stated-shown A h c view.exceptions.items v.exceptions)

-- SEATS

-- the seats of the step's row are those of the script
pub seats-shown : (A : History) → IsRegister A → (c k : ℕ) (view : View) → Shown (is_step_at c k) (steps A) view.steps.items
    → is_some (step_at (steps_of A c) k) ≡ true
    → seats_by (step_by view.steps.items c k) ≡ seats_at (steps_of A c) k
seats-shown A h c k view p e = rw (step-shown A h c k view.steps.items p, e) refl

-- who fits a seat on the day of a sitting, by the trainings that last to it, all withdrawals and the appointments that last beyond it
abbrev by_view : History → View → SeatRequest → Seat → List ℕ → Bool
by_view A view s = fits_by view.trainings.items view.withdrawals.items view.appointments.items (facility_of A s.ceremony) (day_of s.at)

-- a person fits a seat by the rows of a view if and only if by the history
pub fits-shown : (A : History) → IsRegister A → (view : View) (day : ℕ) → Shown (training_reaches day) (trainings A) view.trainings.items
    → IsPermutation (withdrawals A) view.withdrawals.items → Shown (lasts_beyond day) (appointments A) view.appointments.items
    → (f : Facility) (o : Option Seat) (who : List ℕ)
    → on_seat (fits_by view.trainings.items view.withdrawals.items view.appointments.items f day) o who ≡ on_seat (fits A f day) o who
fits-shown A h view day p q r f o who = grind (arith, fits-on, holder-lasting, trained-lasting)

-- of the seats of a passing exception trainings and withdrawals are enough
pub staff-shown : (A : History) → IsRegister A → (view : View) (day : ℕ) → Shown (training_reaches day) (trainings A) view.trainings.items
    → IsPermutation (withdrawals A) view.withdrawals.items
    → (f : Facility) (k : ℕ) (who : List ℕ)
    → on_seat (fits_by view.trainings.items view.withdrawals.items view.appointments.items f day) (slice_get staff k) who
    ≡ on_seat (fits A f day) (slice_get staff k) who
staff-shown A h view day p q f k who = grind (arith, trained-lasting)

-- what the seats of a sitting are filled by, the same by the rows of a view as by the history
pub record IsShown (A : History) (view : View) (s : SeatRequest) : Type 0 where
  pub facility : facility_of_row (ceremony_by view.ceremonies.items s.ceremony) ≡ facility_of A s.ceremony
  pub room : room_by view s ≡ present A s.ceremony s.at
  pub fit : (k : ℕ) (who : List ℕ)
      → on_seat (by_view A view s) (slice_get s.seats k) who ≡ on_seat (fits A (facility_of A s.ceremony) (day_of s.at)) (slice_get s.seats k) who

-- by any view of what an act asks for, the facility, the room and who fits a seat are as by the history
pub sitting-is : (A : History) → IsRegister A → (act : Act) (view : View) → IsViewOf (asks_of_act act) (tables A) view → (s : SeatRequest)
    → seat_request A act ≡ Some s → IsShown A view s
sitting-is A h (Ceremony c at (Sign k)) view v s e = rw (← same_Some _ s e) (search (rules, facility-shown, present-shown, fits-shown))
sitting-is A h (Ceremony c at (RecordException text true)) view v s e =
    rw (← same_Some _ s e) (search (rules, facility-shown, present-shown, staff-shown))
sitting-is A h (Ceremony c at (RecordException text false)) view v s e = absurd (none-some s e)
sitting-is A h act view v s e = absurd (none-some s e)

-- the people whom the search names are the first seating, and the seats that it names a least shortage
module _ (A : History) (h : IsRegister A) (view : View) (s : SeatRequest) (shown : IsShown A view s) where
  -- the people whom the search names are the first seating
  pub seated-first : (people : List (List ℕ)) → IsSeatedBy view s people → IsFirst A s.ceremony s.at s.seats people
  seated-first people g = grind (arith, shown.facility, shown.room, first-of A s.ceremony s.at (by_view A view s) s.seats shown.fit)

  -- if nobody is seated, the refusal names a least shortage
  pub unseated-least : (refusal : Refusal) → IsUnseatedBy view s refusal
      → (positions : List ℕ) × IsLeast A s.ceremony s.at s.seats positions × (refusal ≡ Short (map suc positions))
  unseated-least refusal (inl (positions, g, e)) = grind (arith, least-of)
  unseated-least refusal (inr (e, g)) = grind (arith, ltb-true, rooms)

-- CHANGES

abbrev done_row : History → ℕ → ℕ → ℕ → StepState → StepRow
done_row A c k at state = record (step_row A (c, k)) { state = state; at = Some at }

-- the tables with the row of a step that is done, its seats, and the mark
abbrev with_seats : History → ℕ → ℕ → ℕ → StepState → List (List ℕ) → Tables
with_seats A c k at state people =
    record (tables A) {
      steps = put same_step (done_row A c k at state) (steps A);
      seatings = pushed_onto (seat_rows c k 0 people) (seatings A);
      marks = put same_mark (record { ceremony = c; at = at }) (marks A);
    }

-- by the rows of the view the step's row is that one
seats-changed : (A : History) → IsRegister A → (view : View) → (c k at : ℕ) (state : StepState) (people : List (List ℕ))
    → Shown (is_step_at c k) (steps A) view.steps.items → is_some (step_at (steps_of A c) k) ≡ true → steps_done A c < k
    → (rest : List Change) → all_changed (seat_changes view state c k at people ++ rest) (tables A) ≡ all_changed rest (with_seats A c k at state people)
seats-changed A h view c k at state people p inside l rest =
    let t : Tables = record (tables A) { steps = put same_step (done_row A c k at state) (steps A) } in
    rw (step-shown A h c k view.steps.items p, inside)
    (changed-append (map PutSeating (seat_rows c k 0 people) ++ mark_change c at ∷ []) rest t
    ∙ ap (all_changed rest) (changed-append (map PutSeating (seat_rows c k 0 people)) (mark_change c at ∷ []) t)
    ∙ ap (λ t. all_changed rest (changed (mark_change c at) t)) (put-seats c k 0 people t (λ j m. fresh-seats A h c k j l)))

-- a signature
pub sign-leads : (A : History) → IsRegister A → (c k at : ℕ) (people : List (List ℕ)) → SeatsLeadOn A (Ceremony c at (Sign k)) (Some people)
sign-leads A h c k at people key view answer v absent f e =
    let x : Command = command_of key (Ceremony c at (Sign k)) in
    let inside = sign-there A c k at f in
    let s = put-step A h (entry_as key x.act answer) c k at Signed (λ d j. refl) (λ d. refl) refl inside in
    let r = told A key c at (Sign k) answer view v.ceremonies absent f refl refl in
    seats-changed A h view c k at Signed people v.steps.step inside (omega (arith, next_signed A c k at f)) (PutKey (new_key_row x answer) ∷ [])
    ∙ rw (r.2, s, r.1, e)

-- the row of an exception is put in front
put-exception : (A : History) → IsRegister A → (c : ℕ) (text : List ℕ) (at : ℕ) (passed : Option ℕ)
    → put same_exception (record { ceremony = c; exception = suc (exceptions_of A c); text = text; at = at; passed = passed }) (exceptions A)
    ≡ record { ceremony = c; exception = suc (exceptions_of A c); text = text; at = at; passed = passed } ∷ exceptions A
put-exception A h c text at passed = put-new same_exception _ (exceptions A) (fresh-exception A h c (suc (exceptions_of A c)) (omega arith))

-- an exception that passes a step
pub pass-leads : (A : History) → IsRegister A → (c : ℕ) (text : List ℕ) (at : ℕ) (people : List (List ℕ)) → SeatsLeadOn A (Ceremony c at (RecordException text true)) (Some people)
pass-leads A h c text at people key view answer v absent f e =
    let x : Command = command_of key (Ceremony c at (RecordException text true)) in
    let k = next_step A c in
    let inside = pass-there A c text at f in
    let tell = PutKey (new_key_row x answer) ∷ [] in
    let shown = subst (λ n. Shown (is_step_at c (suc n)) (steps A) view.steps.items) (done-shown A h (the_next c) view v.steps) v.steps.step in
    let s = put-step A h (entry_as key x.act (reply_to A x.act (Some people))) c k at Passed (λ d j. refl) (λ d. refl) refl inside in
    let r = told A key c at (RecordException text true) answer view v.ceremonies absent f refl refl in
    rw (done-shown A h (the_next c) view v.steps, append_assoc (seat_changes view Passed c k at people) (exception_change view c text at (Some k) ∷ []) tell)
    (seats-changed A h view c k at Passed people shown inside (omega arith) (exception_change view c text at (Some k) ∷ tell)
    ∙ rw (stated-shown A h c view.exceptions.items v.exceptions, put-exception A h c text at (Some k), r.2, r.1, e) (rw s refl))

-- an exception that passes no step
pub state-leads : (A : History) → IsRegister A → (c : ℕ) (text : List ℕ) (at : ℕ) → SeatsLeadOn A (Ceremony c at (RecordException text false)) None
state-leads A h c text at key view answer v absent f e =
    let s = told A key c at (RecordException text false) answer view v.ceremonies absent f refl refl in
    rw (stated-shown A h c view.exceptions.items v.exceptions, put-exception A h c text at None, s.2, s.1, e)

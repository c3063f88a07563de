-- The rows of the people of a step that was signed or passed: how they are filed, and that they fill its seats in whatever order they come.
use Rattle.kcr_audit.proofs.Common.{◌≡◌, ℕ, suc, Bool, true, false, cond, ◌&&◌, ◌==◌, List, [], ◌∷◌, Option, Some, None, refl, sym, ap, ◌∙◌, map}
use Rattle.kcr_audit.proofs.Common.{option_map, arith, rules, unwrap_or, list_all, list_any, cond_both, true≢false, and_parts, eqb-true, eq-eqb}
use Rattle.kcr_audit.proofs.Common.{not-false, none_holds, unmet, filter-order, Seat, Act, Ceremony, Sign, RecordException, SeatingRow, History}
use Rattle.kcr_audit.proofs.Common.{pushed_onto, is_ceremony, steps_of, steps_done, next_step, is_seating, step_done, step_result, seats_at, seatings}
use Rattle.kcr_audit.proofs.Common.{seat_rows, seating_rows, ceremony_of_step, step_row, steps, tables, SameTables, conditions, fault, is_seated}
use Rattle.kcr_audit.proofs.Common.{reply_to, seat_request, IsRegister, Took, took, no_ceremony, IsPermutation, list_any-IsPermutation}
use Rattle.kcr_audit.proofs.Common.{IsPermutation-trans, StepRow, FullView, IsTrueOf, has_valid_seating, ceremony_in, has_invalid_seating, tables_of}
use Rattle.std.proofs.Common.{filter}
use Rattle.kcr_base.specs.Rows.{option_or}
use Rattle.kcr_base.specs.declared.{place.Role.TheVariants.Ca, place.Role.TheVariants.Iw, refusal.Refusal.TheVariants.Unknown}
use Rattle.kcr_base.specs.declared.refusal.Thing.TheVariants as Things
use Rattle.kcr_script.specs.declared.seat.Seat.TheVariants.{Staff}
use Rattle.kcr_history.specs.declared.commands.{ReplyData.ReplyData, Entry.Entry}
use Rattle.kcr_history.specs.declared.row_types.StepState.{StepState, TheVariants.Signed, TheVariants.Passed, TheVariants.Undone}
use Rattle.kcr_history.proofs.Piled.{filter-pushed, pushed-alone}
use Rattle.kcr_laws.proofs.{Done.next_signed, Done.next-undone, Seated.seated}
use Rattle.kcr_history.specs.declared.views.Finding.TheVariants as Findings
use Rattle.kcr_history.specs.Prints.{seatings_at, seated_at, seats_filled}
use Rattle.kcr_audit.proofs.{Placed.seats-in-order, Placed.people-of-seats, Placed.seats-numbered, Fitting.ceremony-found, Fitting.seating-same}

abbrev pub is_of : ℕ → ℕ → SeatingRow → Bool
is_of c k row = row.ceremony == c && row.step == k

-- the seats that are filled if a step becomes so
abbrev pub seats_for : StepState → List Seat → List Seat
seats_for Passed seats = Staff Ca ∷ Staff Iw ∷ []
seats_for other seats = seats

-- ROWS

other-rows : (d s c k i : ℕ) (people : List (List ℕ)) → (d == c && s == k) ≡ false → filter (is_of c k) (seat_rows d s i people) ≡ []
other-rows d s c k i [] e = refl
other-rows d s c k i (who ∷ people) e = rw e (other-rows d s c k (suc i) people e)

own-rows : (c k i : ℕ) (people : List (List ℕ)) → filter (is_of c k) (seat_rows c k i people) ≡ seat_rows c k i people
own-rows c k i [] = refl
own-rows c k i (who ∷ people) = grind (arith, eq-eqb, own-rows c k (suc i) people)

-- the rows that a reply files
abbrev filed_by : Act → ReplyData → List SeatingRow
filed_by act reply = seating_rows (ceremony_of_step act) reply.step reply.seating

-- the people fill the seats of the step by the history, when it became so
abbrev pub Fill : History → ℕ → ℕ → StepState × ℕ → List (List ℕ) → Type 0
Fill A c k fate people = is_seating A c fate.1 (seats_for fate.0 (seats_at (steps_of A c) k)) people ≡ true

-- a command does the step: it files the people's rows, they are a seating by A, and the step is the next of its ceremony by B
record Does (A B : History) (c k : ℕ) (fate : StepState × ℕ) (rows : List SeatingRow) : Type 0 where
  people : List (List ℕ)
  filed : filter (is_of c k) rows ≡ seat_rows c k 0 people
  seated : Fill A c k fate people
  planned : is_ceremony B c ≡ true
  next : k ≡ suc (steps_done B c)

-- the reply's people are a seating by A for what the command signs or passes
abbrev IsSeated : History → Act → ReplyData → Type 0
IsSeated A act reply = is_seated A (seat_request A act) reply.seating ≡ true

-- what a command files of the step: no row if it does not do it, and the people's rows if it does and they are seated
abbrev Files : History → History → ℕ → ℕ → List SeatingRow → Type 0 → Option (StepState × ℕ) → Type 0
Files A B c k rows Seated None = filter (is_of c k) rows ≡ []
Files A B c k rows Seated (Some fate) = Seated → Does A B c k fate rows

is-planned : (B : History) (d : ℕ) → no_ceremony B d ≡ None → is_ceremony B d ≡ true
is-planned B d n = not-false (is_ceremony B d) (unmet _ (Unknown (Things.Ceremony d)) n)

module _ (A B : History) (c k : ℕ) where
  files_none : (b : Bool) (fate : StepState × ℕ) → Files A B c k [] (false ≡ true) (cond b (Some fate) None)
  files_none b fate = cond_both b (Some fate) None (Files A B c k [] (false ≡ true)) (λ e s. absurd (true≢false (sym s))) (λ e. refl)

  files_rows : (d step : ℕ) (fate : StepState × ℕ) (people : List (List ℕ)) → no_ceremony B d ≡ None → step ≡ suc (steps_done B d)
      → Files A B c k (seat_rows d step 0 people) (Fill A d step fate people) (cond (d == c && step == k) (Some fate) None)
  files_rows d step fate people n next = grind (arith, cond_both, and_parts, eqb-true, other-rows, own-rows, is-planned)

  files_to : (act : Act) (people : Option (List (List ℕ))) → fault B act ≡ None
      → Files A B c k (filed_by act (reply_to B act people)) (IsSeated A act (reply_to B act people)) (step_done c k act (reply_to B act people).step)
  files_to (Ceremony d at (Sign step)) None f = files_none (d == c && step == k) (Signed, at)
  files_to (Ceremony d at (Sign step)) (Some people) f = files_rows d step (Signed, at) people (none_holds (conditions B (Ceremony d at (Sign step))) f).0 (next_signed B d step at f)
  files_to (Ceremony d at (RecordException text true)) None f = files_none (d == c && next_step B d == k) (Passed, at)
  files_to (Ceremony d at (RecordException text true)) (Some people) f = files_rows d (next_step B d) (Passed, at) people
      (none_holds (conditions B (Ceremony d at (RecordException text true))) f).0 refl
  files_to act people f = refl

  files : (entry : Entry) → Took B entry
      → Files A B c k (filed_by entry.command.act entry.reply) (IsSeated A entry.command.act entry.reply) (step_done c k entry.command.act entry.reply.step)
  files entry t = grind (arith, files_to)

-- if none is told now or before, none was told before
or-none : {X : Type 0} (a b : Option X) → option_or a b ≡ None → (a ≡ None) × (b ≡ None)
or-none a b e = grind arith

-- of a step that is not done no row is filed
none-filed : (A B : History) → IsRegister B → (c k : ℕ) → step_result B c k ≡ None → filter (is_of c k) (seatings B) ≡ []
none-filed A [] h c k e = refl
none-filed A (entry ∷ B) h c k e =
    let n = or-none (step_done c k entry.command.act entry.reply.step) (step_result B c k) e in
    let mine = filed_by entry.command.act entry.reply in
    let none : filter (is_of c k) (filed_by entry.command.act entry.reply) ≡ [] = rw n.0 at (files A B c k entry (took B entry h.0)) in
    filter-pushed (is_of c k) mine (seatings B) ∙ ap (λ rows. pushed_onto rows (filter (is_of c k) (seatings B))) none ∙ none-filed A B h.1 c k n.1

-- the rows of a step that became so are those of people who are a seating by A, in a planned ceremony
pub record IsFiled (A B : History) (c k : ℕ) (fate : StepState × ℕ) : Type 0 where
  pub people : List (List ℕ)
  pub filed : filter (is_of c k) (seatings B) ≡ pushed_onto (seat_rows c k 0 people) []
  pub seated : Fill A c k fate people
  pub planned : is_ceremony B c ≡ true

still-planned : (c : ℕ) (entry : Entry) (B : History) → is_ceremony B c ≡ true → is_ceremony (entry ∷ B) c ≡ true
still-planned c entry B = grind arith

abbrev all_seated : History → History → Bool
all_seated A entries = list_all (λ entry. is_seated A (seat_request A entry.command.act) entry.reply.seating) entries

-- each step that is done is so filed, if each recorded seating is one by A
pub filed : (A B : History) → IsRegister B → all_seated A B ≡ true → (c k : ℕ) (fate : StepState × ℕ) → step_result B c k ≡ Some fate → IsFiled A B c k fate
filed A [] h s c k fate e = absurd (let f : None ≡ Some fate = e in cc)
filed A (entry ∷ B) h s c k fate e =
    by_done (step_done c k entry.command.act entry.reply.step) (files A B c k entry (took B entry h.0)) e (filed A B h.1 parts.1 c k fate)
  where
    mine : List SeatingRow
    mine = filed_by entry.command.act entry.reply

    parts : IsSeated A entry.command.act entry.reply × (all_seated A B ≡ true)
    parts = and_parts (is_seated A (seat_request A entry.command.act) entry.reply.seating) (all_seated A B) s

    stack : (front back : List SeatingRow) → filter (is_of c k) mine ≡ front → filter (is_of c k) (seatings B) ≡ back
        → filter (is_of c k) (seatings (entry ∷ B)) ≡ pushed_onto front back
    stack front back p q = filter-pushed (is_of c k) mine (seatings B) ∙ rw (p, q) refl

    by_done : (o : Option (StepState × ℕ)) → Files A B c k mine (IsSeated A entry.command.act entry.reply) o → option_or o (step_result B c k) ≡ Some fate
        → (step_result B c k ≡ Some fate → IsFiled A B c k fate) → IsFiled A (entry ∷ B) c k fate
    by_done None none g ih = let old = ih g in record {
      people = old.people;
      filed = stack [] (pushed_onto (seat_rows c k 0 old.people) []) none old.filed;
      seated = old.seated;
      planned = still-planned c entry B old.planned;
    }
    by_done (Some new) did g ih = search (rules, parts, stack, none-filed, next-undone, still-planned)

-- BY THE ROWS, IN WHATEVER ORDER

-- in whatever order they come, the rows of a step are those of its seats, and its people theirs
rows-placed : (table shown : List SeatingRow) → IsPermutation table shown → (c k : ℕ) (people : List (List ℕ))
    → filter (is_of c k) table ≡ pushed_onto (seat_rows c k 0 people) [] → seatings_at shown c k ≡ seat_rows c k 0 people
rows-placed table shown p c k people e =
    let own = seat_rows c k 0 people in
    seats-in-order c k 0 people (filter (is_of c k) shown)
    (IsPermutation-trans own (filter (is_of c k) table) (filter (is_of c k) shown) (rw e (pushed-alone own)) (filter-order (is_of c k) table shown p))

-- the row of a step with what became of it
abbrev row_with : History → ℕ × ℕ → Option (StepState × ℕ) → StepRow
row_with A key fate = record (step_row A key) { state = unwrap_or (option_map (λ said. said.0) fate) Undone; at = option_map (λ said. said.1) fate }

module _ (A : History) (h : IsRegister A) (view : FullView) (same : SameTables (tables A) (tables_of view)) where
  -- a step that is done is well seated, if its seats are those that its state asks for
  well : (key : ℕ × ℕ) (state : StepState) (at : ℕ) → step_result A key.0 key.1 ≡ Some (state, at)
      → seats_filled (row_with A key (Some (state, at))) ≡ seats_for state (seats_at (steps_of A key.0) key.1)
      → has_valid_seating view (row_with A key (Some (state, at))) (ceremony_in view key.0) (Some at) ≡ true
  well key state at e s =
      let as_filed = filed A A h (seated A h) key.0 key.1 (state, at) e in
      let rows = rows-placed (seatings A) view.view.seatings.items same.seatings key.0 key.1 as_filed.people as_filed.filed in
      let found = ceremony-found A view same.ceremonies key.0 as_filed.planned in
      let row = row_with A key (Some (state, at)) in
      let fit = seating-same A h view same key.0 at (seats_filled row) (seated_at view.view.seatings.items key.0 key.1) in
      grind (arith, s, as_filed.seated, seats-numbered key.0 key.1 0 as_filed.people, people-of-seats key.0 key.1 0 as_filed.people)

  none-ill : (c s : ℕ) (key : ℕ × ℕ) → has_invalid_seating view c s (step_row A key) ≡ false
  none-ill c s key = by_fate (step_result A key.0 key.1) refl
    where
      by_fate : (o : Option (StepState × ℕ)) → step_result A key.0 key.1 ≡ o → has_invalid_seating view c s (row_with A key o) ≡ false
      by_fate None e = grind arith
      by_fate (Some (Undone, at)) e = grind arith
      by_fate (Some (state, at)) e = let good = well key state at e refl in grind arith

  none-of-steps : (c s : ℕ) (keys : List (ℕ × ℕ)) → list_any (has_invalid_seating view c s) (map (step_row A) keys) ≡ false
  none-of-steps c s [] = refl
  none-of-steps c s (key ∷ keys) = rw (none-ill c s key, none-of-steps c s keys) refl

  -- no step of a register is ill seated
  pub no-seating : (c s : ℕ) → IsTrueOf view (Findings.Seating c s) → ⊥
  no-seating c s t =
      grind (arith, list_any-IsPermutation (has_invalid_seating view c s) (steps A) view.view.steps.items same.steps, none-of-steps c s)

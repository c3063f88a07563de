-- Planning, opening and closing: whether the rows let a ceremony be planned, opened or closed, and the rows of one that is.
use Rattle.kcr_machine.proofs.Common.{◌≡◌, ℕ, Bool, true, false, not, ◌&&◌, eqb, List, [], ◌∷◌, ◌++◌, map, Option, Some, None, refl, sym, ap, ◌∙◌}
use Rattle.kcr_machine.proofs.Common.{suc, ◌+◌, arith, ◌≤◌, add-one, rules, unwrap_or, slice_get, list_any, IsPermutation, true≢false, false≢true}
use Rattle.kcr_machine.proofs.Common.{eqb-true, eq-eqb, and_parts, ne_eqb, and_right, false_from_ne_true, and_left, list_any-IsPermutation, put}
use Rattle.kcr_machine.proofs.Common.{same_facility, Unknown, Taken, none_holds, unmet, met, filter-order, any-same, some_if, none-there, any-map}
use Rattle.kcr_machine.proofs.Common.{Plan, Ceremony, Open, Close, ReplyData, CeremonyRow, MarkRow, PutKey, PutStep, View, History, values_of_acts}
use Rattle.kcr_machine.proofs.Common.{entry_of, pushed_onto, is_ceremony, facility_of, opened_at, closed_at, is_ceremony_open, mark, opened_number}
use Rattle.kcr_machine.proofs.Common.{steps_of, planned_number, ceremony_row, ceremonies, mark_row, marks, tables, sealed_serial, bag_row, bags}
use Rattle.kcr_machine.proofs.Common.{numbered, step_keys, step_row, steps, step_result, Tables, same_ceremony, same_mark, all_changed, same_step}
use Rattle.kcr_machine.proofs.Common.{is_of_number, conditions, fault, IsRegister, with_command, took, no_ceremony, map-pushed, planned-number}
use Rattle.kcr_machine.proofs.Common.{ceremony_by, is_open_beside, lies_on_table, planned_row, planned_step_row, planned_step_rows, new_key_row}
use Rattle.kcr_machine.proofs.Common.{Facility, Bag, One, Two, Spot, Spent, is_on_table, Step, StepRow, spot, result_unwrap_or, script_of, Change}
use Rattle.kcr_machine.proofs.Common.{IsIn, map-same-in, none-in, none-passes}
use Rattle.std.specs.Prelude.{is_some}
use Rattle.kcr_base.specs.declared.refusal.Refusal.TheVariants as Refusals
use Rattle.kcr_base.specs.declared.refusal.Thing.TheVariants as Things
use Rattle.kcr_history.specs.declared.row_types.CeremonyState.TheVariants as States
use Rattle.kcr_machine.proofs.{BagsWords.open-shown, UsedRooms.used-shown, LastSeated.left-shown, StepRows.keys-planned}
use Rattle.kcr_machine.proofs.Keyed.{Shown, put-at, put-first, put-new}
use Rattle.kcr_machine.proofs.Leads.{EarlyShown, LateShown, Leads, command_of, entry_as, new_key}
use Rattle.kcr_machine.proofs.Scenes.{ceremony-shown, facility-shown, known-shown, mark-after, marked-opened, open-opened, open-state, opened-number}
use Rattle.kcr_machine.proofs.Scenes.{opened-planned, said-then, scene-shown, some-where, turned}

-- OPENING

-- the row of the ceremony, if all rows are shown
row-shown : (A : History) (c : ℕ) (rows : List CeremonyRow) → IsPermutation (ceremonies A) rows
    → ceremony_by rows c ≡ some_if (is_ceremony A c) (ceremony_row A c)
row-shown A c rows p = ceremony-shown A c rows (filter-order (is_of_number c) (ceremonies A) rows p)

-- whether another ceremony is open in its facility
busy-shown : (A : History) (c : ℕ) (rows : List CeremonyRow) → IsPermutation (ceremonies A) rows
    → list_any (is_open_beside (ceremony_row A c)) rows
    ≡ list_any (λ other. not (eqb other c) && same_facility (facility_of A other) (facility_of A c) && is_ceremony_open A other) (values_of_acts planned_number A)
busy-shown A c rows p =
    sym (list_any-IsPermutation (is_open_beside (ceremony_row A c)) (ceremonies A) rows p)
    ∙ any-map (is_open_beside (ceremony_row A c)) (ceremony_row A) (values_of_acts planned_number A)
    ∙ any-same (λ other. is_open_beside (ceremony_row A c) (ceremony_row A other))
    (λ other. not (eqb other c) && same_facility (facility_of A other) (facility_of A c) && is_ceremony_open A other)
    (values_of_acts planned_number A) (λ other. ap (λ b. not (eqb other c) && same_facility (facility_of A other) (facility_of A c) && b) (open-state A other))

-- an opening has the same late refusal by the rows of a view as by the history
pub open-late : (A : History) (c at : ℕ) → LateShown A (Ceremony c at Open)
open-late A c at view v =
    rw (row-shown A c view.ceremonies.items v.ceremonies) (grind (arith, busy-shown A c view.ceremonies.items v.ceremonies))

-- only a ceremony that was opened is closed
closed-opened : (A : History) → IsRegister A → (c : ℕ) → is_some (closed_at A c) ≡ true → is_some (opened_at A c) ≡ true
closed-opened [] h c e = absurd (false≢true e)
closed-opened (entry ∷ A) h c e =
    grind (arith, said-then, took, met, none_holds, eqb-true, some-where, open-opened, false≢true, closed-opened A h.1 c)

-- one that was never opened was never closed
never-closed : (A : History) → IsRegister A → (c : ℕ) → is_some (opened_at A c) ≡ false → closed_at A c ≡ None
never-closed A h c e = none-there (closed_at A c) (false_from_ne_true (is_some (closed_at A c)) (λ g. true≢false (sym (closed-opened A h c g) ∙ e)))

-- one row is put under its number, and the others stay
ceremony-put : (A B : History) (c : ℕ) (row : CeremonyRow) → row ≡ ceremony_row B c → ((k : ℕ) → eqb k c ≡ false → ceremony_row A k ≡ ceremony_row B k)
    → is_ceremony A c ≡ true
    → put same_ceremony row (ceremonies A) ≡ map (ceremony_row B) (values_of_acts planned_number A)
ceremony-put A B c row own other known =
    ap (λ row. put same_ceremony row (ceremonies A)) own
    ∙ put-at same_ceremony (ceremony_row A) (ceremony_row B) (ceremony_row B c) (λ k e. ap (ceremony_row B) (sym (eqb-true k c e))) other
    (values_of_acts planned_number A) (planned-number A c ∙ known)

-- the tables with one that is opened
module _ (A : History) (h : IsRegister A) (key : List ℕ) (answer : ReplyData) (c at : ℕ) (f : fault A (Ceremony c at Open) ≡ None) where
  abbrev opened_now : History
  opened_now = with_command A (command_of key (Ceremony c at Open)) answer

  known : is_ceremony A c ≡ true
  known = met (is_ceremony A c) (Unknown (Things.Ceremony c)) (none_holds (conditions A (Ceremony c at Open)) f).0

  fresh : is_some (opened_at A c) ≡ false
  fresh = unmet (is_some (opened_at A c)) Refusals.State (assumption (none_holds (conditions A (Ceremony c at Open)) f))

  abbrev open_row : CeremonyRow
  open_row = record (ceremony_row A c) { state = States.Open; opened = Some at }

  ceremonies-opened : put same_ceremony open_row (ceremonies A) ≡ ceremonies opened_now
  ceremonies-opened = ceremony-put A opened_now c open_row (rw (eq-eqb c c refl, never-closed A h c fresh) refl) (λ k e. rw (turned c k e) refl) known

  abbrev first_mark : MarkRow
  first_mark = record { ceremony = c; at = at }

  marks-first : put same_mark first_mark (marks A) ≡ marks opened_now
  marks-first =
      put-first same_mark (mark_row A) (mark_row opened_now) first_mark (λ k e. rw (mark-after A (entry_as key (Ceremony c at Open) answer) k, turned c k e) refl)
      (values_of_acts opened_number A) (opened-number A c ∙ fresh)
      ∙ ap (λ row. row ∷ map (mark_row opened_now) (values_of_acts opened_number A))
      (rw (mark-after A (entry_as key (Ceremony c at Open) answer) c, eq-eqb c c refl, none-there (mark A c) (marked-opened A h c ∙ fresh)))

  -- the changes of an opening lead to the tables of the history with it
  pub open-leads : (view : View) → IsPermutation (ceremonies A) view.ceremonies.items → entry_of A key ≡ None → Leads A view (command_of key (Ceremony c at Open)) answer
  open-leads view v k =
      rw (row-shown A c view.ceremonies.items v, known) (rw (ceremonies-opened, marks-first, new_key A (command_of key (Ceremony c at Open)) answer k) refl)

-- BAGS ON THE TABLE

spent : (facility : Facility) (o : Option Spot) → is_on_table facility (Some (unwrap_or o Spent)) ≡ is_on_table facility o
spent facility o = grind arith

table-shown : (A : History) (facility : Facility) (rows : List Bag) → IsPermutation (bags A) rows
    → list_any (lies_on_table facility) rows ≡ list_any (λ serial. is_on_table facility (spot A serial)) (values_of_acts sealed_serial A)
table-shown A facility rows p =
    sym (list_any-IsPermutation (lies_on_table facility) (bags A) rows p)
    ∙ any-map (lies_on_table facility) (bag_row A) (values_of_acts sealed_serial A)
    ∙ any-same (λ serial. lies_on_table facility (bag_row A serial)) (λ serial. is_on_table facility (spot A serial))
    (values_of_acts sealed_serial A) (λ serial. spent facility (spot A serial))

-- THE KIND

-- a closing has the same early refusal by the rows read first as by the history
pub close-early : (A : History) → IsRegister A → (c at : ℕ) → EarlyShown A (Ceremony c at Close)
close-early A h c at view v = let s = scene-shown A h c view v.ceremonies v.marks in rw (s.0, s.1, s.2)

-- a closing has the same late refusal by the rows of a view as by the history
pub close-late : (A : History) → IsRegister A → (c at : ℕ) → LateShown A (Ceremony c at Close)
close-late A h c at view v =
    rw (
      facility-shown A c view.ceremonies.items v.ceremonies,
      left-shown A h c view v.steps,
      used-shown A h c at view.stays.items v.stays.room v.stays.within,
      open-shown A view.safes.items v.safes (facility_of A c) One,
      open-shown A view.safes.items v.safes (facility_of A c) Two,
      table-shown A (facility_of A c) view.bags.items v.bags,
    ) refl

-- the tables with one that is closed
module _ (A : History) (key : List ℕ) (answer : ReplyData) (c at : ℕ) (f : fault A (Ceremony c at Close) ≡ None) where
  abbrev closed_now : History
  closed_now = with_command A (command_of key (Ceremony c at Close)) answer

  to_close : is_ceremony A c ≡ true
  to_close = met (is_ceremony A c) (Unknown (Things.Ceremony c)) (none_holds (conditions A (Ceremony c at Close)) f).0

  abbrev closed_row : CeremonyRow
  closed_row = record (ceremony_row A c) { state = States.Closed; closed = Some at }

  ceremonies-closed : put same_ceremony closed_row (ceremonies A) ≡ ceremonies closed_now
  ceremonies-closed = ceremony-put A closed_now c closed_row (rw (eq-eqb c c refl) refl) (λ k e. rw (turned c k e) refl) to_close

  -- the changes of a closing lead to the tables of the history with it
  pub close-leads : (view : View) → Shown (is_of_number c) (ceremonies A) view.ceremonies.items → entry_of A key ≡ None
      → Leads A view (command_of key (Ceremony c at Close)) answer
  close-leads view v k =
      rw (ceremony-shown A c view.ceremonies.items v, to_close) (rw (ceremonies-closed, new_key A (command_of key (Ceremony c at Close)) answer k) refl)

-- PLANNING

-- a plan has the same late refusal by the rows of a view as by the history
pub plan-late : (A : History) (number : ℕ) (facility : Facility) (day : ℕ) (script : List ℕ) → LateShown A (Plan number facility day script)
plan-late A number facility day script view v = rw (known-shown A number view.ceremonies.items v.ceremonies) refl

-- ROWS OF A CEREMONY THAT WAS NOT PLANNED

-- only steps of a planned ceremony are signed or passed
done-planned : (A : History) → IsRegister A → (c k : ℕ) → is_some (step_result A c k) ≡ true → is_ceremony A c ≡ true
done-planned [] h c k e = absurd (false≢true e)
done-planned (entry ∷ A) h c k e =
    search (rules, said-then, took, no_ceremony, eqb-true, and_parts, met, none_holds, some-where, false≢true, done-planned A h.1 c k)

-- what implies that a ceremony was planned is not so of one that was not
not-planned : {X : Type 0} (o : Option X) (b : Bool) → (is_some o ≡ true → b ≡ true) → b ≡ false → o ≡ None
not-planned o b imp e = grind arith

-- THE STEPS' ROWS

-- rows of steps that are all new are put in front, one planned_now the other
put-steps : (c i : ℕ) (ss : List Step) (rest : List Change) (t : Tables)
    → ((j : ℕ) → i ≤ j → list_any (λ row. eqb row.ceremony c && eqb row.step j) t.steps ≡ false)
    → all_changed (map PutStep (planned_step_rows c i ss) ++ rest) t ≡ all_changed rest (record t { steps = pushed_onto (planned_step_rows c i ss) t.steps })
put-steps c i [] rest t not_known = refl
put-steps c i (s ∷ ss) rest t not_known =
    let row : StepRow = planned_step_row c i s in
    ap (λ rows. all_changed (map PutStep (planned_step_rows c (i + 1) ss) ++ rest) (record t { steps = rows }))
    (put-new same_step row t.steps (not_known i (omega arith)))
    ∙ put-steps c (i + 1) ss rest (record t { steps = row ∷ t.steps })
    (λ j l. rw (and_right (eqb c c) (eqb i j) (ne_eqb i j (λ e. omega (arith, e, l))), not_known j (omega (arith, l))) refl)

-- the rows of a ceremony's steps, none of which was done
own-rows : (B : History) (c i : ℕ) (all ss : List Step) → steps_of B c ≡ all → ((k : ℕ) → step_result B c k ≡ None)
    → ((j : ℕ) → slice_get all (i + j) ≡ slice_get ss j)
    → map (step_row B) (numbered c i ss) ≡ planned_step_rows c (suc i) ss
own-rows B c i all [] e undone at = refl
own-rows B c i all (s ∷ ss) e undone at =
    let here : slice_get all i ≡ Some s = ap (slice_get all) (let z : i ≡ i + 0 = omega arith in z) ∙ at 0 in
    search (
      rules,
      add-one,
      own-rows B c (suc i) all ss e undone (λ j.
          ap (slice_get all) (let z : suc i + j ≡ i + suc j = omega arith in z) ∙ at (suc j)),
    )

-- the tables with one that is planned
module _ (A : History) (h : IsRegister A) (key : List ℕ) (answer : ReplyData) (c : ℕ) (facility : Facility) (day : ℕ) (script : List ℕ)
    (f : fault A (Plan c facility day script) ≡ None) where
  abbrev planned_now : History
  planned_now = with_command A (command_of key (Plan c facility day script)) answer

  abbrev its_steps : List Step
  its_steps = result_unwrap_or (script_of script) []

  not_known : is_ceremony A c ≡ false
  not_known = unmet (is_ceremony A c) Taken (none_holds (conditions A (Plan c facility day script)) f).0

  not_opened : opened_at A c ≡ None
  not_opened = not-planned (opened_at A c) (is_ceremony A c) (opened-planned A h c) not_known

  ceremonies-planned : put same_ceremony (planned_row c facility day) (ceremonies A) ≡ ceremonies planned_now
  ceremonies-planned =
      put-first same_ceremony (ceremony_row A) (ceremony_row planned_now) (planned_row c facility day) (λ k e. rw (turned c k e) refl)
      (values_of_acts planned_number A) (planned-number A c ∙ not_known)
      ∙ ap (λ row. row ∷ map (ceremony_row planned_now) (values_of_acts planned_number A))
      (rw (eq-eqb c c refl, never-closed A h c (ap is_some not_opened), not_opened))

  its_own : steps_of planned_now c ≡ its_steps
  its_own = rw (eq-eqb c c refl) refl

  -- no key of a step is one of these
  no_key : (k : ℕ × ℕ) → IsIn k (step_keys A) → eqb k.0 c ≡ false
  no_key k i = none-in (λ k. eqb k.0 c) k (step_keys A) (keys-planned A h c not_known) i

  steps-put : pushed_onto (planned_step_rows c 1 its_steps) (steps A) ≡ steps planned_now
  steps-put =
      sym (map-pushed (step_row planned_now) (numbered c 0 its_steps) (step_keys A)
      ∙ ap (λ rows. pushed_onto rows (map (step_row planned_now) (step_keys A))) (own-rows planned_now c 0 its_steps its_steps its_own
      (λ k. not-planned (step_result A c k) (is_ceremony A c) (done-planned A h c k) not_known)
      (λ j. ap (slice_get its_steps) (let z : 0 + j ≡ j = omega arith in z)))
      ∙ ap (λ rows. pushed_onto (planned_step_rows c 1 its_steps) rows)
      (sym (map-same-in (step_row A) (step_row planned_now) (step_keys A) (λ k i. rw (turned c k.0 (no_key k i)) refl))))

  new_steps : (j : ℕ) → list_any (λ row. eqb row.ceremony c && eqb row.step j) (steps A) ≡ false
  new_steps j = grind (arith, any-map, none-passes, and_left, no_key)

  -- the changes of a plan lead to the tables of the history with it
  pub plan-leads : (view : View) → entry_of A key ≡ None → Leads A view (command_of key (Plan c facility day script)) answer
  plan-leads view k =
      let rest : List Change = PutKey (new_key_row (command_of key (Plan c facility day script)) answer) ∷ [] in
      ap (λ rows. all_changed (map PutStep (planned_step_rows c 1 its_steps) ++ rest) (record (tables A) { ceremonies = rows })) ceremonies-planned
      ∙ put-steps c 1 its_steps rest (record (tables A) { ceremonies = ceremonies planned_now }) (λ j l. new_steps j)
      ∙ rw (steps-put, new_key A (command_of key (Plan c facility day script)) answer k) refl

-- What the rows of a view say of a ceremony is what the history says of it.
use Rattle.kcr_machine.proofs.Common.{◌≡◌, ℕ, Bool, true, false, cond, eqb, List, [], ◌∷◌, map, filter, Option, Some, None, refl, sym, ap, ◌∙◌, arith}
use Rattle.kcr_machine.proofs.Common.{rules, list_any, cons_option, true≢false, false≢true, eqb-true, and_left, false_from_ne_true, put, option_or}
use Rattle.kcr_machine.proofs.Common.{before_mark_refusal, State, none_holds, met, some_if, not_ready_refusal, Act, Ceremony, AddItem, Sign}
use Rattle.kcr_machine.proofs.Common.{RecordException, SetSafe, Seal, Take, Put, Cut, Open, ReplyData, Entry, CeremonyRow, MarkRow, View, History}
use Rattle.kcr_machine.proofs.Common.{values_of_acts, greatest, max_with, entry_of, is_ceremony, facility_of, opening_moment, opened_at}
use Rattle.kcr_machine.proofs.Common.{is_ceremony_open, marked_moment, mark, opened_number, planned_number, ceremony_row, ceremonies, mark_row, marks}
use Rattle.kcr_machine.proofs.Common.{keys, same_mark, same_key_row, is_of_number, is_mark_of, conditions, fault, IsRegister, took, none_ready, late}
use Rattle.kcr_machine.proofs.Common.{ceremony_status_at, planned-number, ceremony_by, facility_of_row, mark_by, new_key_row}
use Rattle.std.specs.Prelude.{is_some}
use Rattle.kcr_history.specs.declared.commands.Deed.{Deed}
use Rattle.kcr_rules.specs.CeremonyStatus.{is_open_row}
use Rattle.kcr_machine.proofs.Leads.{command_of, entry_as, new_key}
use Rattle.kcr_machine.proofs.Keyed.{Shown, find-view, put-at, said-view}

-- numbers that differ do so in either order
pub turned : (a b : ℕ) → eqb b a ≡ false → eqb a b ≡ false
turned a b h = grind arith

-- WHAT IS SAID ONLY OF WHAT WAS SAID BEFORE

-- what is said only after something else was said, by one more command as before it
pub said-then : {X Y : Type 0} (o p : Option X) (q r : Option Y) → (is_some o ≡ true → is_some r ≡ true) → (is_some p ≡ true → is_some r ≡ true)
    → is_some (option_or o p) ≡ true → is_some (option_or q r) ≡ true
said-then o p q r new old e = grind arith

-- a value under a condition is there only if the condition holds
pub some-where : {X : Type 0} (b : Bool) (x : X) → is_some (cond b (Some x) None) ≡ true → b ≡ true
some-where b x e = grind arith

-- THE CEREMONY

-- the row of the ceremony, if it was planned
pub ceremony-shown : (A : History) (c : ℕ) (rows : List CeremonyRow) → Shown (is_of_number c) (ceremonies A) rows
    → ceremony_by rows c ≡ some_if (is_ceremony A c) (ceremony_row A c)
ceremony-shown A c rows p =
    let found = find-view (is_of_number c) (is_of_number c) (ceremony_row A) (ceremony_row A c) (λ x e. e)
    (λ k e. ap (ceremony_row A) (eqb-true k c e)) (values_of_acts planned_number A) rows p in
    grind (arith, planned-number A c)

-- THE STATE

-- only a planned ceremony is opened
pub opened-planned : (A : History) → IsRegister A → (c : ℕ) → is_some (opened_at A c) ≡ true → is_ceremony A c ≡ true
opened-planned [] h c e = absurd (false≢true e)
opened-planned (entry ∷ A) h c e = grind (arith, said-then, took, eqb-true, some-where, met, none_holds, false≢true, opened-planned A h.1 c)

-- the state of a row tells whether the ceremony is open
pub open-state : (A : History) (c : ℕ) → is_open_row (Some (ceremony_row A c)) ≡ is_ceremony_open A c
open-state A c = grind arith

never-open : (A : History) → IsRegister A → (c : ℕ) → is_ceremony A c ≡ false → is_ceremony_open A c ≡ false
never-open A h c e = search (rules, and_left, false_from_ne_true, true≢false, opened-planned)

module _ (A : History) (c : ℕ) (rows : List CeremonyRow) (p : Shown (is_of_number c) (ceremonies A) rows) where
  -- whether there is such a ceremony
  pub known-shown : is_some (ceremony_by rows c) ≡ is_ceremony A c
  known-shown = grind (arith, ceremony-shown A c rows p)

  -- its facility
  pub facility-shown : facility_of_row (ceremony_by rows c) ≡ facility_of A c
  facility-shown = grind (arith, ceremony-shown A c rows p)

  -- whether it is open
  pub is_open-shown : IsRegister A → is_open_row (ceremony_by rows c) ≡ is_ceremony_open A c
  is_open-shown h = grind (arith, ceremony-shown A c rows p, open-state A c, never-open A h c)

-- MARKS

-- the mark with one more command
abbrev pub mark_with : Option (ℕ × ℕ) → ℕ → Option ℕ → Option ℕ
mark_with None c m = m
mark_with (Some new) c m = cond (eqb new.0 c) (Some (max_with new.1 m)) m

greatest_with : (o : Option (ℕ × ℕ)) (c : ℕ) (ms : List (ℕ × ℕ))
    → greatest (map (λ m. m.1) (filter (λ m. eqb m.0 c) (cons_option o ms))) ≡ mark_with o c (greatest (map (λ m. m.1) (filter (λ m. eqb m.0 c) ms)))
greatest_with o c ms = grind arith

-- a further command leaves the mark, or raises it to its moment if that is a marked one of the ceremony
pub mark-after : (A : History) (entry : Entry) (c : ℕ) → mark (entry ∷ A) c ≡ mark_with (marked_moment entry.command.act) c (mark A c)
mark-after A entry c = greatest_with (marked_moment entry.command.act) c (values_of_acts marked_moment A)

-- an act that is marked, but for an opening, is in an open ceremony and not before its mark
abbrev pub IsReady : History → Option (ℕ × ℕ) → Option ℕ → Type 0
IsReady A (Some new) None = (is_ceremony_open A new.0 ≡ true) × (late A new.0 new.1 ≡ None)
IsReady A m o = Unit {0}

-- so is an act of custody that found its ceremony ready
in_time : (A : History) (c at : ℕ) → not_ready_refusal (ceremony_status_at A c at) ≡ None → IsReady A (Some (c, at)) None
in_time A c at h = grind (arith, none_ready, met)

-- an act that is marked, but for an opening, is in an open ceremony and not before its mark, if nothing refuses it
pub ready : (A : History) (act : Act) → fault A act ≡ None → IsReady A (marked_moment act) (opened_number act)
ready A (Ceremony c at (Sign k)) f = let n = none_holds (conditions A (Ceremony c at (Sign k))) f in (met (is_ceremony_open A c) State (assumption n), assumption n)
ready A (Ceremony c at (RecordException text pass)) f = let n = none_holds (conditions A (Ceremony c at (RecordException text pass))) f in (met (is_ceremony_open A c) State (assumption n), assumption n)
ready A (Ceremony c at (AddItem item)) f = let n = none_holds (conditions A (Ceremony c at (AddItem item))) f in in_time A c at (assumption n)
ready A (Ceremony c at (SetSafe safe state by)) f = let n = none_holds (conditions A (Ceremony c at (SetSafe safe state by))) f in in_time A c at (assumption n)
ready A (Ceremony c at (Seal serial items)) f = let n = none_holds (conditions A (Ceremony c at (Seal serial items))) f in in_time A c at (assumption n)
ready A (Ceremony c at (Take serial)) f = let n = none_holds (conditions A (Ceremony c at (Take serial))) f in in_time A c at (assumption n)
ready A (Ceremony c at (Put serial to)) f = let n = none_holds (conditions A (Ceremony c at (Put serial to))) f in in_time A c at (assumption n)
ready A (Ceremony c at (Cut serial)) f = let n = none_holds (conditions A (Ceremony c at (Cut serial))) f in in_time A c at (assumption n)
ready A act f = tt

-- an open ceremony was opened
pub open-opened : (A : History) (c : ℕ) → is_ceremony_open A c ≡ true → is_some (opened_at A c) ≡ true
open-opened A c e = grind arith

-- a ceremony has a mark if it was opened
mark_stays : (A : History) (c : ℕ) (o : Option (ℕ × ℕ)) → IsReady A o None → is_some (mark A c) ≡ is_some (opened_at A c)
    → is_some (mark_with o c (mark A c)) ≡ is_some (opened_at A c)
mark_stays A c o r ih = grind arith

marked_opened_after : (A : History) (act : Act) (c : ℕ) → fault A act ≡ None → is_some (mark A c) ≡ is_some (opened_at A c)
    → is_some (mark_with (marked_moment act) c (mark A c)) ≡ is_some (option_or (opening_moment c act) (opened_at A c))
marked_opened_after A (Ceremony d at Open) c f ih = grind arith
marked_opened_after A act c f ih = mark_stays A c (marked_moment act) (ready A act f) ih

-- a ceremony of a register has a mark if and only if it was opened
pub marked-opened : (A : History) → IsRegister A → (c : ℕ) → is_some (mark A c) ≡ is_some (opened_at A c)
marked-opened [] h c = refl
marked-opened (entry ∷ A) h c = grind (arith, mark-after, marked_opened_after, took, marked-opened A h.1 c)

-- a ceremony has a row of marks if it was opened
opened_after : (act : Act) (c : ℕ) (numbers : List ℕ) (o : Option ℕ) → list_any (λ k. eqb k c) numbers ≡ is_some o
    → list_any (λ k. eqb k c) (cons_option (opened_number act) numbers) ≡ is_some (option_or (opening_moment c act) o)
opened_after act c numbers o ih = grind arith

-- a number is among those opened if and only if its ceremony was opened
pub opened-number : (A : History) (c : ℕ) → list_any (λ k. eqb k c) (values_of_acts opened_number A) ≡ is_some (opened_at A c)
opened-number [] c = refl
opened-number (entry ∷ A) c = opened_after entry.command.act c (values_of_acts opened_number A) (opened_at A c) (opened-number A c)

-- the mark of the ceremony
pub mark-shown : (A : History) → IsRegister A → (c : ℕ) (rows : List MarkRow) → Shown (is_mark_of c) (marks A) rows → mark_by rows c ≡ mark A c
mark-shown A h c rows p =
    said-view (is_mark_of c) (is_mark_of c) (mark_row A) (mark_row A c) (λ row. row.at) (mark A c) 0 (λ x e. e) (λ k e. ap (mark_row A) (eqb-true k c e))
    (values_of_acts opened_number A) rows p
    (opened-number A c ∙ sym (marked-opened A h c)) refl

-- THE MARK'S ROW IS PUT

-- not before the mark: the moment is the new mark
pub mark-now : (o : Option ℕ) (at : ℕ) → before_mark_refusal at o ≡ None → max_with at o ≡ at
mark-now o at h = grind arith

abbrev row_at : ℕ → ℕ → MarkRow
row_at c at = record { ceremony = c; at = at }

-- a marked act that is accepted, but for an opening: putting the mark's row gives the marks after it
pub marks-put : (A : History) (entry : Entry) (c at : ℕ) → fault A entry.command.act ≡ None → marked_moment entry.command.act ≡ Some (c, at)
    → opened_number entry.command.act ≡ None
    → put same_mark (record { ceremony = c; at = at }) (marks A) ≡ marks (entry ∷ A)
marks-put A entry c at f m o =
    let go : IsReady A (Some (c, at)) None = rw (m, o) at (ready A entry.command.act f) in
    put-at same_mark (mark_row A) (mark_row (entry ∷ A)) (row_at c at)
    (λ k e. let after = mark-after A entry k in grind (arith, mark-now (mark A c) at go.1))
    (λ k e. let after = mark-after A entry k in grind (arith, turned c k e))
    (values_of_acts opened_number A) (opened-number A c ∙ open-opened A c go.0)
    ∙ ap (λ n. map (mark_row (entry ∷ A)) (cons_option n (values_of_acts opened_number A))) (sym o)

-- of an act that is marked so and accepted: its facility by the rows, the mark's row that it puts, and the row of its key
pub told : (A : History) (key : List ℕ) (c at : ℕ) (deed : Deed) (answer : ReplyData) (view : View)
    → Shown (is_of_number c) (ceremonies A) view.ceremonies.items → entry_of A key ≡ None → fault A (Ceremony c at deed) ≡ None
    → marked_moment (Ceremony c at deed) ≡ Some (c, at) → opened_number (Ceremony c at deed) ≡ None
    → (facility_of_row (ceremony_by view.ceremonies.items c) ≡ facility_of A c)
    × (put same_mark (row_at c at) (marks A) ≡ marks (entry_as key (Ceremony c at deed) answer ∷ A))
    × (put same_key_row (new_key_row (command_of key (Ceremony c at deed)) answer) (keys A)
    ≡ new_key_row (command_of key (Ceremony c at deed)) answer ∷ keys A)
told A key c at deed answer view v k f m o =
    let act = Ceremony c at deed in
    (facility-shown A c view.ceremonies.items v, marks-put A (entry_as key act answer) c at f m o, new_key A (command_of key act) answer k)

-- THE STATUS

-- of the ceremony, whether it was planned, whether it is open, its mark and its facility
pub scene-shown : (A : History) → IsRegister A → (c : ℕ) (view : View) → Shown (is_of_number c) (ceremonies A) view.ceremonies.items
    → Shown (is_mark_of c) (marks A) view.marks.items
    → (is_some (ceremony_by view.ceremonies.items c) ≡ is_ceremony A c) × (is_open_row (ceremony_by view.ceremonies.items c) ≡ is_ceremony_open A c)
    × (mark_by view.marks.items c ≡ mark A c) × (facility_of_row (ceremony_by view.ceremonies.items c) ≡ facility_of A c)
scene-shown A h c view p q =
    let rows = view.ceremonies.items in
    (known-shown A c rows p, is_open-shown A c rows p h, mark-shown A h c view.marks.items q, facility-shown A c rows p)

-- The first refusal of a request of the sheet by the rows of a view is its fault by the history, and so the sheet of a register was made in turn.
use Rattle.kcr_machine.proofs.Common.{◌≡◌, ℕ, Bool, true, cond, not, ◌||◌, ◌==◌, nat_le, nat_lt, List, [], ◌∷◌, ◌++◌, map, reverse, Option, Some}
use Rattle.kcr_machine.proofs.Common.{None, refl, sym, ap, ◌∙◌, arith, count_by, IsPermutation, eqb-true, ltb-true, IsPermutation-reverse}
use Rattle.kcr_machine.proofs.Common.{sum_by-IsPermutation, when, first_of, not_after_mark_refusal, NoneHolds, none_holds, met, no_first, same_text}
use Rattle.kcr_machine.proofs.Common.{Refusal, State, Late, Full, Person, is_person_by, SheetRow, Stay, Way, enters, in_row_count_by, Followed}
use Rattle.kcr_machine.proofs.Common.{followed_rows, stay_from, next_of, stays_of, stays_by, is_out_of_turn_in, new_row, of_ceremony, stays_refusal}
use Rattle.kcr_machine.proofs.Common.{rows_refusal, stay_count, is_overfull_by, are_apart, IsSheet, IsNeverLoneOrCrowded, find-same-in, in-any, rooms}
use Rattle.kcr_machine.proofs.Common.{turns_keep, refusal-order, Act, Ceremony, RecordSheet, History, is_person, is_ceremony_open, mark, sheet}
use Rattle.kcr_machine.proofs.Common.{sheet_after, people, tables, View, IsViewOf, is_of_people, HasStayCount, ShowsLast, ShowsStaysOf, asks_of_act}
use Rattle.kcr_machine.proofs.Common.{stay_count_asked, by_history, early_conditions, late_conditions, fault, is_full, is_overfull, sheet_conditions}
use Rattle.kcr_machine.proofs.Common.{named_twice_refusal, IsRegister, took, not_later, is_person-people, late_refusal_by, room_refusal, IsIn}
use Rattle.kcr_room.specs.declared.Way.TheVariants as Ways
use Rattle.kcr_room.proofs.{Followed.followed-same, Lasting.later-lasting, Lists.count-cons, Refusals.same_refusal}
use Rattle.kcr_room.specs.Requests.{is_overfull as is_overfull_with}
use Rattle.kcr_machine.proofs.{Keyed.Shown, Keyed.any-shown, Leads.EarlyShown, Scenes.mark-shown, Scenes.marked-opened, Scenes.scene-shown}
use Rattle.kcr_laws.proofs.Crowding.{first, ever}
use Rattle.kcr_machine.proofs.SheetStays.{IsClear, clear-order, clear-sheet, last-in, last-shown, turn-last}

-- THE STAYS THAT A VIEW SHOWS OF A REQUEST

-- of a room in which nobody was ever alone, nor too many
pub settled : (A : History) → IsRegister A → (c : ℕ) → IsNeverLoneOrCrowded (stays_by (sheet A)) c
settled A h c = grind (arith, first, ever, rooms, eqb-true, ltb-true)

-- how many have come is asked only if more come
same-overfull : (table : List Stay) (c count : ℕ) (way : Way) (people : List (List ℕ)) → HasStayCount (stay_count_asked way c) table count
    → is_overfull_with count way people ≡ is_overfull_with (stay_count table c) way people
same-overfull table c count way people e = grind arith

-- by the stays that a view shows it is the turn of whoever has it by all
turn-shown : (table shown : List Stay) → IsClear table → (people : List (List ℕ)) → ShowsLast people table shown
    → ((r : Stay) → IsIn r shown → IsIn r table) → (c : ℕ) (way : Way) (at : ℕ) (who : List ℕ) → IsIn who people
    → is_out_of_turn_in shown c way at who ≡ is_out_of_turn_in table c way at who
turn-shown table shown clear people last within c way at who i =
    turn-last table shown who clear within (λ s e. last-in shown who s (last-shown table shown people last who i ∙ e)) c way at

-- so a request is refused by them for what it is refused for by all
shown-refusal : (table shown : List Stay) → IsClear table → (c m count : ℕ) (full_refusal : Bool) (way : Way) (people : List (List ℕ)) (at : ℕ)
    → ShowsStaysOf (record { ceremony = c; at = at; people = people }) table shown → HasStayCount (stay_count_asked way c) table count
    → stays_refusal shown count c m full_refusal way people at ≡ stays_refusal table (stay_count table c) c m full_refusal way people at
shown-refusal table shown clear c m count full_refusal way people at v e =
    rw (
      find-same-in (is_out_of_turn_in shown c way at) (is_out_of_turn_in table c way at) people
          (turn-shown table shown clear people v.last v.within c way at),
      later-lasting table shown c at v.room way people (full_refusal || is_overfull_with count way people),
      same-overfull table c count way people e,
    )
    refl

-- as many have come by the stays in another order
entries-order : (xs ys : List Stay) → IsPermutation xs ys → (c : ℕ) → stay_count ys c ≡ stay_count xs c
entries-order xs ys p c = sum_by-IsPermutation (λ s. cond (of_ceremony c s) 1 0) xs ys p

-- so by the rows of a view it is refused for what it is refused for by the sheet
request-refusal : (rows : List SheetRow) → IsSheet rows → (shown : List Stay) (c m count : ℕ) (full_refusal : Bool) (way : Way) (people : List (List ℕ)) (at : ℕ)
    → ShowsStaysOf (record { ceremony = c; at = at; people = people }) (reverse (stays_by rows)) shown
    → HasStayCount (stay_count_asked way c) (reverse (stays_by rows)) count → are_apart people ≡ true → IsNeverLoneOrCrowded (stays_by rows) c
    → stays_refusal shown count c m full_refusal way people at ≡ rows_refusal rows c m full_refusal way people at
request-refusal rows s shown c m count full_refusal way people at v e a still =
    let table : List Stay = reverse (stays_by rows) in
    let turned = IsPermutation-reverse (stays_by rows) in
    shown-refusal table shown (clear-order (stays_by rows) table turned (clear-sheet rows s)) c m count full_refusal way people at v e
    ∙ ap (λ n. stays_refusal table n c m full_refusal way people at) (entries-order (stays_by rows) table turned c)
    ∙ refusal-order (stays_by rows) table turned (stay_count (stays_by rows) c) c m full_refusal way people at
    ∙ same_refusal rows s c m full_refusal way people at a still

-- HOW MANY HAVE COME

entries-of : (c : ℕ) (all : List Followed) → count_by (of_ceremony c) (stays_of all) ≡ count_by (enters c) (map (λ followed. followed.row) all)
entries-of c [] = refl
entries-of c (followed ∷ all) =
    let row = followed.row in
    let one = count-cons (of_ceremony c) (stay_from row (next_of followed)) (stays_of all) (row.ceremony == c) refl in
    let both = count-cons (enters c) row (map (λ followed. followed.row) all) (enters c row) refl in
    grind (arith, one, both, entries-of c all)

entries-stays : (rows : List SheetRow) (c : ℕ) → stay_count (stays_by rows) c ≡ in_row_count_by rows c
entries-stays rows c = entries-of c (followed_rows rows) ∙ ap (count_by (enters c)) (followed-same [] rows)

overfull-stays : (rows : List SheetRow) (c : ℕ) (way : Way) → is_overfull_by (stays_by rows) c way ≡ is_overfull way rows c
overfull-stays rows c Ways.Enter = ap (nat_lt 1000) (entries-stays rows c)
overfull-stays rows c Ways.Leave = refl

-- THE CONDITIONS

-- the people are in the register by their rows if they are by the history
pub people-shown : (A : History) (rows : List Person) (all : List (List ℕ)) → Shown (is_of_people all) (people A) rows
    → (who : List ℕ) → IsIn who all → is_person_by rows who ≡ is_person A who
people-shown A rows all p who i =
    any-shown (λ row. same_text row.who who) (is_of_people all) (λ row h. in-any (same_text row.who) who all i h) (people A) rows p ∙ is_person-people A who

-- one after the other
flat : (l t c o : Option Refusal) (full_refusal over : Bool)
    → first_of (first_of (l ∷ t ∷ first_of (c ∷ o ∷ when (full_refusal || over) Full ∷ []) ∷ []) ∷ []) ≡ first_of (l ∷ t ∷ c ∷ o ∷ when over Full ∷ when full_refusal Full ∷ [])
flat l t c o full_refusal over = grind arith

-- whoever is named once is named apart
pub named_once : (people : List (List ℕ)) → named_twice_refusal people ≡ None → are_apart people ≡ true
named_once [] h = refl
named_once (who ∷ people) h = grind (arith, named_once people)

-- by the sheet's rows the conditions are the history's
rows-conditions : (A : History) (c m : ℕ) (way : Way) (all : List (List ℕ)) (at : ℕ)
    → first_of (rows_refusal (sheet A) c m (is_full A) way all at ∷ []) ≡ first_of (when (nat_le at m) (Late m) ∷ sheet_conditions A c way all at)
rows-conditions A c m way all at = grind (arith, overfull-stays, flat)

-- the same behind a mark that the request is later than, if nobody is named twice, and if somebody is
twice-first : (l n r : Option Refusal) (xs : List (Option Refusal)) → l ≡ None → (n ≡ None → first_of (r ∷ []) ≡ first_of (l ∷ xs))
    → first_of (n ∷ r ∷ []) ≡ first_of (n ∷ xs)
twice-first l n r xs later h = grind arith

-- a request of the sheet has the same early refusal by the rows read first as by the history
pub sheet-early : (A : History) → IsRegister A → (c : ℕ) (way : Way) (all : List (List ℕ)) (at : ℕ) → EarlyShown A (Ceremony c at (RecordSheet way all))
sheet-early A h c way all at view v =
    let s = scene-shown A h c view v.ceremonies v.marks in
    let same = find-same-in (λ who. not (is_person_by view.people.items who)) (λ who. not (is_person A who)) all
    (λ who i. ap not (people-shown A view.people.items all v.people who i)) in
    rw (s.0, same, s.1, s.2)

-- by the rows of a view a request is refused by its room as by the history, if it may be looked at
pub sheet-late : (A : History) → IsRegister A → IsSheet (sheet A) → (c : ℕ) (way : Way) (all : List (List ℕ)) (at : ℕ)
    → first_of (early_conditions (by_history A) (Ceremony c at (RecordSheet way all))) ≡ None
    → (view : View) → IsViewOf (asks_of_act (Ceremony c at (RecordSheet way all))) (tables A) view
    → late_refusal_by view (is_full A) (Ceremony c at (RecordSheet way all)) ≡ first_of (late_conditions (by_history A) (Ceremony c at (RecordSheet way all)))
sheet-late A h s c way all at cleared view v = rw (mark-shown A h c view.marks.items v.marks) (by_mark (mark A c) refl)
  where
    n : NoneHolds (early_conditions (by_history A) (Ceremony c at (RecordSheet way all)))
    n = none_holds (early_conditions (by_history A) (Ceremony c at (RecordSheet way all))) cleared

    by_mark : (o : Option ℕ) → mark A c ≡ o
        → first_of (named_twice_refusal all ∷ room_refusal view.stays.items view.stay_count (is_full A) o c way all at ∷ []) ≡ first_of (named_twice_refusal all ∷ sheet_conditions A c way all at)
    by_mark None e = absurd (let opened = marked-opened A h c in let is_open = met (is_ceremony_open A c) State n.1.1.0 in grind arith)
    by_mark (Some m) e =
        twice-first (when (nat_le at m) (Late m)) (named_twice_refusal all) (stays_refusal view.stays.items view.stay_count c m (is_full A) way all at)
        (sheet_conditions A c way all at) (ap (not_after_mark_refusal at) (sym e) ∙ n.1.1.1.0)
        (λ once. let same = request-refusal (sheet A) s view.stays.items c m view.stay_count (is_full A) way all at v.stays v.entries in
        grind (arith, same (named_once all once) (settled A h c), rows-conditions A c m way all at))

-- SHEETS ARE MADE IN TURN

-- a request in an open ceremony, behind whose mark no condition holds, keeps the sheet in turn
made-by : (A : History) → IsRegister A → (c : ℕ) (way : Way) (all : List (List ℕ)) (at : ℕ) → are_apart all ≡ true → is_ceremony_open A c ≡ true
    → first_of (not_later A c at ∷ sheet_conditions A c way all at) ≡ None
    → IsSheet (sheet A) → IsSheet (sheet A ++ map (new_row c way at) all)
made-by A h c way all at a is f s = by_mark (mark A c) refl
  where
    by_mark : (o : Option ℕ) → mark A c ≡ o → IsSheet (sheet A ++ map (new_row c way at) all)
    by_mark None e = absurd (let opened = marked-opened A h c in grind arith)
    by_mark (Some m) e =
        let same = rows-conditions A c m way all at in
        let none : first_of (rows_refusal (sheet A) c m (is_full A) way all at ∷ []) ≡ None = grind arith in
        turns_keep (sheet A) c m (is_full A) way all at a (none_holds (rows_refusal (sheet A) c m (is_full A) way all at ∷ []) none).0 s

made_after : (A : History) (act : Act) → IsRegister A → fault A act ≡ None → IsSheet (sheet A) → IsSheet (sheet_after act (sheet A))
made_after A act h f s = grind (arith, none_holds, made-by, named_once, met, no_first, not_later)

-- the sheet of a register was made in turn
pub sheet-made : (A : History) → IsRegister A → IsSheet (sheet A)
sheet-made [] h = refl
sheet-made (entry ∷ A) h = made_after A entry.command.act h.1 (took A entry h.0).no_fault (sheet-made A h.1)

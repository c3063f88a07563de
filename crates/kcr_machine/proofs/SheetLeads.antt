-- The rows that a request of the sheet puts lead to the tables after it, if the sheet was made in turn and each person is named once.
use Rattle.kcr_machine.proofs.Common.{◌≡◌, ℕ, Bool, true, false, cond, ◌&&◌, ◌==◌, nat_le, List, [], ◌∷◌, ◌++◌, map, filter, find, reverse, Option}
use Rattle.kcr_machine.proofs.Common.{None, refl, sym, ap, ◌∙◌, arith, append_assoc, append-nil, inl, inr, rules, list_any, IsPermutation, and_from}
use Rattle.kcr_machine.proofs.Common.{eqb-true, eq-eqb, IsPermutation-refl, IsPermutation-sym, IsPermutation-trans, IsPermutation-reverse}
use Rattle.kcr_machine.proofs.Common.{IsPermutation-append, IsPermutation-map, IsPermutation-middle, put_all, same_text, SheetRow, Stay, Way, Leave}
use Rattle.kcr_machine.proofs.Common.{later_row, last_onto, last_row_of, stay_reaches, stays_by, is_among, has_no_end, is_inside_of}
use Rattle.kcr_machine.proofs.Common.{is_out_of_turn_in, is_out_of_turn_by, new_row, new_stay, with_end, is_open_stay_of, changed_stays, turn_refusal}
use Rattle.kcr_machine.proofs.Common.{are_apart, same-is, same-itself, same-turned, IsSheet, none-found, last_reaches, earlier-last, same-turns}
use Rattle.kcr_machine.proofs.Common.{added, rows-added, turn-order, Ceremony, RecordSheet, ReplyData, Command, Change, PutSheet, PutStay, PutKey}
use Rattle.kcr_machine.proofs.Common.{View, History, entry_of, sheet, Tables, SameTables, tables, same_sheet_row, same_stay, all_changed, IsViewOf}
use Rattle.kcr_machine.proofs.Common.{asks_of_act, out_of_turn_refusal, with_command, sheet_changes_by, new_key_row, IsIn, any-in, filter-in, in-any}
use Rattle.kcr_machine.proofs.Common.{in-filter, in-order, map-same-in, none-in, none-passes}
use Rattle.kcr_room.specs.declared.Way.TheVariants.{Enter}
use Rattle.kcr_machine.proofs.Keyed.{Shown, put-rows}
use Rattle.kcr_machine.proofs.Leads.{all_changed-rows, changed_with, command_of, new_key}
use Rattle.kcr_machine.proofs.SheetStays.{IsClear, before-enter, clear-order, clear-sheet}

-- NEW ROWS ARE PUT IN FRONT

-- no row has the key of one that is put after it
abbrev pub IsFresh : {X : Type 0} → (X → X → Bool) → List X → List X → Type 0
IsFresh same [] old = Unit {0}
IsFresh same (x ∷ xs) old = (list_any (same x) old ≡ false) × IsFresh same xs (x ∷ old)

-- rows put under new keys are added to the old ones, in some order
pub put-fresh : {X : Type 0} (same : X → X → Bool) (xs old : List X) → IsFresh same xs old → IsPermutation (put_all same xs old) (old ++ xs)
put-fresh same [] old h = rw append-nil (IsPermutation-refl old)
put-fresh same (x ∷ xs) old h =
    rw h.0 (IsPermutation-trans _ _ _ (put-fresh same xs (x ∷ old) h.1) (IsPermutation-sym _ _ (IsPermutation-middle old x xs)))

-- a row for each of some people, each named once
fresh-people : {X : Type 0} (same : X → X → Bool) (f : List ℕ → X) (people : List (List ℕ)) (old : List X) → are_apart people ≡ true
    → ((x y : List ℕ) → same_text x y ≡ false → same (f y) (f x) ≡ false) → ((who : List ℕ) → IsIn who people → list_any (same (f who)) old ≡ false)
    → IsFresh same (map f people) old
fresh-people same f [] old a other new = tt
fresh-people same f (who ∷ people) old a other new = (
  new who (inl refl),
  fresh-people same f people (f who ∷ old) (grind arith) other (λ w i.
      let apart = none-in (same_text who) w people (grind arith) i in grind (arith, other who w, new w (inr i))),
)

-- such rows that are put into a table, of which the last row stands first, stand behind its rows
put-news : {X : Type 0} (same : X → X → Bool) (news old : List X) → IsFresh same news (reverse old)
    → IsPermutation (put_all same news (reverse old)) (reverse (old ++ news))
put-news same news old fresh =
    IsPermutation-trans _ _ _ (put-fresh same news (reverse old) fresh)
    (IsPermutation-trans _ _ _ (IsPermutation-append _ old news news (IsPermutation-sym _ _ (IsPermutation-reverse old)) (IsPermutation-refl news))
    (IsPermutation-reverse (old ++ news)))

-- if it is the turn of each of the people
pub turns-each : (p : List ℕ → Bool) (people : List (List ℕ)) → turn_refusal (find p people) ≡ None → (who : List ℕ) → IsIn who people → p who ≡ false
turns-each p [] h who i = absurd i
turns-each p (first ∷ people) h who (inl e) = ap p e ∙ (none-found p first people h).0
turns-each p (first ∷ people) h who (inr i) = turns-each p people (none-found p first people h).1 who i

-- rows of which the last is before the moment are all before it
all-before : (at : ℕ) (rows : List SheetRow) (last : Option SheetRow) → last_reaches at (last_onto last rows) ≡ false
    → (last_reaches at last ≡ false) × (list_any (λ row. nat_le at row.at) rows ≡ false)
all-before at [] last h = (h, refl)
all-before at (row ∷ rows) last h = grind (arith, all-before at rows (later_row last row) h)

-- a person whose turn it is has no row of the moment
row-fresh : (rows : List SheetRow) (c : ℕ) (way : Way) (at : ℕ) (who : List ℕ) → is_out_of_turn_by rows c way at who ≡ false
    → list_any (same_sheet_row (new_row c way at who)) (reverse rows) ≡ false
row-fresh rows c way at who h =
    none-passes (same_sheet_row (new_row c way at who)) (reverse rows) (λ row i.
    let all = filter (λ (r : SheetRow). same_text r.who who) rows in
    let own = filter-in (λ r. same_text r.who who) row rows (in-order row rows (reverse rows) (IsPermutation-reverse rows) i) in
    let early = (all-before at all None (earlier-last way c at (last_row_of rows who) h)).1 in
    let past = none-in (λ r. nat_le at r.at) row all early in
    grind arith)

other-row : (c : ℕ) (way : Way) (at : ℕ) (x y : List ℕ) → same_text x y ≡ false → same_sheet_row (new_row c way at y) (new_row c way at x) ≡ false
other-row c way at x y e = ap (λ b. b && at == at) e

other-stay : (c at : ℕ) (x y : List ℕ) → same_text x y ≡ false → same_stay (new_stay c at y) (new_stay c at x) ≡ false
other-stay c at x y e = ap (λ b. b && at == at) e

-- the rows of the sheet are put
sheet-put : (rows : List SheetRow) (c : ℕ) (way : Way) (at : ℕ) (people : List (List ℕ)) → are_apart people ≡ true
    → turn_refusal (find (is_out_of_turn_by rows c way at) people) ≡ None
    → IsPermutation (put_all same_sheet_row (map (new_row c way at) people) (reverse rows)) (reverse (rows ++ map (new_row c way at) people))
sheet-put rows c way at people a h = grind (arith, put-news, fresh-people, other-row, row-fresh, turns-each)

-- those who come get a stay
enter-put : (stays : List Stay) (c at : ℕ) (people : List (List ℕ)) → are_apart people ≡ true
    → ((who : List ℕ) → IsIn who people → is_out_of_turn_in stays c Enter at who ≡ false)
    → IsPermutation (put_all same_stay (map (new_stay c at) people) (reverse stays)) (reverse (stays ++ map (new_stay c at) people))
enter-put stays c at people a turns =
    put-news same_stay (map (new_stay c at) people) stays
    (fresh-people same_stay (new_stay c at) people (reverse stays) a (other-stay c at) (λ who i.
    none-passes (same_stay (new_stay c at who)) (reverse stays) (λ r j.
    let l = before-enter stays c at who (turns who i) r (in-order r stays (reverse stays) (IsPermutation-reverse stays) j) in grind arith)))

-- ROWS ARE PUT IN PLACE OF OLD ONES

map-itself : {X : Type 0} (xs : List X) → map (λ x. x) xs ≡ xs
map-itself [] = refl
map-itself (x ∷ xs) = ap (λ ys. x ∷ ys) (map-itself xs)

same-stay : (x : Stay) → same_stay x x ≡ true
same-stay x = and_from (same_text x.who x.who) (x.since == x.since) (same-itself x.who) (eq-eqb x.since x.since refl)

-- an open stay lasts to every moment
open-lasts : (c at : ℕ) (r : Stay) → (r.ceremony == c) ≡ true → has_no_end r.until ≡ true → stay_reaches c at r ≡ true
open-lasts c at r here o = grind arith

-- those who leave get an end
module _ (all shown : List Stay) (c at : ℕ) (people : List (List ℕ)) (clear : IsClear all) (p : Shown (stay_reaches c at) all shown)
    (within : (x : Stay) → IsIn x shown → IsIn x all)
    (turns : (who : List ℕ) → IsIn who people → is_out_of_turn_in all c Leave at who ≡ false) where
  abbrev changed : List Stay
  changed = filter (is_open_stay_of c people) shown

  changed-in : (x : Stay) → IsIn x changed → IsIn x all
  changed-in x i = within x (in-filter (is_open_stay_of c people) x shown i).0

  only-one : (x r : Stay) → IsIn x all → IsIn r all → same_stay x r ≡ true → x ≡ r
  only-one x r i j e = grind (arith, same-turned, eqb-true)

  -- an open stay of somebody who leaves is one of those that end
  ends : (r : Stay) → IsIn r all → is_among people r.who ≡ true → has_no_end r.until ≡ true → list_any (λ x. same_stay x r) changed ≡ true
  ends r i m o =
      let w = any-in (same_text r.who) people m in
      let s = any-in (is_inside_of c w.0) all (grind (arith, turns w.0 w.1)) in
      let is : r ≡ s.0 = grind (arith, clear.apart r s.0 i s.1, clear.apart s.0 r s.1 i, same-is r.who w.0, same-is s.0.who w.0, same-itself w.0) in
      let here : (r.ceremony == c) ≡ true = rw is (grind arith) in
      let all_own = filter-in (stay_reaches c at) r all i (open-lasts c at r here o) in
      let seen = in-order r (filter (stay_reaches c at) shown) (filter (stay_reaches c at) all) (IsPermutation-sym _ _ p) all_own in
      let fits = filter-in (is_open_stay_of c people) r shown (in-filter (stay_reaches c at) r shown seen).0 (grind arith) in
      in-any (λ x. same_stay x r) r changed fits (same-stay r)

  leave-put : put_all same_stay (map (with_end people at) changed) all ≡ map (with_end people at) all
  leave-put =
      ap (put_all same_stay (map (with_end people at) changed)) (sym (map-itself all))
      ∙ put-rows same_stay same_stay (with_end people at) (λ x r. refl) all changed (λ x i. in-any (same_stay x) x all (changed-in x i) (same-stay x))
      (λ x r i j e. ap (with_end people at) (only-one x r (changed-in x i) j e)) (λ r. r) (λ x r. refl)
      ∙ map-same-in (λ r. cond (list_any (λ x. same_stay x r) changed) (with_end people at r) r) (with_end people at) all (λ r i. grind (arith, ends r i))

-- the stays are put
stays-put : (rows : List SheetRow) → IsSheet rows → (shown : List Stay) (c : ℕ) (way : Way) (at : ℕ) (people : List (List ℕ)) → are_apart people ≡ true
    → Shown (stay_reaches c at) (reverse (stays_by rows)) shown → ((x : Stay) → IsIn x shown → IsIn x (reverse (stays_by rows)))
    → turn_refusal (find (is_out_of_turn_by rows c way at) people) ≡ None
    → IsPermutation (put_all same_stay (changed_stays shown c way people at) (reverse (stays_by rows)))
    (reverse (stays_by (rows ++ map (new_row c way at) people)))
stays-put rows s shown c way at people a p l h =
    rw (rows-added c way at people rows s a h)
    (by_way way (λ who i. sym (same-turns rows s c way at who) ∙ turns-each (is_out_of_turn_by rows c way at) people h who i))
  where
    table : List Stay
    table = stays_by rows

    by_way : (w : Way) → ((who : List ℕ) → IsIn who people → is_out_of_turn_in table c w at who ≡ false)
        → IsPermutation (put_all same_stay (changed_stays shown c w people at) (reverse table))
        (reverse (added c w at people table))
    by_way Enter turns = enter-put table c at people a turns
    by_way Leave turns =
        let turned = IsPermutation-reverse table in
        let same = leave-put (reverse table) shown c at people (clear-order table (reverse table) turned (clear-sheet rows s)) p l
        (λ who i. turn-order table (reverse table) turned c Leave at who ∙ turns who i) in
        rw same (IsPermutation-trans _ _ _ (IsPermutation-map (with_end people at) (reverse table) table (IsPermutation-sym _ _ turned))
        (IsPermutation-reverse (map (with_end people at) table)))

-- THE TABLES

-- changes that put stays put them into the table of stays, before the rest of the changes
pub all_changed-stays : (rows : List Stay) (rest : List Change) (t : Tables)
    → all_changed (map PutStay rows ++ rest) t ≡ all_changed rest (record t { stays = put_all same_stay rows t.stays })
all_changed-stays rows rest t = all_changed-rows PutStay same_stay (λ rows t. record t { stays = rows }) (λ row rows t. refl) rows t.stays rest t

-- if it is the turn of each of the people, the rows that a request puts lead to the tables after it
pub sheet-leads : (A : History) → IsSheet (sheet A) → (key : List ℕ) (c : ℕ) (way : Way) (all : List (List ℕ)) (at : ℕ) → are_apart all ≡ true
    → (view : View) (answer : ReplyData)
    → IsViewOf (asks_of_act (Ceremony c at (RecordSheet way all))) (tables A) view → entry_of A key ≡ None → out_of_turn_refusal A c way at all ≡ None
    → SameTables (changed_with (sheet_changes_by view c way all at) (command_of key (Ceremony c at (RecordSheet way all))) answer (tables A))
    (tables (with_command A (command_of key (Ceremony c at (RecordSheet way all))) answer))
sheet-leads A s key c way all at a view answer v k f =
    let x : Command = command_of key (Ceremony c at (RecordSheet way all)) in
    let news = map (new_row c way at) all in
    let stays = changed_stays view.stays.items c way all at in
    let rest = PutKey (new_key_row x answer) ∷ [] in
    rw (
      append_assoc (map PutSheet news) (map PutStay stays) rest,
      all_changed-rows PutSheet same_sheet_row (λ rows t. record t { sheet = rows }) (λ row rows t. refl) news (reverse (sheet A)) (map PutStay stays ++ rest)
          (tables A),
      all_changed-stays stays rest (record (tables A) { sheet = put_all same_sheet_row news (reverse (sheet A)) }),
      new_key A x answer k,
    )
    (search (rules, IsPermutation-refl, sheet-put, stays-put))

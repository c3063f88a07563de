-- The rows of a register's sheet tell the same in any order.
use Rattle.kcr_audit.proofs.Common.{◌≡◌, ℕ, ◌<◌, ◌≤◌, true, false, ◌||◌, List, [], ◌∷◌, ◌++◌, map, length, Some, None, refl, sym, ap, ◌∙◌, arith, inl}
use Rattle.kcr_audit.proofs.Common.{inr, rules, ◌⊎◌, reverse, list_any, filter, IsPermutation, ltb-true, ltb-false, or_right, and_parts}
use Rattle.kcr_audit.proofs.Common.{IsPermutation-reverse, IsPermutation-sym, IsPermutation-trans, none_holds, filter-order, same-is, same-itself}
use Rattle.kcr_audit.proofs.Common.{same-turned, IsIn, in-order, in-append, in-filter, filter-in, same_text, SheetRow, enters, later_row, last_onto}
use Rattle.kcr_audit.proofs.Common.{last_row, last_enters, in_by, headcount_by, Act, Ceremony, RecordSheet, History, fault, IsRegister, took, turns}
use Rattle.kcr_room.specs.{declared.Way.Way, Requests.is_out_of_turn_by, Requests.new_row}
use Rattle.kcr_history.specs.Room.{sheet, sheet_after}
use Rattle.kcr_laws.proofs.Rooms.{HaveTurns, same_room}

-- THE LAST ROW

-- the last of some rows: it is one of them, and none is later
record Last (rows : List SheetRow) : Type 0 where
  row : SheetRow
  is : last_row rows ≡ Some row
  inside : IsIn row rows
  top : (x : SheetRow) → IsIn x rows → x.at ≤ row.at

-- of two rows the kept one is before the others
last-over : (z y kept : SheetRow) (ys : List SheetRow) → later_row (Some z) y ≡ Some kept → (kept ≡ z) ⊎ (kept ≡ y) → z.at ≤ kept.at → y.at ≤ kept.at
    → Last (kept ∷ ys) → Last (z ∷ y ∷ ys)
last-over z y kept ys e from l m last =
    let is = ap (λ o. last_onto o ys) e ∙ last.is in let i = last.inside in
    record { row = last.row; is = is; inside = grind arith; top = λ x h. grind (arith, last.top kept, last.top x) }

last-of : (z : SheetRow) (ys : List SheetRow) → Last (z ∷ ys)
last-of z [] = record { row = z; is = refl; inside = inl refl; top = λ x h. grind arith }
last-of z (y ∷ ys) = grind (arith, ltb-true, last-over, ltb-false, last-of z ys, last-of y ys)

last-there : (rows : List SheetRow) (x : SheetRow) → IsIn x rows → Last rows
last-there [] x h = absurd h
last-there (y ∷ ys) x h = last-of y ys

-- the last of rows that are alike if they share a moment tells the same in any order
last-same : (c : ℕ) (rows shown : List SheetRow) → IsPermutation rows shown
    → ((r o : SheetRow) → IsIn r rows → IsIn o rows → r.at ≡ o.at → enters c r ≡ enters c o) → last_enters c (last_row rows) ≡ last_enters c (last_row shown)
last-same c [] [] p alike = refl
last-same c [] (y ∷ ys) p alike = absurd (in-order y [] (y ∷ ys) p (inl refl))
last-same c (x ∷ xs) [] p alike = absurd (in-order x [] (x ∷ xs) (IsPermutation-sym (x ∷ xs) [] p) (inl refl))
last-same c (x ∷ xs) (y ∷ ys) p alike =
    let a = last-of x xs in
    let b = last-of y ys in
    let back = in-order b.row (x ∷ xs) (y ∷ ys) p b.inside in
    let up = b.top a.row (in-order a.row (y ∷ ys) (x ∷ xs) (IsPermutation-sym (x ∷ xs) (y ∷ ys) p) a.inside) in
    grind (arith, a.top b.row back, alike a.row b.row a.inside back)

-- ALIKE

-- two rows of one person at one moment say the same
abbrev AreAlike : List SheetRow → Type 0
AreAlike rows = (r o : SheetRow) → IsIn r rows → IsIn o rows → same_text r.who o.who ≡ true → r.at ≡ o.at → (c : ℕ) → enters c r ≡ enters c o

same-in : (rows shown : List SheetRow) → IsPermutation rows shown → AreAlike rows → (who : List ℕ) (c t : ℕ) → in_by rows who c t ≡ in_by shown who c t
same-in rows shown p alike who c t = search (rules, last-same, filter-order, in-filter, same-is, and_parts, same-itself)

-- who has the turn at a moment has only earlier rows
turn-after : (rows : List SheetRow) (c : ℕ) (way : Way) (at : ℕ) (who : List ℕ) → is_out_of_turn_by rows c way at who ≡ false
    → (r : SheetRow) → IsIn r rows → same_text r.who who ≡ true → r.at < at
turn-after rows c way at who f r h e =
    let mine = filter-in (λ row. same_text row.who who) r rows h e in
    let last = last-there (filter (λ row. same_text row.who who) rows) r mine in
    grind (arith, last.is, last.top r mine)

-- a new row is of one of the people
new-of : (c : ℕ) (way : Way) (at : ℕ) (people : List (List ℕ)) (o : SheetRow) → IsIn o (map (new_row c way at) people)
    → (who : List ℕ) × (list_any (same_text who) people ≡ true) × (o ≡ new_row c way at who)
new-of c way at [] o h = absurd h
new-of c way at (who ∷ people) o (inl e) = (who, ap (λ b. b || list_any (same_text who) people) (same-itself who), e)
new-of c way at (who ∷ people) o (inr h) = let r = new-of c way at people o h in (r.0, or_right (same_text r.0 who) (list_any (same_text r.0) people) r.1, r.2)

alike-more : (rows : List SheetRow) (c : ℕ) (way : Way) (at : ℕ) (people : List (List ℕ)) → HaveTurns rows c way at people → AreAlike rows
    → AreAlike (rows ++ map (new_row c way at) people)
alike-more rows c way at people turn alike r o h k same e d =
    let split = in-append r rows (map (new_row c way at) people) h in
    let other = in-append o rows (map (new_row c way at) people) k in
    grind (arith, alike r o, new-of, turn-after, same-turned)

alike-after : (A : History) (act : Act) → fault A act ≡ None → AreAlike (sheet A) → AreAlike (sheet_after act (sheet A))
alike-after A (Ceremony c at (RecordSheet way people)) f ih = search (rules, none_holds, alike-more, turns)
alike-after A act f ih = ih

-- in a register's sheet two rows of one person at one moment say the same
alike : (A : History) → IsRegister A → AreAlike (sheet A)
alike [] h = λ r o g k s e c. absurd g
alike (entry ∷ A) h = alike-after A entry.command.act (took A entry h.0).no_fault (alike A h.1)

-- by its rows in any order the same people are in a room, and as many
module _ (A : History) (h : IsRegister A) (shown : List SheetRow) (p : IsPermutation (reverse (sheet A)) shown) where
  -- a person is in the room by the rows shown if and only if by the sheet
  pub shown-in : (who : List ℕ) (c t : ℕ) → in_by (sheet A) who c t ≡ in_by shown who c t
  shown-in = same-in (sheet A) shown (IsPermutation-trans (sheet A) (reverse (sheet A)) shown (IsPermutation-reverse (sheet A)) p) (alike A h)

  -- by the rows shown as many people are in the room as by the sheet
  pub shown-crowd : (c t : ℕ) → headcount_by shown c t ≡ headcount_by (sheet A) c t
  shown-crowd c t = ap length (same_room shown (sheet A) c t (λ who. sym (shown-in who c t)))

-- Rows added for one ceremony leave the rooms of the others as they are, and its own room before their moment.
use Rattle.kcr_laws.proofs.Common.{◌≡◌, ℕ, ◌<◌, ◌≤◌, Bool, true, false, ◌==◌, nat_le, nat_lt, List, [], ◌∷◌, ◌++◌, map, filter, Option, None, refl}
use Rattle.kcr_laws.proofs.Common.{sym, ap, ◌∙◌, arith, list_any, list_all, or_parts, and_right, lt-leb, nat_tests, same_text, is_before, same-is}
use Rattle.kcr_laws.proofs.Common.{same-itself, same-turned, SheetRow, Way, is_enter, enters, later_row, last_onto, last_row, is_of, last_enters}
use Rattle.kcr_laws.proofs.Common.{in_by, last_row_of, present_by, is_out_of_turn, is_out_of_turn_by, new_row, are_rising, present_are_in}
use Rattle.kcr_laws.proofs.{Common.present_are_rising, Common.before-turned, Trials.one_of}
use Rattle.std.proofs.lemmas.List.Elements.{filter-append}
use Rattle.kcr_room.proofs.Agreement.{listed, last-above}

-- none of the rows is an `in` of the ceremony, so the last of them is none
none_enters : (other : ℕ) (last : Option SheetRow) (rows : List SheetRow) → last_enters other last ≡ false → list_any (enters other) rows ≡ false
    → last_enters other (last_onto last rows) ≡ false
none_enters other last [] l h = l
none_enters other last (row ∷ rows) l h = none_enters other (later_row last row) rows (grind arith) (grind arith)

-- the last row after two lists is the last after the second, from that of the first on
pub onto_append : (last : Option SheetRow) (rows more : List SheetRow) → last_onto last (rows ++ more) ≡ last_onto (last_onto last rows) more
onto_append last [] more = refl
onto_append last (row ∷ rows) more = onto_append (later_row last row) rows more

-- new rows are not of a moment before theirs
pub none_yet : (c : ℕ) (way : Way) (at : ℕ) (who : List ℕ) (t : ℕ) (people : List (List ℕ)) → nat_le at t ≡ false
    → filter (is_of who t) (map (new_row c way at) people) ≡ []
none_yet c way at who t [] h = refl
none_yet c way at who t (p ∷ people) h = rw (and_right (same_text p who) (nat_le at t) h) (none_yet c way at who t people h)

-- nor of somebody who is not among the people
pub none_of : (c : ℕ) (way : Way) (at : ℕ) (who : List ℕ) (t : ℕ) (people : List (List ℕ)) → list_any (same_text who) people ≡ false
    → filter (is_of who t) (map (new_row c way at) people) ≡ []
none_of c way at who t [] h = refl
none_of c way at who t (p ∷ people) h =
    let q = or_parts (same_text who p) (list_any (same_text who) people) h in
    rw (sym (same-turned who p) ∙ q.0) (none_of c way at who t people q.1)

-- new rows are of the one ceremony
none_other : (c other : ℕ) (way : Way) (at : ℕ) (who : List ℕ) (t : ℕ) (people : List (List ℕ)) → (c == other) ≡ false
    → list_any (enters other) (filter (is_of who t) (map (new_row c way at) people)) ≡ false
none_other c other way at who t [] h = refl
none_other c other way at who t (p ∷ people) h = grind (arith, and_right (is_enter way) (c == other) h, none_other c other way at who t people h)

-- the same rows of a person, if none is later than t
all_of : (who : List ℕ) (m t : ℕ) (rows : List SheetRow) → m ≤ t → list_any (λ row. nat_lt m row.at) (filter (λ row. same_text row.who who) rows) ≡ false
    → filter (is_of who t) rows ≡ filter (λ row. same_text row.who who) rows
all_of who m t [] l h = refl
all_of who m t (row ∷ rows) l h = grind (arith, nat_tests, all_of who m t rows l)

-- WHOSE TURN IT IS

-- nobody's last row is later than t, if the new rows are not
pub not_behind : (c : ℕ) (way : Way) (at t : ℕ) (last : Option SheetRow) → is_out_of_turn way c at last ≡ false → nat_le at t ≡ true
    → list_any (λ row. nat_lt t row.at) (listed last) ≡ false
not_behind c way at t last h l = grind (arith, nat_tests)

-- whoever has a turn for the one ceremony is in no other's room
elsewhere : (c other : ℕ) (way : Way) (at : ℕ) (last : Option SheetRow) → (c == other) ≡ false → is_out_of_turn way c at last ≡ false
    → last_enters other last ≡ false
elsewhere c other way at last d h = grind (arith, nat_tests)

-- if all of a person's rows are at most t, the last of them is the last one at t
last_at : (rows : List SheetRow) (who : List ℕ) (t : ℕ) → list_any (λ row. nat_lt t row.at) (listed (last_row_of rows who)) ≡ false
    → last_row (filter (is_of who t) rows) ≡ last_row_of rows who
last_at rows who t h =
    ap last_row (all_of who t t rows (omega arith) (sym (last-above t (filter (λ row. same_text row.who who) rows) None) ∙ h))

-- everybody has the turn
abbrev pub HaveTurns : List SheetRow → ℕ → Way → ℕ → List (List ℕ) → Type 0
HaveTurns rows c way at people = (p : List ℕ) → list_any (same_text p) people ≡ true → is_out_of_turn_by rows c way at p ≡ false

split_in : (rows more : List SheetRow) (who : List ℕ) (c t : ℕ)
    → in_by (rows ++ more) who c t ≡ last_enters c (last_onto (last_row (filter (is_of who t) rows)) (filter (is_of who t) more))
split_in rows more who c t =
    ap (λ some. last_enters c (last_row some)) (filter-append (is_of who t) rows more)
    ∙ ap (last_enters c) (onto_append None (filter (is_of who t) rows) (filter (is_of who t) more))

unchanged : (rows more : List SheetRow) (who : List ℕ) (c t : ℕ) → filter (is_of who t) more ≡ [] → in_by (rows ++ more) who c t ≡ in_by rows who c t
unchanged rows more who c t h = split_in rows more who c t ∙ ap (λ some. last_enters c (last_onto (last_row (filter (is_of who t) rows)) some)) h

-- before the moment of new rows everybody is if they were
pub in_before : (rows : List SheetRow) (c : ℕ) (way : Way) (at : ℕ) (people : List (List ℕ)) (who : List ℕ) (other t : ℕ) → t < at
    → in_by (rows ++ map (new_row c way at) people) who other t ≡ in_by rows who other t
in_before rows c way at people who other t l = unchanged rows (map (new_row c way at) people) who other t (none_yet c way at who t people (lt-leb at t l))

-- in another ceremony's room everybody is if they were, at every moment
pub in_other : (rows : List SheetRow) (c : ℕ) (way : Way) (at : ℕ) (people : List (List ℕ)) (who : List ℕ) (other t : ℕ) → HaveTurns rows c way at people
    → (c == other) ≡ false
    → in_by (rows ++ map (new_row c way at) people) who other t ≡ in_by rows who other t
in_other rows c way at people who other t turns d = by_moment (nat_le at t) refl (list_any (same_text who) people) refl
  where
    by_moment : (b : Bool) → nat_le at t ≡ b → (m : Bool) → list_any (same_text who) people ≡ m
        → in_by (rows ++ map (new_row c way at) people) who other t ≡ in_by rows who other t
    by_moment false e m k = unchanged rows (map (new_row c way at) people) who other t (none_yet c way at who t people e)
    by_moment true e false k = unchanged rows (map (new_row c way at) people) who other t (none_of c way at who t people k)
    by_moment true e true k =
        let turn = turns who k in
        let mine = last_row (filter (is_of who t) rows) in
        let added = filter (is_of who t) (map (new_row c way at) people) in
        let last = last_at rows who t (not_behind c way at t (last_row_of rows who) turn e) in
        let before : last_enters other mine ≡ false = ap (last_enters other) last ∙ elsewhere c other way at (last_row_of rows who) d turn in
        split_in rows (map (new_row c way at) people) who other t ∙ none_enters other mine added before (none_other c other way at who t people d) ∙ sym before

-- LISTS OF PEOPLE IN BYTE ORDER

-- whoever comes before some others is none of them
pub not_itself : (x : List ℕ) (xs : List (List ℕ)) → list_all (is_before x) xs ≡ true → list_any (same_text x) xs ≡ false
not_itself x [] h = refl
not_itself x (y ∷ xs) h = grind (arith, same-is x y, before-turned x x, not_itself x xs)

-- two rising lists of the same people are one list
rising_unique : (xs ys : List (List ℕ)) → are_rising xs ≡ true → are_rising ys ≡ true
    → ((who : List ℕ) → list_any (same_text who) xs ≡ list_any (same_text who) ys) → xs ≡ ys
rising_unique [] [] r s h = refl
rising_unique [] (y ∷ ys) r s h = grind (arith, h y, same-itself y)
rising_unique (x ∷ xs) [] r s h = grind (arith, h x, same-itself x)
rising_unique (x ∷ xs) (y ∷ ys) r s h = λ i. head i ∷ rising_unique xs ys (grind arith) (grind arith) tails i
  where
    -- else each of the two comes before the other
    head : x ≡ y
    head =
        let near = one_of same_text same-is in
        same-is x y (grind (arith, h x, h y, same-itself, same-turned x y, before-turned x y, near x (is_before y) ys, near y (is_before x) xs))

    tails : (who : List ℕ) → list_any (same_text who) xs ≡ list_any (same_text who) ys
    tails who = grind (arith, h who, head, same-is who x, not_itself x xs, not_itself y ys)

-- rooms in which everybody is alike have the same people
pub same_room : (a b : List SheetRow) (c t : ℕ) → ((who : List ℕ) → in_by a who c t ≡ in_by b who c t) → present_by a c t ≡ present_by b c t
same_room a b c t h =
    rising_unique (present_by a c t) (present_by b c t) (present_are_rising a c t) (present_are_rising b c t)
    (λ who. present_are_in a who c t ∙ h who ∙ sym (present_are_in b who c t))

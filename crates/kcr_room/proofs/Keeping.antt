-- Laws of every sheet: rows that are not refused keep every row in its turn (`turns_keep`), and those present are those in the room by their last rows
-- (`present_are_in`).
use Rattle.kcr_room.proofs.Common.{◌≡◌, ℕ, Bool, true, false, ◌||◌, ◌&&◌, nat_le, List, [], ◌∷◌, ◌++◌, map, Option, None, refl, ap, ◌∙◌, arith}
use Rattle.kcr_room.proofs.Common.{append-nil, append_assoc, list_any, filter, find, filter-append, enters, last_row, last_enters, last_row_of, is_of}
use Rattle.kcr_room.proofs.Common.{in_force, ascending, put_person, stays_by, turn_refusal, sheet_refusal, is_out_of_turn_by, new_row, rows_refusal}
use Rattle.kcr_room.proofs.Common.{are_apart, in_turn_onto, TurnsKeep, PresentAreIn, any-map, any-same, same-turned}
use Rattle.kcr_base.specs.{Refuse.when, declared.refusal.Refusal.TheVariants.Late}
use Rattle.kcr_base.proofs.RefuseLemmas.{none_holds}
use Rattle.kcr_room.proofs.Words.{nat_tests, same_text, SheetRow, Way}
use Rattle.kcr_room.proofs.{Lists.any-filter, Agreement.listed, Agreement.of_person, Agreement.force-last}

-- rows that are not refused: everybody has the turn, and nothing is against the sheet that they make
pub taken : (rows : List SheetRow) (c mark : ℕ) (full : Bool) (way : Way) (people : List (List ℕ)) (at : ℕ) → rows_refusal rows c mark full way people at ≡ None
    → (turn_refusal (find (is_out_of_turn_by rows c way at) people) ≡ None) ×
    (sheet_refusal (stays_by (rows ++ map (new_row c way at) people)) c full way ≡ None)
taken rows c mark full way people at h = let n = none_holds (when (nat_le at mark) (Late mark) ∷ _ ∷ _ ∷ []) h in (n.1.0, n.1.1.0)

-- nobody's turn is missed if no first such person is found
pub none-found : (p : List ℕ → Bool) (who : List ℕ) (rest : List (List ℕ)) → turn_refusal (find p (who ∷ rest)) ≡ None
    → (p who ≡ false) × (turn_refusal (find p rest) ≡ None)
none-found p who rest h = (grind (arith, nat_tests, h), grind (arith, nat_tests, h))

-- another person's row changes nothing of this one's last row
pub last-other : (rows : List SheetRow) (row : SheetRow) (who : List ℕ) → same_text row.who who ≡ false
    → last_row_of (rows ++ (row ∷ [])) who ≡ last_row_of rows who
last-other rows row who h = ap last_row (filter-append (of_person who) rows (row ∷ [])) ∙ rw (h, append-nil (filter (of_person who) rows))

-- rows of two lists are in turn if and only if the first list's are, and then the second's behind them
pub in_turn-append : (before rows more : List SheetRow) → in_turn_onto before (rows ++ more) ≡ (in_turn_onto before rows && in_turn_onto (before ++ rows) more)
in_turn-append before [] more = rw (append-nil before)
in_turn-append before (row ∷ rows) more =
    grind (arith, nat_tests, in_turn-append (before ++ (row ∷ [])) rows more, append_assoc before (row ∷ []) rows)

-- people of whom each has the turn have it still if others of them came before
pub turn-others : (rows : List SheetRow) (c : ℕ) (way : Way) (at : ℕ) (first : List ℕ) (people : List (List ℕ)) → list_any (same_text first) people ≡ false
    → turn_refusal (find (is_out_of_turn_by rows c way at) people) ≡ None
    → turn_refusal (find (is_out_of_turn_by (rows ++ (new_row c way at first ∷ [])) c way at) people) ≡ None
turn-others rows c way at first [] a h = refl
turn-others rows c way at first (who ∷ rest) a h =
    grind (arith, nat_tests, a, h, last-other rows (new_row c way at first) who, turn-others rows c way at first rest)

turns-more : (rows : List SheetRow) (c : ℕ) (way : Way) (at : ℕ) (people : List (List ℕ)) → are_apart people ≡ true
    → turn_refusal (find (is_out_of_turn_by rows c way at) people) ≡ None → in_turn_onto rows (map (new_row c way at) people) ≡ true
turns-more rows c way at [] a h = refl
turns-more rows c way at (who ∷ rest) a h =
    grind (arith, nat_tests, a, h, turn-others rows c way at who rest, turns-more (rows ++ (new_row c way at who ∷ [])) c way at rest)

-- rows that are not refused keep every row in its turn: after them each came in its turn if each had before
pub turns_keep : TurnsKeep
turns_keep rows c mark full way people at apart h s =
    let more = turns-more rows c way at people apart (taken rows c mark full way people at h).0 in
    grind (arith, nat_tests, in_turn-append [] rows (map (new_row c way at) people))

-- a test finds in a list put in order what it finds in the list
pub any-put : (p : List ℕ → Bool) (who : List ℕ) (people : List (List ℕ)) → list_any p (put_person who people) ≡ (p who || list_any p people)
any-put p who [] = refl
any-put p who (other ∷ rest) = grind (arith, nat_tests, any-put p who rest)

-- some of the people pass a test if and only if some of them in byte order do
pub any-ascending : (p : List ℕ → Bool) (people : List (List ℕ)) → list_any p (ascending people) ≡ list_any p people
any-ascending p [] = refl
any-ascending p (who ∷ rest) = any-put p who (ascending rest) ∙ ap (λ b. p who || b) (any-ascending p rest)

any-listed : (c : ℕ) (last : Option SheetRow) → list_any (enters c) (listed last) ≡ last_enters c last
any-listed c last = grind (arith, nat_tests)

-- somebody is among those present if and only if their last row says so
pub present_are_in : PresentAreIn
present_are_in rows who c t =
    let turned = any-same (λ row. enters c row && same_text who row.who) (λ row. same_text row.who who && enters c row) (in_force t rows) (λ row.
    grind (arith, nat_tests, same-turned who row.who)) in
    let own = any-filter (of_person who) (enters c) (in_force t rows) in
    grind (arith, force-last who t rows, any-ascending, any-map, any-filter, any-listed c (last_row (filter (is_of who t) rows)))

-- A law: rows may come in any order if each person has at most one at a moment, as rows made in turn have
-- (`sheet-shares`). Their stays are the same up to their order (`stays-order`), and the same people are in a room
-- (`rows-present`).
use Rattle.kcr_room.proofs.Common.{◌≡◌, ℕ, Bool, true, false, cond, not, ◌||◌, ◌&&◌, ◌==◌, nat_le, List, [], ◌∷◌, ◌++◌, map, Option, None, refl, sym}
use Rattle.kcr_room.proofs.Common.{ap, ◌∙◌, arith, append_assoc, list_any, filter, count_by, AllByRecursion, IsPermutation, or-false, filter-append}
use Rattle.kcr_room.proofs.Common.{sum_by-append, IsPermutation-map, sum_by-IsPermutation, list_any-IsPermutation, filter-order, is_enter, is_ahead}
use Rattle.kcr_room.proofs.Common.{is_as_late, following, Followed, followed_rows_behind, later_row, last_onto, present_by, next_of, stays_of}
use Rattle.kcr_room.proofs.Common.{stays_by, IsSheet, ShareNoMoment, same-itself, same-is}
use Rattle.kcr_room.proofs.{Words.nat_tests, Words.same_text, Words.SheetRow, Agreement.of_person, Agreement.same-present}
use Rattle.kcr_room.proofs.{Lists.any-filter, Lists.count-cons, Lists.none-behind, Sheets.made-in-turn, Sheets.InTurn, Sheets.last_reaches}
use Rattle.kcr_room.proofs.{Firsts.end-unique, Followed.lasts-next, Orders.present-order}

-- the row is this person's and has this moment
abbrev is_at : List ℕ → ℕ → SheetRow → Bool
is_at who t row = same_text row.who who && row.at == t

-- of rows none of which has a row's person and moment those that are as late are ahead
late-ahead : (row : SheetRow) (rows : List SheetRow) → AllByRecursion (λ other. is_at row.who row.at other ≡ false) rows
    → filter (is_as_late row) rows ≡ filter (is_ahead row) rows
late-ahead row [] a = refl
late-ahead row (other ∷ rows) a = grind (arith, nat_tests, a.0, late-ahead row rows a.1)

-- so the rows that follow are all that are ahead
following-ahead : (front back : List SheetRow) (row : SheetRow) → ShareNoMoment (front ++ (row ∷ back))
    → following front row back ≡ filter (is_ahead row) (front ++ (row ∷ back))
following-ahead front back row h =
    let own : is_at row.who row.at row ≡ true = grind (arith, nat_tests, same-itself row.who) in
    let late = late-ahead row back (none-behind (is_at row.who row.at) front back row own (h row.who row.at)) in
    grind (arith, nat_tests, filter-append (is_ahead row) front (row ∷ back))

-- a row with those of all rows that are ahead
abbrev plain : List SheetRow → SheetRow → Followed
plain all row = record { row = row; by = filter (is_ahead row) all }

followed-plain : (front back : List SheetRow) → ShareNoMoment (front ++ back) → followed_rows_behind front back ≡ map (plain (front ++ back)) back
followed-plain front [] h = refl
followed-plain front (row ∷ back) h =
    let more = (rw (append_assoc front (row ∷ []) back) at (followed-plain (front ++ (row ∷ [])) back)) h in
    cc (following-ahead front back row h)

next-order : (xs ys : List SheetRow) → IsPermutation xs ys → (row : SheetRow) → next_of (plain xs row) ≡ next_of (plain ys row)
next-order xs ys p row =
    let same = λ (t : ℕ). list_any-IsPermutation (λ other. nat_le other.at t) _ _ (filter-order (is_ahead row) xs ys p) in
    end-unique (next_of (plain xs row)) (next_of (plain ys row)) (λ t. lasts-next t (plain xs row) ∙ ap not (same t) ∙ sym (lasts-next t (plain ys row)))

-- the stays with the ends that all rows give
stays-plain : (xs ys : List SheetRow) → IsPermutation xs ys → (rows : List SheetRow) → stays_of (map (plain xs) rows) ≡ stays_of (map (plain ys) rows)
stays-plain xs ys p [] = refl
stays-plain xs ys p (row ∷ rows) = grind (arith, nat_tests, next-order xs ys p row, stays-plain xs ys p rows)

-- if no two rows of one person share a moment, no two do in another order
pub share-order : (xs ys : List SheetRow) → IsPermutation xs ys → ShareNoMoment xs → ShareNoMoment ys
share-order xs ys p h who t =
    let e = sum_by-IsPermutation (λ row. cond (same_text row.who who && row.at == t) 1 0) xs ys p in let n = h who t in omega (arith, e, n)

-- the stays of such rows are the same whatever the order of the rows, up to their own order
pub stays-order : (xs ys : List SheetRow) → IsPermutation xs ys → ShareNoMoment xs → IsPermutation (stays_by xs) (stays_by ys)
stays-order xs ys p h =
    let moved = filter-order (λ followed. is_enter followed.row.way) _ _ (IsPermutation-map (plain xs) xs ys p) in
    rw (followed-plain [] xs h, followed-plain [] ys (share-order xs ys p h), ← stays-plain xs ys p ys) (IsPermutation-map _ _ _ moved)

-- of such rows the same people are in a room, whatever the order of the rows
pub rows-present : (xs ys : List SheetRow) → IsPermutation xs ys → ShareNoMoment xs → (c t : ℕ) → present_by ys c t ≡ present_by xs c t
rows-present xs ys p h c t = sym (same-present ys c t) ∙ present-order (stays_by xs) (stays_by ys) (stays-order xs ys p h) c t ∙ same-present xs c t

-- a list of rows has one not earlier than m if and only if its last is
reached : (m : ℕ) (rows : List SheetRow) (last : Option SheetRow)
    → last_reaches m (last_onto last rows) ≡ (last_reaches m last || list_any (λ row. nat_le m row.at) rows)
reached m [] last = sym (or-false (last_reaches m last))
reached m (row ∷ rows) last = grind (arith, nat_tests, reached m rows (later_row last row))

uncounted : (who : List ℕ) (t : ℕ) (rows : List SheetRow) → list_any (λ row. same_text row.who who && nat_le t row.at) rows ≡ false
    → count_by (is_at who t) rows ≡ 0
uncounted who t [] h = refl
uncounted who t (row ∷ rows) h = grind (arith, nat_tests, h, count-cons (is_at who t) row rows (is_at who t row) refl, uncounted who t rows)

share-next : (before : List SheetRow) (row : SheetRow) → IsSheet before → InTurn before row → ShareNoMoment before
    → ShareNoMoment (before ++ (row ∷ []))
share-next before row s turn h who t =
    let same = same-is row.who who in
    let none = uncounted row.who row.at before in
    let last = reached row.at (filter (of_person row.who) before) None in
    let one = count-cons (is_at who t) row [] (is_at who t row) refl in
    grind (arith, nat_tests, h who t, any-filter, sum_by-append (λ other. cond (is_at who t other) 1 0) before (row ∷ []))

-- of rows made in turn no two of one person share a moment
pub sheet-shares : (rows : List SheetRow) → IsSheet rows → ShareNoMoment rows
sheet-shares = made-in-turn ShareNoMoment share-next (λ who t. omega arith)

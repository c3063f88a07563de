-- Of a sheet whose rows came in their turn, rows and stays are added alike.
use Rattle.kcr_room.proofs.Common.{◌≡◌, ℕ, Bool, true, false, cond, not, ◌||◌, ◌&&◌, nat_le, List, [], ◌∷◌, ◌++◌, map, Option, Some, None, refl, sym}
use Rattle.kcr_room.proofs.Common.{ap, ◌∙◌, arith, subst, append-nil, append_assoc, list_any, filter, find, filter-append, list_any-append, is_enter}
use Rattle.kcr_room.proofs.Common.{last_enters, last_row_of, is_ahead, stays_by, reaches, is_inside, is_inside_of, is_out_of_turn_in, new_stay}
use Rattle.kcr_room.proofs.Common.{with_end, of_ceremony, stays_after_request, turn_refusal, is_out_of_turn, is_out_of_turn_by, new_row, are_apart}
use Rattle.kcr_room.proofs.Common.{in_turn_onto, IsSheet, same-turned, same-is}
use Rattle.kcr_room.proofs.{Followed.cut, Followed.stays_next, Followed.stays-snoc, Lists.any-filter, Keeping.in_turn-append, Keeping.turn-others}
use Rattle.kcr_room.proofs.Words.{nat_tests, same_text, SheetRow, Way, Enter, Leave, Stay}
use Rattle.kcr_room.proofs.Agreement.{of_person, last-above, last-snoc}

-- an `in` in its turn cuts nothing
cut-enter : (row : SheetRow) (stays : List Stay) → list_any (reaches row.who row.at) stays ≡ false → list_any (is_inside row.who) stays ≡ false
    → map (cut row) stays ≡ stays
cut-enter row [] r i = refl
cut-enter row (stay ∷ stays) r i = grind (arith, nat_tests, r, i, cut-enter row stays)

-- an `out` in its turn ends the person's open stay
cut-leave : (row : SheetRow) (stays : List Stay) → list_any (reaches row.who row.at) stays ≡ false
    → map (cut row) stays ≡ map (with_end (row.who ∷ []) row.at) stays
cut-leave row [] r = refl
cut-leave row (stay ∷ stays) r = grind (arith, nat_tests, r, cut-leave row stays)

-- if no row before is ahead there is no next one
none-ahead : (row : SheetRow) (before : List SheetRow) → list_any (is_ahead row) before ≡ false → filter (is_ahead row) before ≡ []
none-ahead row [] h = refl
none-ahead row (other ∷ before) h = grind (arith, nat_tests, h, none-ahead row before)

-- by the last row: not earlier than a moment; in some room
abbrev pub last_reaches : ℕ → Option SheetRow → Bool
last_reaches at None = false
last_reaches at (Some row) = nat_le at row.at

-- by the last row: in some room
abbrev pub last_inside : Option SheetRow → Bool
last_inside None = false
last_inside (Some row) = is_enter row.way

-- what the stays tell of a person is what the last row tells
pub record Tells (who : List ℕ) (last : Option SheetRow) (stays : List Stay) : Type 0 where
  pub moments : (at : ℕ) → list_any (reaches who at) stays ≡ last_reaches at last
  pub inside : list_any (is_inside who) stays ≡ last_inside last
  pub inside_of : (c : ℕ) → list_any (is_inside_of c who) stays ≡ last_enters c last

-- the stays tell of everybody what the last row tells
abbrev pub AllTell : List SheetRow → List Stay → Type 0
AllTell rows stays = (who : List ℕ) → Tells who (last_row_of rows who) stays

-- it is the turn of the row's person
abbrev pub InTurn : List SheetRow → SheetRow → Type 0
InTurn before row = is_out_of_turn_by before row.ceremony row.way row.at row.who ≡ false

-- so it is a person's turn by the stays if it is by the rows
pub same-turn : (who : List ℕ) (last : Option SheetRow) (stays : List Stay) → Tells who last stays → (c : ℕ) (way : Way) (at : ℕ)
    → is_out_of_turn_in stays c way at who ≡ is_out_of_turn way c at last
same-turn who last stays tells c way at = grind (arith, nat_tests, tells.moments at, tells.inside, tells.inside_of c)

-- if it is the person's turn the last row is earlier
pub earlier-last : (way : Way) (c at : ℕ) (last : Option SheetRow) → is_out_of_turn way c at last ≡ false → last_reaches at last ≡ false
earlier-last way c at last h = grind (arith, nat_tests, h)

no-ahead : (row : SheetRow) (before : List SheetRow) → last_reaches row.at (last_row_of before row.who) ≡ false → list_any (is_ahead row) before ≡ false
no-ahead row before h = grind (arith, nat_tests, any-filter, last-above row.at (filter (of_person row.who) before) None)

-- all stays with the rows of a request
abbrev pub added : ℕ → Way → ℕ → List (List ℕ) → List Stay → List Stay
added c Enter at people stays = stays ++ map (new_stay c at) people
added c Leave at people stays = map (with_end people at) stays

-- the stays with a further row in its turn
next-added : (before : List SheetRow) (stays : List Stay) (row : SheetRow) → Tells row.who (last_row_of before row.who) stays → InTurn before row
    → stays_next before stays row ≡ added row.ceremony row.way row.at (row.who ∷ []) stays
next-added before stays row tells h =
    let front = no-ahead row before in
    grind (arith, nat_tests, tells.moments row.at, cut-enter row stays, cut-leave row stays, none-ahead row before, append-nil)

-- with somebody's open stays closed: what a person's stays reach then, and whether the person is still inside
closed-reaches : (who other : List ℕ) (at t : ℕ) (stays : List Stay)
    → list_any (reaches who t) (map (with_end (other ∷ []) at) stays)
    ≡ (list_any (reaches who t) stays || (same_text other who && (list_any (is_inside who) stays && nat_le t at)))
closed-reaches who other at t [] = grind (arith, nat_tests)
closed-reaches who other at t (stay ∷ stays) =
    grind (arith, nat_tests, same-is stay.who who, same-turned who other, closed-reaches who other at t stays)

closed-inside : (who other : List ℕ) (at : ℕ) (stays : List Stay)
    → list_any (is_inside who) (map (with_end (other ∷ []) at) stays) ≡ (not (same_text other who) && list_any (is_inside who) stays)
closed-inside who other at [] = grind (arith, nat_tests)
closed-inside who other at (stay ∷ stays) =
    grind (arith, nat_tests, same-is stay.who who, same-turned who other, closed-inside who other at stays)

closed-inside_of : (c : ℕ) (who other : List ℕ) (at : ℕ) (stays : List Stay)
    → list_any (is_inside_of c who) (map (with_end (other ∷ []) at) stays) ≡ (not (same_text other who) && list_any (is_inside_of c who) stays)
closed-inside_of c who other at [] = grind (arith, nat_tests)
closed-inside_of c who other at (stay ∷ stays) =
    grind (arith, nat_tests, same-is stay.who who, same-turned who other, closed-inside_of c who other at stays)

-- a further row in its turn is the last of its person, and changes nobody else's last row
last-next : (before : List SheetRow) (row : SheetRow) (who : List ℕ)
    → (same_text row.who who ≡ true → is_out_of_turn row.way row.ceremony row.at (last_row_of before who) ≡ false)
    → last_row_of (before ++ (row ∷ [])) who ≡ cond (same_text row.who who) (Some row) (last_row_of before who)
last-next before row who turn =
    let more = last-snoc None (filter (of_person who) before) row in
    grind (arith, nat_tests, filter-append (of_person who) before (row ∷ []), append-nil)

-- with a further row in its turn the stays tell of everybody what the last row tells
tells-next : (before : List SheetRow) (stays : List Stay) (row : SheetRow) → InTurn before row → AllTell before stays
    → AllTell (before ++ (row ∷ [])) (stays_next before stays row)
tells-next before stays row h tells who = rw (last-next before row who turn, next-added before stays row (tells row.who) h) (record {
  moments = λ at.
      grind (arith, nat_tests, turn, (tells who).moments at, (tells who).inside, list_any-append, closed-reaches who row.who row.at at stays);
  inside = grind (arith, nat_tests, (tells who).inside, list_any-append, closed-inside who row.who row.at stays);
  inside_of = λ c. grind (arith, nat_tests, turn, (tells who).inside_of c, list_any-append, closed-inside_of c who row.who row.at stays);
})
  where
    turn : same_text row.who who ≡ true → is_out_of_turn row.way row.ceremony row.at (last_row_of before who) ≡ false
    turn e = rw (← same-is row.who who e) h

-- one row more in its turn
pub in-turn-more : (before : List SheetRow) (row : SheetRow) → IsSheet before → InTurn before row → IsSheet (before ++ (row ∷ []))
in-turn-more before row s h = grind (arith, nat_tests, s, h, in_turn-append [] before (row ∷ []))

-- what one row more in its turn keeps holds of every sheet
pub made-in-turn : (P : List SheetRow → Type 0)
    → ((before : List SheetRow) (row : SheetRow) → IsSheet before → InTurn before row → P before → P (before ++ (row ∷ [])))
    → P [] → (rows : List SheetRow) → IsSheet rows → P rows
made-in-turn P step none rows s = onto rows [] refl s none
  where
    onto : (rows before : List SheetRow) → IsSheet before → in_turn_onto before rows ≡ true → P before → P (before ++ rows)
    onto [] before s t p = rw (append-nil before) p
    onto (row ∷ rows) before s t p =
        let turn : InTurn before row = grind (arith, nat_tests) in
        let more = in-turn-more before row s turn in
        subst P (append_assoc before (row ∷ []) rows) (onto rows (before ++ (row ∷ [])) more (grind (arith, nat_tests)) (step before row s turn p))

-- the stays of a sheet tell of each person what the last row tells
pub tells-sheet : (rows : List SheetRow) → IsSheet rows → (who : List ℕ) → Tells who (last_row_of rows who) (stays_by rows)
tells-sheet = made-in-turn (λ rows. AllTell rows (stays_by rows))
    (λ before row s h tells. rw (stays-snoc before row) (tells-next before (stays_by before) row h tells))
    (λ who. record { moments = λ at. refl; inside = refl; inside_of = λ c. refl })

-- a further row in its turn
pub row-added : (before : List SheetRow) (row : SheetRow) → IsSheet before → InTurn before row
    → stays_by (before ++ (row ∷ [])) ≡ added row.ceremony row.way row.at (row.who ∷ []) (stays_by before)
row-added before row s h = stays-snoc before row ∙ next-added before (stays_by before) row (tells-sheet before s row.who) h

-- it is somebody's turn by the stays of a sheet if it is by its rows
pub same-turns : (rows : List SheetRow) → IsSheet rows → (c : ℕ) (way : Way) (at : ℕ) (who : List ℕ)
    → is_out_of_turn_by rows c way at who ≡ is_out_of_turn_in (stays_by rows) c way at who
same-turns rows s c way at who = sym (same-turn who (last_row_of rows who) (stays_by rows) (tells-sheet rows s who) c way at)

closed-none : (at : ℕ) (stays : List Stay) → map (with_end [] at) stays ≡ stays
closed-none at [] = refl
closed-none at (stay ∷ stays) = ap (λ rest. stay ∷ rest) (closed-none at stays)

closed-more : (who : List ℕ) (rest : List (List ℕ)) (at : ℕ) (stays : List Stay)
    → map (with_end rest at) (map (with_end (who ∷ []) at) stays) ≡ map (with_end (who ∷ rest) at) stays
closed-more who rest at [] = refl
closed-more who rest at (stay ∷ stays) = grind (arith, nat_tests, closed-more who rest at stays)

added-none : (c : ℕ) (way : Way) (at : ℕ) (stays : List Stay) → added c way at [] stays ≡ stays
added-none c way at stays = grind (arith, append-nil stays, closed-none at stays)

added-more : (c : ℕ) (way : Way) (at : ℕ) (who : List ℕ) (rest : List (List ℕ)) (stays : List Stay)
    → added c way at rest (added c way at (who ∷ []) stays) ≡ added c way at (who ∷ rest) stays
added-more c way at who rest stays =
    grind (arith, append_assoc stays (new_stay c at who ∷ []) (map (new_stay c at) rest), closed-more who rest at stays)

-- the rows of a request whose people all have the turn
pub rows-added : (c : ℕ) (way : Way) (at : ℕ) (people : List (List ℕ)) (before : List SheetRow) → IsSheet before → are_apart people ≡ true
    → turn_refusal (find (is_out_of_turn_by before c way at) people) ≡ None
    → stays_by (before ++ map (new_row c way at) people) ≡ added c way at people (stays_by before)
rows-added c way at [] before s a h = ap stays_by (append-nil before) ∙ sym (added-none c way at (stays_by before))
rows-added c way at (who ∷ rest) before s a h =
    let row : SheetRow = new_row c way at who in
    let one = row-added before row s in
    let more = rows-added c way at rest (before ++ (row ∷ [])) in
    let turns = turn-others before c way at who rest in
    grind (arith, nat_tests, append_assoc, in-turn-more before row s, added-more c way at who rest (stays_by before))

filter-new : (c at : ℕ) (people : List (List ℕ)) → filter (of_ceremony c) (map (new_stay c at) people) ≡ map (new_stay c at) people
filter-new c at [] = refl
filter-new c at (who ∷ rest) = grind (arith, nat_tests, filter-new c at rest)

filter-closed : (c at : ℕ) (people : List (List ℕ)) (stays : List Stay)
    → filter (of_ceremony c) (map (with_end people at) stays) ≡ map (with_end people at) (filter (of_ceremony c) stays)
filter-closed c at people [] = refl
filter-closed c at people (stay ∷ stays) = grind (arith, nat_tests, filter-closed c at people stays)

-- of all stays with the rows of a request those of the ceremony are its stays with them
pub after-added : (stays : List Stay) (c : ℕ) (way : Way) (at : ℕ) (people : List (List ℕ))
    → filter (of_ceremony c) (added c way at people stays) ≡ stays_after_request stays c way people at
after-added stays c way at people = grind (arith, filter-append, filter-new c at people, filter-closed c at people stays)

-- rows added to a sheet in their turn give the ceremony's stays as they are changed
pub same-added : (rows : List SheetRow) → IsSheet rows → (c : ℕ) (way : Way) (at : ℕ) (people : List (List ℕ)) → are_apart people ≡ true
    → turn_refusal (find (is_out_of_turn_by rows c way at) people) ≡ None
    → filter (of_ceremony c) (stays_by (rows ++ map (new_row c way at) people)) ≡ stays_after_request (stays_by rows) c way people at
same-added rows s c way at people a h =
    ap (filter (of_ceremony c)) (rows-added c way at people rows s a h) ∙ after-added (stays_by rows) c way at people

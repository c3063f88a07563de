-- Whether anybody is in the room of a ceremony at a moment or comes or goes later: by the stays that a view shows as by the sheet.
use Rattle.kcr_machine.proofs.Common.{◌≡◌, ℕ, true, not, nat_lt, List, [], ◌∷◌, filter, reverse, length, refl, sym, ap, ◌∙◌, arith, list_any}
use Rattle.kcr_machine.proofs.Common.{nat_tests, lt-ltb, or_left, or_right, cases_Bool, or_cases, list_any-IsPermutation, IsPermutation-reverse}
use Rattle.kcr_machine.proofs.Common.{IsPermutation-sym, any-more, SheetRow, Stay, present_by, stay_reaches, stay_covers, stays_by, headcount_in_by}
use Rattle.kcr_machine.proofs.Common.{same-crowd, History, sheet, is_empty, is_room_used, IsRegister, is_unended, IsIn, any-in, filter-in, in-any}
use Rattle.kcr_machine.proofs.{Common.in-filter, Common.in-order, Common.same-answers, Keyed.Shown, SheetFaults.sheet-made}
use Rattle.kcr_room.proofs.Moments.{crowd-cons}
use Rattle.kcr_machine.proofs.SheetStays.{EndsLater, ends-later, row-bounds, stay-begun}

-- somebody is in the room if some stay holds
held : (c t : ℕ) (stays : List Stay) → nat_lt 0 (headcount_in_by stays c t) ≡ list_any (stay_covers c t) stays
held c t [] = refl
held c t (stay ∷ stays) = grind (arith, crowd-cons stay stays c t, held c t stays)

some_present : (people : List (List ℕ)) → not (is_empty people) ≡ nat_lt 0 (length people)
some_present people = grind (arith, lt-ltb)

present-held : (rows : List SheetRow) (c t : ℕ) → not (is_empty (present_by rows c t)) ≡ list_any (stay_covers c t) (stays_by rows)
present-held rows c t = some_present (present_by rows c t) ∙ ap (λ n. nat_lt 0 n) (sym (same-crowd rows c t)) ∙ held c t (stays_by rows)

-- a stay that has not ended holds, and its person is in the room, or began with a later row
unended-used : (A : History) → IsRegister A → (c t : ℕ) → list_any (is_unended c t) (stays_by (sheet A)) ≡ true → is_room_used A c t ≡ true
unended-used A h c t e = grind (arith, any-in, cases_Bool, stay-begun, sheet-made, or_right, in-any, or_left, present-held)

-- the stay of somebody in the room has not ended, nor one that a later row begins or ends
used-unended : (A : History) → IsRegister A → (c t : ℕ) → is_room_used A c t ≡ true → list_any (is_unended c t) (stays_by (sheet A)) ≡ true
used-unended A h c t e = grind (arith, or_cases, any-more, present-held, any-in, row-bounds, sheet-made, in-any)

-- a stay that has not ended, or begins later, lasts to the moment, as it ends later than it begins
unended-lasts : (c t : ℕ) (stay : Stay) → EndsLater stay → is_unended c t stay ≡ true → stay_reaches c t stay ≡ true
unended-lasts c t stay later e = grind (arith, nat_tests)

-- some stay that is shown has not ended if some stay of the table has not
unended-shown : (table rows : List Stay) (c t : ℕ) → ((stay : Stay) → IsIn stay table → EndsLater stay)
    → Shown (stay_reaches c t) table rows → ((stay : Stay) → IsIn stay rows → IsIn stay table)
    → list_any (is_unended c t) rows ≡ list_any (is_unended c t) table
unended-shown table rows c t later p within = same-answers (list_any (is_unended c t) rows) (list_any (is_unended c t) table) out back
  where
    out : list_any (is_unended c t) rows ≡ true → list_any (is_unended c t) table ≡ true
    out h = grind (arith, any-in, in-any, within)

    back : list_any (is_unended c t) table ≡ true → list_any (is_unended c t) rows ≡ true
    back h =
        let a = any-in (is_unended c t) table h in
        let own = filter-in (stay_reaches c t) a.0 table a.1 (unended-lasts c t a.0 (later a.0 a.1) a.2) in
        let seen = in-order a.0 (filter (stay_reaches c t) rows) (filter (stay_reaches c t) table) (IsPermutation-sym _ _ p) own in
        in-any (is_unended c t) a.0 rows (in-filter (stay_reaches c t) a.0 rows seen).0 a.2

-- the room is used if some stay that is shown has not ended
pub used-shown : (A : History) → IsRegister A → (c t : ℕ) (rows : List Stay) → Shown (stay_reaches c t) (reverse (stays_by (sheet A))) rows
    → ((stay : Stay) → IsIn stay rows → IsIn stay (reverse (stays_by (sheet A))))
    → list_any (is_unended c t) rows ≡ is_room_used A c t
used-shown A h c t rows p within =
    let turned = IsPermutation-reverse (stays_by (sheet A)) in
    let later = λ (s : Stay) (i : IsIn s (reverse (stays_by (sheet A)))).
    ends-later (sheet A) (sheet-made A h) s (in-order s (stays_by (sheet A)) _ turned i) in
    let same = same-answers (list_any (is_unended c t) (stays_by (sheet A))) (is_room_used A c t) (unended-used A h c t) (used-unended A h c t) in
    unended-shown _ rows c t later p within ∙ sym (list_any-IsPermutation (is_unended c t) (stays_by (sheet A)) _ turned) ∙ same

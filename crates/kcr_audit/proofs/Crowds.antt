-- In a ceremony that has no rows nobody is in the room.
use Rattle.kcr_audit.proofs.Common.{◌≡◌, ℕ, ◌≤◌, Bool, true, false, ◌==◌, nat_lt, List, [], ◌∷◌, map, Option, Some, None, refl, sym, ap, subst, ◌∙◌}
use Rattle.kcr_audit.proofs.Common.{arith, option_map, find, Contains, list_any, true≢false, ltb-false, and_parts, eqb-true, eq-eqb, none-find}
use Rattle.kcr_audit.proofs.Common.{any-map, any-more, SheetRow, headcount_by, Followed, followed_rows, Finding, FullView, IsTrueOf, rank, IsSometime}
use Rattle.kcr_audit.proofs.Common.{IsSoughtAmong, is_lone, is_crowd, is_crowd_at}
use Rattle.std.proofs.lemmas.{List.Elements.All-contains, Map.Views.Contains-from_any}
use Rattle.kcr_room.specs.{declared.Stay.Stay, Moments.IsEver}
use Rattle.kcr_room.specs.Stays.{stay_covers, stays_of, stays_by, is_crowd_in_by, comings_by}
use Rattle.kcr_room.proofs.{Followed.followed-same, Agreement.same-crowd, Moments.crowded-is_ever}
use Rattle.kcr_audit.proofs.Found.{is-found, counted-any}

-- the stay, the row is of the ceremony
abbrev of_stay : ℕ → Stay → Bool
of_stay c stay = stay.ceremony == c

abbrev of_row : ℕ → SheetRow → Bool
of_row c row = row.ceremony == c

-- a stay is of a ceremony that has a row
stays-listed : (c : ℕ) (all : List Followed) → list_any (of_stay c) (stays_of all) ≡ true → list_any (of_row c) (map (λ followed. followed.row) all) ≡ true
stays-listed c [] h = h
stays-listed c (followed ∷ all) h = grind (arith, h, stays-listed c all)

-- if somebody is in the room the ceremony has a row
crowd-listed : (rows : List SheetRow) (c t : ℕ) → 1 ≤ headcount_by rows c t → Contains (map (λ row. row.ceremony) rows) c
crowd-listed rows c t h =
    let held : list_any (stay_covers c t) (stays_by rows) ≡ true = grind (arith, counted-any, same-crowd rows c t) in
    let some : list_any (of_stay c) (stays_by rows) ≡ true = any-more (stay_covers c t) (of_stay c) (stays_by rows) (λ stay g. grind arith) held in
    Contains-from_any {eq = λ m n. n == m} (λ x y e. sym (eqb-true y x e)) c (map (λ row. row.ceremony) rows)
    (any-map (λ n. n == c) (λ row. row.ceremony) rows
    ∙ subst (λ all. list_any (of_row c) all ≡ true) (followed-same [] rows) (stays-listed c (followed_rows rows) some))

-- a test that fails for all ceremonies that have rows fails wherever somebody is in the room
pub none-listed : (test : List SheetRow → ℕ → ℕ → Bool) (sheet all rows : List SheetRow) (numbers list : List ℕ) (found : Option (ℕ × ℕ)) → all ≡ sheet
    → rows ≡ sheet → list ≡ numbers → found ≡ None
    → ((c : ℕ) → Contains (map (λ row. row.ceremony) all) c → Contains numbers c) → IsSoughtAmong (test rows) list found
    → (c t : ℕ) → 1 ≤ headcount_by sheet c t → test sheet c t ≡ false
none-listed test sheet all rows numbers list found e f g h listed none c t some =
    let among = rw (f, g, h) at none in
    All-contains (λ c. (t : ℕ) → test sheet c t ≡ false) numbers c among (listed c (rw e (crowd-listed sheet c t some))) t

-- if at no moment anybody is alone in a room, no finding of somebody alone is true
pub none-lone : (view : FullView) → ((c t : ℕ) → 1 ≤ headcount_by view.sheet.items c t → is_lone view.sheet.items c t ≡ false) → (finding : Finding)
    → rank finding ≡ 4 → IsTrueOf view finding → ⊥
none-lone view none finding r h = grind (arith, true≢false, eq-eqb)

-- if at no moment a room has too many people, no finding of a crowd is true
pub none-crowd : (view : FullView) → ((c t : ℕ) → 1 ≤ headcount_by view.sheet.items c t → is_crowd view.sheet.items c t ≡ false) → (finding : Finding)
    → rank finding ≡ 5 → IsTrueOf view finding → ⊥
none-crowd view none finding r h = grind (arith, ltb-false)

-- if there are not too many at the beginning of any stay there are not if somebody comes
none-coming : (all stays : List Stay) (c : ℕ) → list_any (is_crowd_at all c) stays ≡ false → list_any (is_crowd_in_by all c) (comings_by stays c) ≡ false
none-coming all [] c h = refl
none-coming all (stay ∷ stays) c h = grind (arith, h, none-coming all stays c)

-- the stay at whose beginning there are too many tells of such a moment
pub crowded : (rows : List SheetRow) (c : ℕ) (stays : List Stay) (found : Option ℕ) → stays ≡ stays_by rows
    → found ≡ option_map (λ stay. stay.since) (find (is_crowd_at stays c) stays) → IsSometime (is_crowd rows c) found
crowded rows c stays found e f = subst (IsSometime (is_crowd rows c)) (sym f) (by_find (find (is_crowd_at stays c) stays) refl)
  where
    here : (t : ℕ) → is_crowd_in_by stays c t ≡ is_crowd rows c t
    here t = ap (λ s. is_crowd_in_by s c t) e ∙ ap (λ n. nat_lt 128 n) (same-crowd rows c t)

    by_find : (o : Option Stay) → find (is_crowd_at stays c) stays ≡ o → IsSometime (is_crowd rows c) (option_map (λ stay. stay.since) o)
    by_find (Some stay) h = grind (arith, here, and_parts, is-found)
    by_find None h = λ t. sym (here t)
        ∙ subst (IsEver (is_crowd_in_by stays c)) (none-coming stays stays c (none-find (is_crowd_at stays c) stays h)) (crowded-is_ever stays c) t

-- The appointments of one place, and those of one person: each begins if the older ones have ended.
use Rattle.kcr_history.proofs.Common.{◌≡◌, ℕ, ◌<◌, ◌≤◌, Bool, true, false, cond, not, ◌&&◌, nat_le, eqb, List, [], ◌∷◌, map, Option, Some, None}
use Rattle.kcr_history.proofs.Common.{is_none, refl, sym, ap, ◌∙◌, arith, subst, inl, inr, list_any, list_all, AllByRecursion, both_ways, eq-eqb}
use Rattle.kcr_history.proofs.Common.{not-true, and_left, and_parts, and_from, or_left, or_right, false_from_ne_true, or_parts, nat_tests, same_place}
use Rattle.kcr_history.proofs.Common.{same_text, Place, Appointment, put, any-map, find-cases, place-same, place-itself, lasts, lasts_beyond, end_at}
use Rattle.kcr_history.proofs.Common.{ends_after, place_held_from_by, person_holds_from_by, open_row_by, is_open_ended, holds, holder_by, ended}
use Rattle.kcr_history.specs.Changes.{same_appointment}

-- LISTS OF WHICH NO ROW PASSES A TEST

-- if no element passes a test, none passes a stricter one
pub none-weaker : {X : Type 0} (p q : X → Bool) → ((x : X) → p x ≡ false → q x ≡ false) → (xs : List X) → list_any p xs ≡ false → list_any q xs ≡ false
none-weaker p q one [] h = refl
none-weaker p q one (x ∷ xs) h = grind (arith, h, one x, none-weaker p q one xs)

-- a change that leaves each row that fails the test leaves the list
unchanged : {X : Type 0} (p : X → Bool) (f : X → X) → ((x : X) → p x ≡ false → f x ≡ x) → (xs : List X) → list_any p xs ≡ false → map f xs ≡ xs
unchanged p f one [] h = refl
unchanged p f one (x ∷ xs) h = let r = or_parts (p x) (list_any p xs) h in λ i. one x r.0 i ∷ unchanged p f one xs r.1 i

-- ROWS THAT HAVE ENDED

-- when a row was put, the place had no holder from its first day on
abbrev pub stacked : List Appointment → Bool
stacked [] = true
stacked (row ∷ rows) = not (place_held_from_by rows row.place row.since) && stacked rows

older : (row : Appointment) (rows : List Appointment) → stacked (row ∷ rows) ≡ true → place_held_from_by rows row.place row.since ≡ false × stacked rows ≡ true
older row rows s = let p = and_parts (not (place_held_from_by rows row.place row.since)) (stacked rows) s in (not-true _ p.0, p.1)

-- rows that have ended by a day have ended by a later one
pub later_free : (place : Place) (first day : ℕ) (rows : List Appointment) → first ≤ day → place_held_from_by rows place first ≡ false
    → place_held_from_by (map (ended place day) rows) place day ≡ false
later_free place first day rows l h = any-map _ (ended place day) rows ∙ none-weaker _ _ (λ row. until (same_place row.place place) row.until) rows h
  where
    until : (s : Bool) (u : Option ℕ) → (s && ends_after u first) ≡ false → (s && ends_after (end_at s u day) day) ≡ false
    until s u e = grind (arith, nat_tests)

-- they get no other end
past-same : (place : Place) (first day : ℕ) (rows : List Appointment) → place_held_from_by rows place first ≡ false → map (ended place day) rows ≡ rows
past-same place first day rows h =
    unchanged _ (ended place day) (λ row e. ap (λ u. record row { until = u }) (until (same_place row.place place) row.until e)) rows h
  where
    until : (s : Bool) (u : Option ℕ) → (s && ends_after u first) ≡ false → end_at s u day ≡ u
    until s u e = grind (arith, nat_tests)

-- an end keeps those ended that have, whatever place and person they are of
ended-still : (of : Place → List ℕ → Bool) (place : Place) (day first : ℕ) (rows : List Appointment)
    → list_any (λ row. of row.place row.who && lasts_beyond first row) rows ≡ false
    → list_any (λ row. of row.place row.who && lasts_beyond first row) (map (ended place day) rows) ≡ false
ended-still of place day first rows h =
    any-map _ (ended place day) rows ∙ none-weaker _ _ (λ row. until (of row.place row.who) (same_place row.place place) row.until) rows h
  where
    until : (t s : Bool) (u : Option ℕ) → (t && ends_after u first) ≡ false → (t && ends_after (end_at s u day) first) ≡ false
    until t s u e = grind (arith, nat_tests)

-- so the rows stay stacked
pub stacked-ended : (place : Place) (day : ℕ) (rows : List Appointment) → stacked rows ≡ true → stacked (map (ended place day) rows) ≡ true
stacked-ended place day [] s = refl
stacked-ended place day (row ∷ rows) s =
    grind (arith, ended-still (λ p who. same_place p row.place) place day row.since rows, stacked-ended place day rows)

-- the same of a person: when a row was put, the person held no place from its first day on
abbrev pub in_turn : List Appointment → Bool
in_turn [] = true
in_turn (row ∷ rows) = not (person_holds_from_by rows row.who row.since) && in_turn rows

-- a person who holds no place from a day on still holds none if an appointment gets an end
pub free-ended : (place : Place) (day : ℕ) (who : List ℕ) (first : ℕ) (rows : List Appointment) → person_holds_from_by rows who first ≡ false
    → person_holds_from_by (map (ended place day) rows) who first ≡ false
free-ended place day who first rows h = ended-still (λ p other. same_text other who) place day first rows h

-- rows that are in turn stay so if an appointment gets an end
pub in_turn-ended : (place : Place) (day : ℕ) (rows : List Appointment) → in_turn rows ≡ true → in_turn (map (ended place day) rows) ≡ true
in_turn-ended place day [] t = refl
in_turn-ended place day (row ∷ rows) t = grind (arith, free-ended place day row.who row.since rows, in_turn-ended place day rows)

-- if the place has no holder from the day on, no row of the place begins on it
pub no_begin : (place : Place) (day : ℕ) (rows : List Appointment) → list_all lasts rows ≡ true → place_held_from_by rows place day ≡ false
    → list_any (λ row. same_place row.place place && eqb row.since day) rows ≡ false
no_begin place day [] l h = refl
no_begin place day (row ∷ rows) l h = grind (arith, nat_tests, no_begin place day rows)

-- THE OPEN ROW

-- the row has no end and the older rows of its place have ended by its first day; the younger are of other places
data IsOpen (r : Appointment) : List Appointment → Type 0 where
  here : (rows : List Appointment) → is_none r.until ≡ true → place_held_from_by rows r.place r.since ≡ false → IsOpen r (r ∷ rows)
  below : (row : Appointment) (rows : List Appointment) → same_place row.place r.place ≡ false → IsOpen r rows → IsOpen r (row ∷ rows)

no_end : (s : Bool) (u : Option ℕ) (day : ℕ) → s ≡ true → is_none u ≡ true → (s && ends_after u day) ≡ true
no_end s u day p e = grind arith

end-other : (s : Bool) (u : Option ℕ) (day : ℕ) → s ≡ false → end_at s u day ≡ u
end-other s u day e = grind arith

-- a place with an open row is held
open-held : (r : Appointment) (day : ℕ) {rows : List Appointment} → IsOpen r rows → place_held_from_by rows r.place day ≡ true
open-held r day (here rows e free) = or_left _ (place_held_from_by rows r.place day) (no_end (same_place r.place r.place) r.until day (place-itself r.place) e)
open-held r day (below row rows apart o) = or_right (same_place row.place r.place && lasts_beyond day row) _ (open-held r day o)

opened : (place : Place) (r : Appointment) (rows : List Appointment) → stacked rows ≡ true → open_row_by rows place ≡ Some r → (r.place ≡ place) × IsOpen r rows
opened place r [] s h = absurd (let e : None ≡ Some r = h in cc)
opened place r (row ∷ rows) s h =
    let o = older row rows s in
    elim (find-cases (is_open_ended place row) row r (open_row_by rows place) h) [
      | inl (p, e) ↦
          let q = and_parts (same_place row.place place) (is_none row.until) p in
          subst (λ r. (r.place ≡ place) × IsOpen r (row ∷ rows)) e (place-same row.place place q.0, here rows q.1 o.0)
      | inr (p, e) ↦
          let it = opened place r rows o.1 e in
          (it.0, below row rows (false_from_ne_true _ (λ same. both_ways _ (rw (place-same row.place r.place same) at o.0) (open-held r row.since it.1))) it.1)
    ]

-- after its end the place has no holder
pub closing : (place : Place) (day : ℕ) (r : Appointment) (rows : List Appointment) → stacked rows ≡ true → open_row_by rows place ≡ Some r → r.since < day
    → place_held_from_by (map (ended place day) rows) place day ≡ false
closing place day r rows s h l = let it = opened place r rows s h in subst (λ p. place_held_from_by (map (ended p day) rows) p day ≡ false) it.0 (closed it.1)
  where
    closed : {rows : List Appointment} → IsOpen r rows → place_held_from_by (map (ended r.place day) rows) r.place day ≡ false
    closed (here rows e free) = grind (arith, nat_tests, later_free r.place r.since day rows (omega arith) free)
    closed (below row rows apart o) = grind (arith, apart, closed o)

-- each row lasts beyond its first day, and still does if the open one ends after its own first day
pub lasts-ended : (place : Place) (day : ℕ) (r : Appointment) (rows : List Appointment) → stacked rows ≡ true → list_all lasts rows ≡ true
    → open_row_by rows place ≡ Some r → r.since < day → list_all lasts (map (ended place day) rows) ≡ true
lasts-ended place day r rows s t h l = let it = opened place r rows s h in subst (λ p. list_all lasts (map (ended p day) rows) ≡ true) it.0 (still it.1 t)
  where
    still : {rows : List Appointment} → IsOpen r rows → list_all lasts rows ≡ true → list_all lasts (map (ended r.place day) rows) ≡ true
    still (here rows e free) t = grind (arith, nat_tests, past-same r.place r.since day rows free)
    still (below row rows apart o) t = grind (arith, apart, still o)

-- the row with its end under its key is the list with the end
pub put-ended : (place : Place) (day : ℕ) (r : Appointment) (rows : List Appointment) → stacked rows ≡ true → list_all lasts rows ≡ true
    → open_row_by rows place ≡ Some r
    → put same_appointment (record r { until = Some day }) rows ≡ map (ended place day) rows
put-ended place day r rows s t h = let it = opened place r rows s h in rw (keyed it.1, ← it.0) (replaced it.1 t)
  where
    has_key : Appointment → Bool
    has_key old = same_place old.place r.place && eqb old.since r.since

    own : has_key r ≡ true
    own = and_from _ _ (place-itself r.place) (eq-eqb r.since r.since refl)

    keyed : {rows : List Appointment} → IsOpen r rows → list_any has_key rows ≡ true
    keyed (here rows e free) = or_left _ _ own
    keyed (below row rows apart o) = or_right (has_key row) _ (keyed o)

    with_end : (s : Bool) (u : Option ℕ) → s ≡ true → is_none u ≡ true → Some day ≡ end_at s u day
    with_end s u p e = grind arith

    replaced : {rows : List Appointment} → IsOpen r rows → list_all lasts rows ≡ true
        → map (λ old. cond (has_key old) (record r { until = Some day }) old) rows ≡ map (ended r.place day) rows
    replaced (here rows e free) t =
        let head : cond (has_key r) (record r { until = Some day }) r ≡ ended r.place day r =
        rw own (ap (λ u. record r { until = u }) (with_end (same_place r.place r.place) r.until (place-itself r.place) e)) in
        let rest = unchanged has_key (λ old. cond (has_key old) (record r { until = Some day }) old) (λ old other. rw other refl) rows
        (no_begin r.place r.since rows (and_parts (lasts r) (list_all lasts rows) t).1 free) in
        λ i. head i ∷ (rest ∙ sym (past-same r.place r.since day rows free)) i
    replaced (below row rows apart o) t =
        let head : cond (has_key row) (record r { until = Some day }) row ≡ ended r.place day row =
        rw (and_left _ _ apart) (ap (λ u. record row { until = u }) (sym (end-other (same_place row.place r.place) row.until day apart))) in
        λ i. head i ∷ replaced o (and_parts (lasts row) (list_all lasts rows) t).1 i

-- THE ONLY OPEN ROW

-- what stands for the place is this row
abbrev IsOnly : Place → Appointment → Appointment → Type 0
IsOnly place r row = is_open_ended place row ≡ true → row ≡ r

none-stands : (r : Appointment) (first : ℕ) (rows : List Appointment) → place_held_from_by rows r.place first ≡ false → AllByRecursion (IsOnly r.place r) rows
none-stands r first [] h = tt
none-stands r first (row ∷ rows) h = (λ q. grind arith, none-stands r first rows (grind arith))

-- the open row of a place is its only row without an end
pub only-one : (place : Place) (r : Appointment) (rows : List Appointment) → stacked rows ≡ true → open_row_by rows place ≡ Some r
    → AllByRecursion (IsOnly place r) rows
only-one place r rows s h = let it = opened place r rows s h in subst (λ p. AllByRecursion (IsOnly p r) rows) it.0 (only it.1)
  where
    only : {rows : List Appointment} → IsOpen r rows → AllByRecursion (IsOnly r.place r) rows
    only (here rows e free) = (λ _. refl, none-stands r r.since rows free)
    only (below row rows apart o) = (λ q. absurd (both_ways _ apart (and_parts (same_place row.place r.place) (is_none row.until) q).0), only o)

-- THE HOLDER

-- an end by a command that says nothing of the place on day d leaves what the row says of it
holds-ended : (at place : Place) (since d : ℕ) (row : Appointment) → (same_place at place && nat_le since d) ≡ false
    → holds place d (ended at since row) ≡ holds place d row
holds-ended at place since d row h = grind (arith, nat_tests, place-same row.place place, place-same row.place at, place-itself place)

-- an end of another place, or on a later day, leaves who holds the place on the day
pub find-ended : (at place : Place) (since d : ℕ) (rows : List Appointment) → (same_place at place && nat_le since d) ≡ false
    → holder_by (map (ended at since) rows) place d ≡ holder_by rows place d
find-ended at place since d [] h = refl
find-ended at place since d (row ∷ rows) h = grind (arith, holds-ended at place since d row h, find-ended at place since d rows h)

-- a place that is free from a day on has no holder on a later one
pub free-none : (place : Place) (since d : ℕ) (rows : List Appointment) → since ≤ d → place_held_from_by rows place since ≡ false
    → list_any (holds place d) rows ≡ false
free-none place since d rows l h = none-weaker _ (holds place d) (λ row. past (same_place row.place place) (nat_le row.since d) row.until) rows h
  where
    past : (s b : Bool) (u : Option ℕ) → (s && ends_after u since) ≡ false → ((s && b) && ends_after u d) ≡ false
    past s b u q = grind (arith, nat_tests)

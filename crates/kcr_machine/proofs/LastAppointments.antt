-- A view with the last appointment to a place, or of a person, tells of the place or of the person what all appointments of the register tell.
use Rattle.kcr_machine.proofs.Common.{◌≡◌, ℕ, ◌≤◌, Bool, true, false, ◌&&◌, nat_le, List, [], ◌∷◌, Option, Some, None, refl, sym, ap, ◌∙◌, subst, ◌⊎◌}
use Rattle.kcr_machine.proofs.Common.{inl, inr, arith, list_any, list_all, All, AllByRecursion, and_parts, and_from, nat_tests, All-head, All-tail}
use Rattle.kcr_machine.proofs.Common.{All-from_recursion, Place, find-none, none-find, some-find, find-only, IsIn, any-in, in-any, none-in}
use Rattle.kcr_machine.proofs.Common.{none-passes, same-answers, place-same, same-is, Appointment, ends_after, lasts, lasts_beyond}
use Rattle.kcr_machine.proofs.Common.{place_held_from_by, person_holds_from_by, open_row_by, ever_put_by, is_open_ended, History, IsRegister}
use Rattle.kcr_machine.proofs.Common.{appointments, is_appointment_to, is_appointment_of, ShowsLastOf, orderly, turns, stacked, in_turn, only-one}

-- WHAT HOLDS OF EACH ROW

each-in : {X : Type 0} (P : X → Type 0) (x : X) (xs : List X) → All P xs → IsIn x xs → P x
each-in P x [] a i = absurd i
each-in P x (y ∷ ys) a (inl e) = subst P (sym e) (All-head P y ys a)
each-in P x (y ∷ ys) a (inr i) = each-in P x ys (All-tail P y ys a) i

all-in : {X : Type 0} (test : X → Bool) (x : X) (xs : List X) → list_all test xs ≡ true → IsIn x xs → test x ≡ true
all-in test x [] a i = absurd i
all-in test x (y ∷ ys) a i = grind (arith, all-in test x ys)

of-each : {X : Type 0} (P : X → Type 0) (xs : List X) → ((x : X) → IsIn x xs → P x) → AllByRecursion P xs
of-each P [] h = tt
of-each P (x ∷ xs) h = (h x (inl refl), of-each P xs (λ y i. h y (inr i)))

-- ROWS THAT COME ONE AFTER THE OTHER

-- each row that passes the test begins if the older ones that pass have ended
abbrev InTurn : (Appointment → Bool) → List Appointment → Type 0
InTurn test [] = Unit {0}
InTurn test (row ∷ rows) = (test row ≡ true → list_any (λ old. test old && lasts_beyond row.since old) rows ≡ false) × InTurn test rows

-- those to a place do
place-turns : (place : Place) (rows : List Appointment) → stacked rows ≡ true → InTurn (is_appointment_to place) rows
place-turns place [] s = tt
place-turns place (row ∷ rows) s = (λ own. grind (arith, place-same row.place place), place-turns place rows (grind arith))

-- and those of a person
person-turns : (who : List ℕ) (rows : List Appointment) → in_turn rows ≡ true → InTurn (is_appointment_of who) rows
person-turns who [] t = tt
person-turns who (row ∷ rows) t = (λ own. grind (arith, same-is row.who who), person-turns who rows (grind arith))

-- of two rows that pass the one that begins no later is the other, or has ended when the other begins
one-or-ended : (test : Appointment → Bool) (rows : List Appointment) → InTurn test rows → list_all lasts rows ≡ true → (a b : Appointment)
    → IsIn a rows → IsIn b rows → test a ≡ true → test b ≡ true → a.since ≤ b.since → (a ≡ b) ⊎ (lasts_beyond b.since a ≡ false)
one-or-ended test [] t l a b i j own its before = absurd i
one-or-ended test (x ∷ xs) t l a b (inl e) (inl f) own its before = inl (e ∙ sym f)
one-or-ended test (x ∷ xs) t l a b (inl e) (inr j) own its before =
    let ended = none-in (λ old. test old && lasts_beyond x.since old) b xs (t.0 (sym (ap test e) ∙ own)) j in
    let lasting : ends_after b.until b.since ≡ true = all-in lasts b (x ∷ xs) l (inr j) in
    absurd (grind (arith, nat_tests))
one-or-ended test (x ∷ xs) t l a b (inr i) (inl f) own its before =
    let ended = none-in (λ old. test old && lasts_beyond x.since old) a xs (t.0 (sym (ap test f) ∙ its)) i in
    inr (rw f (grind arith))
one-or-ended test (x ∷ xs) t l a b (inr i) (inr j) own its before =
    one-or-ended test xs t.1 (and_parts (lasts x) (list_all lasts xs) l).1 a b i j own its before

-- A VIEW WITH THE LAST ONE

module _ (test : Appointment → Bool) (table rows : List Appointment) (turns : InTurn test table) (lasting : list_all lasts table ≡ true)
    (inside : (row : Appointment) → IsIn row rows → IsIn row table) (last : ShowsLastOf test table rows) where
  -- for each row of the table that passes the view has that very row, or one that passes and begins when it has ended
  shown-for : (row : Appointment) → IsIn row table → test row ≡ true
      → (shown : Appointment) × IsIn shown rows × (test shown ≡ true) × ((row ≡ shown) ⊎ (lasts_beyond shown.since row ≡ false))
  shown-for row i own =
      let a = any-in (λ shown. test shown && nat_le row.since shown.since) rows
      (each-in (λ row. test row ≡ true → list_any (λ shown. test shown && nat_le row.since shown.since) rows ≡ true) row table last i own) in
      let p = and_parts (test a.0) (nat_le row.since a.0.since) a.2 in
      (a.0, a.1, p.0, one-or-ended test table turns lasting row a.0 i (inside a.0 a.1) own p.0 (grind arith))

  -- whether there is one
  any-last : list_any test rows ≡ list_any test table
  any-last = grind (arith, same-answers, any-in, in-any, shown-for)

  -- whether one lasts beyond a day
  beyond-last : (day : ℕ) → list_any (λ row. test row && lasts_beyond day row) rows ≡ list_any (λ row. test row && lasts_beyond day row) table
  beyond-last day = grind (arith, same-answers, any-in, in-any, and_parts, shown-for, and_from, nat_tests, all-in)

-- OF A PLACE

module _ (A : History) (h : IsRegister A) (place : Place) (rows : List Appointment) (inside : (row : Appointment) → IsIn row rows → IsIn row (appointments A))
    (last : ShowsLastOf (is_appointment_to place) (appointments A) rows) where
  to-place : InTurn (is_appointment_to place) (appointments A)
  to-place = place-turns place (appointments A) (orderly A h).0

  -- whether the place is held on the day or later
  pub place-last : (day : ℕ) → place_held_from_by rows place day ≡ place_held_from_by (appointments A) place day
  place-last = beyond-last (is_appointment_to place) (appointments A) rows to-place (orderly A h).1 inside last

  -- the appointment that has no end
  pub open-last : open_row_by rows place ≡ open_row_by (appointments A) place
  open-last = by_row (open_row_by (appointments A) place) refl
    where
      only : (r : Appointment) → open_row_by (appointments A) place ≡ Some r → (row : Appointment) → IsIn row rows → is_open_ended place row ≡ true → row ≡ r
      only r e row i =
          each-in (λ row. is_open_ended place row ≡ true → row ≡ r) row (appointments A)
          (All-from_recursion (λ row. is_open_ended place row ≡ true → row ≡ r) (appointments A) (only-one place r (appointments A) (orderly A h).0 e)) (inside row i)

      one : (r : Appointment) → open_row_by (appointments A) place ≡ Some r → list_any (is_open_ended place) rows ≡ true
      one r e =
          let a = any-in (is_open_ended place) (appointments A) (some-find (is_open_ended place) r (appointments A) e) in
          let s = shown-for (is_appointment_to place) (appointments A) rows to-place (orderly A h).1 inside last a.0 a.1 (grind arith) in
          in-any (is_open_ended place) s.0 rows s.1 (grind arith)

      by_row : (o : Option Appointment) → open_row_by (appointments A) place ≡ o → open_row_by rows place ≡ o
      by_row None e = grind (arith, find-none, none-passes, none-in, none-find)
      by_row (Some r) e = find-only (is_open_ended place) r rows (of-each (λ row. is_open_ended place row ≡ true → row ≡ r) rows (only r e)) (one r e)

-- OF A PERSON

module _ (A : History) (h : IsRegister A) (who : List ℕ) (rows : List Appointment) (inside : (row : Appointment) → IsIn row rows → IsIn row (appointments A))
    (last : ShowsLastOf (is_appointment_of who) (appointments A) rows) where
  of-person : InTurn (is_appointment_of who) (appointments A)
  of-person = person-turns who (appointments A) (turns A h)

  -- whether the person was ever put in a place
  pub put-last : ever_put_by rows who ≡ ever_put_by (appointments A) who
  put-last = any-last (is_appointment_of who) (appointments A) rows of-person (orderly A h).1 inside last

  -- whether the person holds a place on the day or later
  pub person-last : (day : ℕ) → person_holds_from_by rows who day ≡ person_holds_from_by (appointments A) who day
  person-last = beyond-last (is_appointment_of who) (appointments A) rows of-person (orderly A h).1 inside last

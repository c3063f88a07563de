-- Who holds a place alone.
use Rattle.kcr_laws.proofs.Common.{◌≡◌, ℕ, true, false, List, [], ◌∷◌, find, Some, inl, inr, arith, list_any, AllByRecursion, both_ways, or_parts}
use Rattle.kcr_laws.proofs.Common.{cases_Bool, nat_tests, Place, place-same, Appointment, holds, place_held_from_by, stacked, free-none}

-- if a row holds a place on a day none that was put before it does
pub none-below : (place : Place) (day : ℕ) (row : Appointment) (rows : List Appointment) → stacked (row ∷ rows) ≡ true → holds place day row ≡ true
    → list_any (holds place day) rows ≡ false
none-below place day row rows s k =
    let n : place_held_from_by rows row.place row.since ≡ false = grind arith in
    free-none place row.since day rows (grind (arith, nat_tests)) (rw (place-same row.place place (grind arith)) at n)

-- a row that holds the place on the day is the only one of the older and it
pub only-holder : (place : Place) (day : ℕ) (r : Appointment) (rows : List Appointment) → stacked rows ≡ true → find (holds place day) rows ≡ Some r
    → AllByRecursion (λ row. holds place day row ≡ true → row ≡ r) rows
only-holder place day r [] s e = tt
only-holder place day r (row ∷ rows) s e = elim (cases_Bool (holds place day row)) [
  | inl k ↦ (λ _. grind (arith, e, k), nobody_else rows (none-below place day row rows s k))
  | inr k ↦ (λ z. absurd (both_ways _ k z), only-holder place day r rows (grind arith) (grind (arith, e, k)))
]
  where
    nobody_else : (olds : List Appointment) → list_any (holds place day) olds ≡ false → AllByRecursion (λ old. holds place day old ≡ true → old ≡ r) olds
    nobody_else [] n = tt
    nobody_else (old ∷ olds) n =
        let q = or_parts (holds place day old) (list_any (holds place day) olds) n in
        (λ k. absurd (both_ways _ q.0 k), nobody_else olds q.1)

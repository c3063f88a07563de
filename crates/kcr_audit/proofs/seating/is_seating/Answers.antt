use Rattle.kcr_audit.proofs.Common.{◌≡◌, ◌≢◌, ℕ, suc, false, List, [], ◌∷◌, length, refl, sym, ap, arith, and_right, Seat, FullView, is_seating_by}
use Rattle.kcr_history.specs.declared.row_types.CeremonyRow.{CeremonyRow}
use Rattle.kcr_audit.proofs.seating.is_seating.Goals as goal

-- if there are not as many people as seats, they are no seating
unequal : (view : FullView) (ceremony : CeremonyRow) (t : ℕ) (seats : List Seat) (people : List (List ℕ))
    → length seats ≢ length people → is_seating_by view ceremony t seats people ≡ false
unequal view ceremony t [] [] h = absurd (h refl)
unequal view ceremony t [] (who ∷ people) h = refl
unequal view ceremony t (seat ∷ seats) [] h = refl
unequal view ceremony t (seat ∷ seats) (who ∷ people) h = grind (arith, and_right, unequal view ceremony t seats people (λ e. h (ap suc e)))

pub returns-then-seats-people : goal.returns-then-seats-people
returns-then-seats-people c = sym (unequal c.args.view.now c.args.ceremony.now c.args.at c.args.seats.now c.args.people.now c.if-seats-people.true)

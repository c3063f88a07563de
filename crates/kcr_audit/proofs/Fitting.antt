-- Who fits a seat by the rows of a register, in whatever order, is who fits it by its history.
use Rattle.kcr_audit.proofs.Common.{◌≡◌, ℕ, true, ◌==◌, List, [], ◌∷◌, Some, refl, sym, ap, ◌∙◌, arith, rules, IsPermutation, eqb-true}
use Rattle.kcr_audit.proofs.Common.{list_any-IsPermutation, any-map, all-keys, find-only, only-order, Seat, FullView, eligible_by, is_seating_by}
use Rattle.kcr_audit.proofs.Common.{ceremony_in, History, values_of_acts, is_ceremony, fits, eligible, is_seating, ceremonies, ceremony_row}
use Rattle.kcr_audit.proofs.Common.{planned_number, tables, SameTables, IsRegister, tables_of}
use Rattle.kcr_base.specs.declared.place.Facility.{Facility}
use Rattle.kcr_history.specs.Fitting.{fits_by}
use Rattle.kcr_history.proofs.Words.{planned-number}
use Rattle.kcr_audit.proofs.Alike.{shown-in}
use Rattle.kcr_laws.proofs.Staffed.{fits-all}

-- the row of a planned ceremony
pub ceremony-found : (A : History) (view : FullView) → IsPermutation (ceremonies A) view.view.ceremonies.items → (c : ℕ) → is_ceremony A c ≡ true
    → ceremony_in view c ≡ Some (ceremony_row A c)
ceremony-found A view p c k =
    let numbers = values_of_acts planned_number A in
    let own = all-keys (λ row. row.number == c) (ceremony_row A) (ceremony_row A c) (λ n e. ap (ceremony_row A) (eqb-true n c e)) numbers in
    find-only (λ row. row.number == c) (ceremony_row A c) view.view.ceremonies.items
    (only-order (λ row. row.number == c) (ceremony_row A c) (ceremonies A) view.view.ceremonies.items p own)
    (sym (list_any-IsPermutation (λ row. row.number == c) (ceremonies A) view.view.ceremonies.items p)
    ∙ any-map (λ row. row.number == c) (ceremony_row A) numbers ∙ planned-number A c ∙ k)

-- SEATS

module _ (A : History) (h : IsRegister A) (view : FullView) (same : SameTables (tables A) (tables_of view)) where
  fits-same : (facility : Facility) (day : ℕ) (seat : Seat) (who : List ℕ)
      → fits_by view.view.trainings.items view.view.withdrawals.items view.view.appointments.items facility day seat who ≡ fits A facility day seat who
  fits-same = grind (arith, fits-all)

  eligible-same : (c t : ℕ) (seat : Seat) (who : List ℕ) → eligible_by view (ceremony_row A c) t seat who ≡ eligible A c t seat who
  eligible-same c t seat who = grind (arith, shown-in, fits-same)

  -- what is a seating by the rows is one by the history
  pub seating-same : (c t : ℕ) (seats : List Seat) (people : List (List ℕ))
      → is_seating_by view (ceremony_row A c) t seats people ≡ is_seating A c t seats people
  seating-same c t [] [] = refl
  seating-same c t [] (who ∷ people) = refl
  seating-same c t (seat ∷ seats) [] = refl
  seating-same c t (seat ∷ seats) (who ∷ people) = search (rules, eligible-same, seating-same c t seats people)

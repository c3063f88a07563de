-- Whether people fill the seats of a command by the rows of a register is whether they do by its history.
use Rattle.kcr_verify.proofs.Common.{◌≡◌, ℕ, true, false, ◌==◌, List, Option, Some, None, is_some, refl, sym, ap, ◌∙◌, inl, inr, cases_Bool}
use Rattle.kcr_verify.proofs.Common.{list_any-IsPermutation, any-map, find-none, some_if, History, values_of_acts, IsRegister, SeatRequest}
use Rattle.kcr_verify.proofs.Common.{seat_request, SameTables, ceremonies, ceremony_row, planned_number, seats_at, step_row, steps, tables, Act}
use Rattle.kcr_verify.proofs.Common.{Ceremony, Sign, RecordException, FullView, seat_request_by, fill, fill_by}
use Rattle.kcr_base.proofs.RowsLemmas.{filter-order}
use Rattle.kcr_script.specs.declared.script.Step.{Step}
use Rattle.kcr_history.specs.{Audit.ceremony_in, Views.is_step_at, Ceremonies.is_ceremony, Ceremonies.step_at, Ceremonies.steps_of}
use Rattle.kcr_history.proofs.Words.{planned-number}
use Rattle.kcr_rules.specs.Signing.{seats_by, step_by}
use Rattle.kcr_machine.proofs.StepRows.{step-shown}
use Rattle.kcr_audit.specs.Views.{tables_of}
use Rattle.kcr_audit.proofs.Fitting.{ceremony-found, seating-same}

-- a ceremony that is not planned has no row
no_ceremony : (A : History) (view : FullView) → SameTables (tables A) (tables_of view) → (c : ℕ) → is_ceremony A c ≡ false → ceremony_in view c ≡ None
no_ceremony A view same c e =
    find-none (λ row. row.number == c) view.view.ceremonies.items
    (sym (list_any-IsPermutation (λ row. row.number == c) (ceremonies A) view.view.ceremonies.items same.ceremonies)
    ∙ any-map (λ row. row.number == c) (ceremony_row A) (values_of_acts planned_number A) ∙ planned-number A c ∙ e)

-- the seats of a step's row are those of the script, none if it has no such step
row_seats : (A : History) (c k : ℕ) (o : Option Step) → step_at (steps_of A c) k ≡ o
    → seats_by (some_if (is_some o) (step_row A (c, k))) ≡ seats_at (steps_of A c) k
row_seats A c k None e = rw e refl
row_seats A c k (Some step) e = refl

module _ (A : History) (h : IsRegister A) (view : FullView) (same : SameTables (tables A) (tables_of view)) where
  seats_same : (c k : ℕ) → seats_by (step_by view.view.steps.items c k) ≡ seats_at (steps_of A c) k
  seats_same c k =
      let shown = filter-order (is_step_at c k) (steps A) view.view.steps.items same.steps in
      ap seats_by (step-shown A h c k view.view.steps.items shown) ∙ row_seats A c k (step_at (steps_of A c) k) refl

  request_same : (act : Act) → seat_request_by view.view act ≡ seat_request A act
  request_same (Ceremony c at (Sign k)) = rw (seats_same c k) refl
  request_same (Ceremony c at (RecordException text true)) = refl
  request_same act = refl

  fill_same : (s : Option SeatRequest) (people : List (List ℕ)) → fill_by view s people ≡ fill A s people
  fill_same None people = refl
  fill_same (Some s) people = elim (cases_Bool (is_ceremony A s.ceremony)) [
    | inl e ↦ rw (ceremony-found A view same.ceremonies s.ceremony e, e) (ap Some (seating-same A h view same s.ceremony s.at s.seats people))
    | inr e ↦ rw (no_ceremony A view same s.ceremony e, e) refl
  ]

  -- people fill the seats of an act by the rows if and only if by the history
  pub act_filled : (act : Act) (people : List (List ℕ)) → fill_by view (seat_request_by view.view act) people ≡ fill A (seat_request A act) people
  act_filled act people = ap (λ s. fill_by view s people) (request_same act) ∙ fill_same (seat_request A act) people

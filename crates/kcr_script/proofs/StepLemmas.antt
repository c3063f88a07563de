-- One more row of a script.
use Rattle.kcr_script.proofs.Common.{◌≡◌, ℕ, ◌+◌, ◌≤◌, inl, inr, List, [], ◌∷◌, ◌++◌, length, Option, Some, None, refl, ap, ◌∙◌, arith, append_assoc}
use Rattle.kcr_script.proofs.Common.{Step, Fields, IsRow, AreSteps, BreaksFrom, HasSteps}

-- what a reader of a row answers
abbrev pub Reads : ℕ → Fields → Option Step → Type 0
Reads k row found = (step : Step) → IsRow k row step → found ≡ Some step

module _ (k : ℕ) (row : Fields) (rows rest : List Fields) (first : rest ≡ row ∷ rows) where
  -- a row that is not that of its step breaks there
  pub faulty_row : (found : Option Step) → found ≡ None → Reads k row found → BreaksFrom k rest (k + 1)
  faulty_row found none only = rw first (inl (inr (λ step h. (let g = only step h in cc)), refl))

  -- the first of the steps is that of the row
  pub first_step : (found : Option Step) → Reads k row found → (all : List Step) → AreSteps k rest all
      → (step : Step) × (found ≡ Some step) × ((tail : List Step) × AreSteps (k + 1) rows tail × (all ≡ step ∷ tail))
  first_step found only all h = by all (rw first at h)
    where
      by : (all : List Step) → AreSteps k (row ∷ rows) all
          → (step : Step) × (found ≡ Some step) × ((tail : List Step) × AreSteps (k + 1) rows tail × (all ≡ step ∷ tail))
      by [] h = absurd h
      by (step ∷ steps) h = (step, only step h.1, (steps, h.2, refl))

  -- the step of the first row, before the steps of the others, gives the steps of all
  pub on_row : (step : Step) → k ≤ 400 → IsRow k row step → (tail : List Step) → AreSteps (k + 1) rows tail → AreSteps k rest (step ∷ tail)
  on_row step low is tail h = rw first (low, is, h)

  -- if the first row is that of its step, the rows break where the others do
  pub breaks_row : (step : Step) → k ≤ 400 → IsRow k row step → (r : ℕ) → BreaksFrom (k + 1) rows r → BreaksFrom k rest r
  breaks_row step low is r h = rw first (inr (low, step, is, h))

-- pushed at the end, or put before the rest
pub push_before : (done new tail : List Step) (step : Step) → new ≡ done ++ step ∷ [] → new ++ tail ≡ done ++ step ∷ tail
push_before done new tail step e = ap (λ (xs : List Step). xs ++ tail) e ∙ append_assoc done (step ∷ []) tail

-- no rows are the rows of no steps
pub none_left : (rest : List Fields) (k : ℕ) → rest ≡ [] → AreSteps k rest []
none_left rest k e = rw e tt

few_steps : (k : ℕ) (rows : List Fields) (steps : List Step) → AreSteps k rows steps → k ≤ 401 → (length steps + k ≤ 401) × (length steps ≡ length rows)
few_steps k [] [] h low = (omega arith, refl)
few_steps k (row ∷ rows) (step ∷ steps) h low = grind (arith, few_steps (k + 1) rows steps h.2)
few_steps k rows steps h low = absurd h

-- the steps of one row or more are 1 to 400
pub has_steps : (rows : List Fields) (steps : List Step) → AreSteps 1 rows steps → 1 ≤ length rows → HasSteps steps
has_steps rows steps h low = let all = few_steps 1 rows steps h (omega arith) in record { some_step = omega (arith, low, all.1); few = omega (arith, all.0) }

-- Which text is which script, and which row of another text is the first to break a rule.
use Rattle.std.specs.Prelude.{◌≡◌, ◌≢◌, ⊤, ℕ, ◌+◌, ◌≤◌, ◌<◌, ◌⊎◌, List, [], ◌∷◌, length, codes}
use Rattle.std.specs.Fmt.{decimal}
use Rattle.csv.specs.Reading.{AreRecords, default_config, strip_bom}
use Rattle.csv.specs.declared.parser.State.TheVariants as st
use Rattle.kcr_base.specs.{Line.IsLine, declared.limits.TheConstants.MAX_STEPS}
use Rattle.kcr_script.specs.{Seats.StandsFor, declared.script.Step.Step}

-- the fields of a row
abbrev pub Fields : Type 0
Fields = List (List ℕ)

-- the rows of a file, as `csv` reads it
abbrev pub AreRows : List ℕ → List Fields → Type 0
AreRows text rows = AreRecords default_config st.StartRecord (strip_bom text) rows

-- row 1
abbrev pub header : Fields
header = codes "step" ∷ codes "activity" ∷ codes "seats" ∷ []

-- the row of step k
pub record IsRow (k : ℕ) (row : Fields) (step : Step) : Type 0 where
  pub seat_text : List ℕ
  pub three : row ≡ decimal k ∷ step.activity ∷ seat_text ∷ []
  pub activity : IsLine 500 step.activity
  pub seats : StandsFor seat_text step.seats

-- the rows of step k, step k + 1 and so on
abbrev pub AreSteps : ℕ → List Fields → List Step → Type 0
AreSteps k [] [] = ⊤
AreSteps k [] (step ∷ steps) = ⊥
AreSteps k (row ∷ rows) [] = ⊥
AreSteps k (row ∷ rows) (step ∷ steps) = (k ≤ MAX_STEPS) × IsRow k row step × AreSteps (k + 1) rows steps

-- the rows of a script: row 1, then a row for each of 1 to `MAX_STEPS` steps
abbrev pub IsScriptRows : List Fields → List Step → Type 0
IsScriptRows [] steps = ⊥
IsScriptRows (first ∷ rows) steps = (first ≡ header) × (1 ≤ length rows) × AreSteps 1 rows steps

-- row r is the first that is not the row of its step, among those of step k, step k + 1 and so on
abbrev pub BreaksFrom : ℕ → List Fields → ℕ → Type 0
BreaksFrom k [] r = ⊥
BreaksFrom k (row ∷ rows) r =
    (((MAX_STEPS < k) ⊎ ((step : Step) → ¬ (IsRow k row step))) × (r ≡ k + 1))
    ⊎ ((k ≤ MAX_STEPS) × (step : Step) × IsRow k row step × BreaksFrom (k + 1) rows r)

-- row r is the first that breaks a rule
abbrev pub BreaksAt : List Fields → ℕ → Type 0
BreaksAt [] r = r ≡ 1
BreaksAt (first ∷ rows) r =
    ((first ≢ header) × (r ≡ 1)) ⊎ ((first ≡ header) × (((rows ≡ []) × (r ≡ 2)) ⊎ BreaksFrom 1 rows r))

-- the text is that of the script
abbrev pub IsScript : List ℕ → List Step → Type 0
IsScript text steps = (rows : List Fields) × AreRows text rows × IsScriptRows rows steps

-- the text is that of no script, and row r is the first that breaks a rule
abbrev pub BreaksScript : List ℕ → ℕ → Type 0
BreaksScript text r = (rows : List Fields) × AreRows text rows × BreaksAt rows r

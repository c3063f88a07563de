-- The rows of a text are the records that `csv` reads in it.
use Rattle.kcr_script.proofs.Common.{◌≡◌, ℕ, zero, suc, ◌+◌, ◌-◌, ◌≤◌, ◌<◌, true, false, List, [], ◌∷◌, length, Option, Some, None, refl, subst}
use Rattle.kcr_script.proofs.Common.{arith, nat_tests, Read, step, is_end, ends_at_end, fields_after, field_after, AreRecords, default_config}
use Rattle.kcr_script.proofs.Common.{records_next, records, Fields, AreRows}
use Rattle.csv.specs.{Machine.next_record, Reading.Reached, Reading.strip_bom, Reading.records_from}
use Rattle.csv.specs.declared.parser.{State.State, Action.Action, Config.Config}
use Rattle.csv.specs.declared.parser.State.TheVariants as st

-- ---- a text has one list of rows

rows_same : (cfg : Config) (s : State) (xs : List ℕ) (r₁ r₂ : List Fields) (s₁ s₂ : State) (y₁ y₂ : List ℕ) → Reached cfg s xs r₁ s₁ y₁
    → next_record cfg s₁ [] [] y₁ ≡ None → Reached cfg s xs r₂ s₂ y₂ → next_record cfg s₂ [] [] y₂ ≡ None → r₁ ≡ r₂
unfolding Reached
rows_same cfg s xs [] [] s₁ s₂ y₁ y₂ h₁ e₁ h₂ e₂ = refl
rows_same cfg s xs [] (r ∷ rows) s₁ s₂ y₁ y₂ h₁ e₁ h₂ e₂ = grind arith
rows_same cfg s xs (r ∷ rows) [] s₁ s₂ y₁ y₂ h₁ e₁ h₂ e₂ = grind arith
rows_same cfg s xs (r ∷ rows) (q ∷ others) s₁ s₂ y₁ y₂ h₁ e₁ h₂ e₂ =
    let same : h₂.0 ≡ h₁.0 = cc (h₁.1, h₂.1) in
    let P : Read → Type 0 = λ (p : Read). Reached cfg p.1 p.2 others s₂ y₂ in
    let tail = rows_same cfg h₁.0.1 h₁.0.2 rows others s₁ s₂ y₁ y₂ h₁.3 e₁ (subst P same h₂.3) e₂ in
    grind arith

-- two lists of rows of one text are equal
pub are_rows_same : (text : List ℕ) (r₁ r₂ : List Fields) → AreRows text r₁ → AreRows text r₂ → r₁ ≡ r₂
are_rows_same text r₁ r₂ a b = rows_same _ _ _ r₁ r₂ _ _ _ _ a.2 a.3 b.2 b.3

-- ---- a record takes some bytes, and after its end the next one has not begun

abbrev EndsWell : State × Action → Type 0
EndsWell p = is_end p.1 ≡ true → ends_at_end p.0 ≡ false

step_ends : (s : State) (c : ℕ) → EndsWell (step default_config s c)
step_ends s c = λ h. grind (arith, nat_tests)

-- what a record leaves of a text
abbrev Leaves : List ℕ → Read → Type 0
Leaves xs p = (ends_at_end p.1 ≡ false) × (length p.2 ≤ length xs - 1)

leaves : (xs : List ℕ) (s : State) (fields : Fields) (field : List ℕ) (p : Read) → next_record default_config s fields field xs ≡ Some p → Leaves xs p
unfolding next_record
leaves [] s fields field p e = grind (arith, nat_tests)
leaves (b ∷ rest) s fields field p e =
    let one = step default_config s b in
    let more = leaves rest one.0 (fields_after one.1 fields field) (field_after one.1 b field) p in
    grind (arith, nat_tests, step_ends s b)

some_bytes : (xs : List ℕ) (s : State) (p : Read) → ends_at_end s ≡ false → next_record default_config s [] [] xs ≡ Some p → 1 ≤ length xs
unfolding next_record
some_bytes [] s p ends e = grind arith
some_bytes (b ∷ rest) s p ends e = omega arith

-- ---- the rows

abbrev Gives : ℕ → Type 0
Gives n = (s : State) (xs : List ℕ) → ends_at_end s ≡ false → length xs < n → AreRecords default_config s xs (records_from default_config n s xs)

one_more : (n : ℕ) → Gives n → (s : State) (xs : List ℕ) → ends_at_end s ≡ false → length xs < suc n
    → (o : Option Read) → next_record default_config s [] [] xs ≡ o → AreRecords default_config s xs (records_next (records_from default_config n) o)
unfolding Reached
one_more n more s xs ends low None e = (s, xs, (refl, refl), e)
one_more n more s xs ends low (Some p) e =
    let l = leaves xs s [] [] p e in
    let h = more p.1 p.2 l.0 (omega (arith, l.1, some_bytes xs s p ends e)) in
    (h.0, h.1, (p, e, refl, h.2), h.3)

gives : (n : ℕ) → Gives n
unfolding records_from
gives zero s xs ends low = absurd (omega arith)
gives (suc n) s xs ends low = one_more n (gives n) s xs ends low (next_record default_config s [] [] xs) refl

-- the records of a text are its rows
pub rows_there : (text : List ℕ) → AreRows text (records default_config (strip_bom text))
rows_there text = gives (length (strip_bom text) + 1) st.StartRecord (strip_bom text) refl (omega arith)

-- and it has no other rows
pub rows_are : (text : List ℕ) (rows : List Fields) → AreRows text rows → records default_config (strip_bom text) ≡ rows
rows_are text rows h = are_rows_same text (records default_config (strip_bom text)) rows (rows_there text) h

-- The step that is asked for, and the last step of its ceremony that has a seating.
use Rattle.kcr_tables.proofs.Common.{◌≡◌, ◌≤◌, ℕ, List, filter, Option, Some, None, refl, sym, ◌∙◌, arith, IsPermutation, rules, IsPermutation-sym}
use Rattle.kcr_tables.proofs.Common.{IsPermutation-trans, Has, has_kept, IsPermutation-filter, IsPermutation-same, is_step_at, is_seating_of}
use Rattle.kcr_tables.proofs.Common.{last_seated, step_asked, ShowsStepOf, IncludesStep, IsGreatest, has_same}
use Rattle.kcr_history.specs.declared.{row_types.SeatingRow.SeatingRow, row_types.StepRow.StepRow, views.StepFilter.StepFilter}
use Rattle.kcr_history.proofs.Tops.{top, top-more}
use Rattle.kcr_tables.proofs.{HasLemmas.filter_from, HasLemmas.filter_is, NamedLemmas.twice}
use Rattle.kcr_tables.proofs.MostLemmas.{shown_has, shown_over, most_same}

-- the last step that has a seating is the same in two lists of which neither exceeds the other
seated_same : (xs ys : List SeatingRow) → ((x : SeatingRow) → Has xs x → (y : SeatingRow) × Has ys y × (x.step ≤ y.step))
    → ((y : SeatingRow) → Has ys y → (x : SeatingRow) × Has xs x × (y.step ≤ x.step)) → top xs ≡ top ys
seated_same = most_same (λ (row : SeatingRow). row.step) top refl top-more

-- a last seating tells the last number
last_told : (ceremony : ℕ) (table shown : List SeatingRow) → IsGreatest (λ x. x.step) (filter (is_seating_of ceremony) table) shown
    → last_seated shown ceremony ≡ last_seated table ceremony
last_told ceremony table shown greatest =
    let mine = is_seating_of ceremony in
    let all = filter mine table in
    let there = shown_has (λ (row : SeatingRow). row.step) all shown greatest in
    seated_same (filter mine shown) all (λ x h. (x, there x (filter_from mine shown x h), omega arith)) (λ y h.
    let over = shown_over (λ (row : SeatingRow). row.step) all shown greatest y h in
    (over.0, has_kept mine shown over.0 over.1 (filter_is mine table over.0 (there over.0 over.1)), over.2))

-- what is read is the step that is asked for
pub step_told : (asked : StepFilter) (all seatings : List SeatingRow) (table steps : List StepRow) (step : ℕ) → step ≡ step_asked asked seatings
    → IsGreatest (λ x. x.step) (filter (is_seating_of asked.ceremony) all) seatings → steps ≡ filter (is_step_at asked.ceremony step) table
    → ShowsStepOf asked all seatings table steps
step_told asked all seatings table steps step is greatest are = search (rules, last_told, IsPermutation-same, twice)

-- ---- the same rows in another order

order_seated : (xs ys : List SeatingRow) (ceremony : ℕ) → IsPermutation xs ys → last_seated xs ceremony ≡ last_seated ys ceremony
order_seated xs ys ceremony same =
    let p = IsPermutation-filter (is_seating_of ceremony) xs ys same in
    seated_same _ _ (λ x h. (x, has_same _ _ x p h, omega arith)) (λ y h. (y, has_same _ _ y (IsPermutation-sym _ _ p) h, omega arith))

-- rows that include the step asked for, of some tables, include it of these in any order
pub steps_on : (asked : Option StepFilter) (all others seatings : List SeatingRow) (xs ys rows : List StepRow) → IsPermutation all others → IsPermutation xs ys
    → IncludesStep asked others seatings ys rows → IncludesStep asked all seatings xs rows
steps_on None all others seatings xs ys rows p q h = tt
steps_on (Some asked) all others seatings xs ys rows p q h = record {
  last = h.last ∙ sym (order_seated all others asked.ceremony p);
  step = IsPermutation-trans _ _ _ (IsPermutation-filter (is_step_at asked.ceremony (step_asked asked seatings)) xs ys q) h.step;
}

-- A text is the script of the steps that `script_of` gives, or breaks a rule at the row that it gives.
use Rattle.kcr_script.proofs.Common.{◌≡◌, ℕ, ◌+◌, ◌≤◌, inl, inr, true, not, List, [], ◌∷◌, length, All, Option, Some, None, Result, IfOk, IfErr}
use Rattle.kcr_script.proofs.Common.{MatchResult, refl, sym, ap, ◌∙◌, arith, ◌==◌, nat_le, option_map, AllByRecursion, list_all, decimal}
use Rattle.kcr_script.proofs.Common.{bytes_decides, pointwise, le-leb, leb-true, le-ltb, ltb-true, ltb-false, cond_both, both_ways}
use Rattle.kcr_script.proofs.Common.{false_from_ne_true, Decides-and, Decides-not, Decides-eqb, Decides-by_and, All-from_recursion, nat_tests}
use Rattle.kcr_script.proofs.Common.{records, default_config, same_text, Seat, Step, IsSeats, HasSteps, Fields, AreRows, header, IsRow, AreSteps}
use Rattle.kcr_script.proofs.Common.{IsScriptRows, BreaksFrom, BreaksAt, IsScript, BreaksScript, is_printing, is_activity, step_of, join_steps}
use Rattle.kcr_script.proofs.{Common.steps_from, Common.some_steps, Common.steps_of_rows, SeatLemmas.stands_are_seats, StepLemmas.has_steps}
use Rattle.std.proofs.{Common.Ok, Common.Err, lemmas.Result.MatchResult-weaker, lemmas.Result.MatchResult-from_both}
use Rattle.std.specs.{Prelude.nat_lt, Bool.Decides}
use Rattle.std.proofs.lemmas.{Slice.Eq.slice_eq-Decides, Str.IsUtf8-from_is_utf8, Str.is_utf8-from_IsUtf8}
use Rattle.csv.specs.Reading.{strip_bom}
use Rattle.kcr_base.specs.Line.{IsLine, IsPrinting}
use Rattle.kcr_base.specs.declared.refusal.Refusal.{Refusal, TheVariants.Memory, TheVariants.Script}
use Rattle.kcr_script.specs.{Fault.IfRow, Reading.seats_of, Reading.script_of}
use Rattle.kcr_script.proofs.{SeatReading.seats_read, SeatReading.seats_stand, RowLemmas.rows_there, RowLemmas.rows_are}

-- ---- one row

all_print : (text : List ℕ) → Decides (list_all is_printing text) (All IsPrinting text)
all_print text =
    Decides-by_and is_printing IsPrinting (list_all is_printing)
    (λ b. Decides-and (nat_le 32 b) (not (b == 127)) (leb-true 32 b, le-leb 32 b) (Decides-not (b == 127) (Decides-eqb b 127))) refl (λ b bytes. refl) text

activity_passes : (text : List ℕ) → IsLine 500 text → is_activity text ≡ true
activity_passes text h =
    grind (arith, nat_tests, h.not_empty, h.short, is_utf8-from_IsUtf8 text h.text, (all_print text).1 h.printing)

passed_activity : (text : List ℕ) → is_activity text ≡ true → IsLine 500 text
passed_activity text e = record {
  not_empty = grind (arith, nat_tests);
  short = grind (arith, nat_tests);
  text = IsUtf8-from_is_utf8 text (grind (arith, nat_tests));
  printing = (all_print text).0 (grind (arith, nat_tests));
}

step_read : (k : ℕ) (row : Fields) (step : Step) → IsRow k row step → step_of k row ≡ Some step
step_read k row step h =
    let number : same_text (decimal k) (decimal k) ≡ true = (bytes_decides (decimal k) (decimal k)).1 refl in
    rw (h.three, number, activity_passes step.activity h.activity, seats_read h.seat_text step.seats h.seats) refl

with_seats : (activity : List ℕ) (found : Option (List Seat)) (step : Step)
    → option_map (λ seats. record { activity = activity; seats = seats }) found ≡ Some step
    → (found ≡ Some step.seats) × (activity ≡ step.activity)
with_seats activity found step e = grind arith

row_of : (k : ℕ) (row : Fields) (step : Step) → step_of k row ≡ Some step → IsRow k row step
row_of k (a ∷ b ∷ c ∷ []) step e =
    let t : (same_text a (decimal k) ≡ true) × (is_activity b ≡ true) = grind arith in
    let s = with_seats b (seats_of c) step (grind arith) in
    let number = (bytes_decides a (decimal k)).0 t.0 in
    record { seat_text = c; three = cc; activity = rw s.1 at (passed_activity b t.1); seats = seats_stand c step.seats s.0 }
row_of k other step e = cc

no_step : (k : ℕ) (row : Fields) → ((step : Step) → ¬ (IsRow k row step)) → (found : Option Step) → step_of k row ≡ found → found ≡ None
no_step k row none None e = refl
no_step k row none (Some step) e = absurd (none step (row_of k row step e))

-- ---- the rows of steps

steps_read : (k : ℕ) (rows : List Fields) (steps : List Step) → AreSteps k rows steps → steps_from k rows ≡ Ok steps
steps_read k [] [] h = refl
steps_read k [] (step ∷ steps) h = absurd h
steps_read k (row ∷ rows) [] h = absurd h
steps_read k (row ∷ rows) (step ∷ steps) h = rw (le-ltb 400 k h.0, step_read k row step h.1, steps_read (k + 1) rows steps h.2) refl

fault_read : (k : ℕ) (rows : List Fields) (r : ℕ) → BreaksFrom k rows r → steps_from k rows ≡ Err r
fault_read k [] r h = absurd h
fault_read k (row ∷ rows) r (inl (inl above, at)) = grind (arith, nat_tests)
fault_read k (row ∷ rows) r (inl (inr none, at)) = grind (arith, nat_tests, no_step k row none (step_of k row) refl)
fault_read k (row ∷ rows) r (inr (low, step, is, more)) = grind (arith, nat_tests, step_read k row step is, fault_read (k + 1) rows r more)

-- what is told of the rows: they are those of the steps, or break a rule at the row
abbrev Told : ℕ → List Fields → Result (List Step) ℕ → Type 0
Told k rows found = MatchResult found (AreSteps k rows) (BreaksFrom k rows)

told_more : (k : ℕ) (row : Fields) (rows : List Fields) → k ≤ 400 → (found : Option Step) → step_of k row ≡ found → (others : Result (List Step) ℕ)
    → Told (k + 1) rows others
    → Told k (row ∷ rows) (join_steps k found others)
told_more k row rows low None e others h = inl (inr (λ step is. (let clash = sym e ∙ step_read k row step is in cc)), refl)
told_more k row rows low (Some step) e (Ok steps) h = (low, row_of k row step e, h)
told_more k row rows low (Some step) e (Err r) h = inr (low, step, row_of k row step e, h)

told : (k : ℕ) (rows : List Fields) → Told k rows (steps_from k rows)
told k [] = tt
told k (row ∷ rows) =
    cond_both (nat_lt 400 k) (Err (k + 1)) (join_steps k (step_of k row) (steps_from (k + 1) rows)) (Told k (row ∷ rows))
    (λ e. inl (inl (ltb-true 400 k e), refl))
    (λ e. told_more k row rows (ltb-false 400 k e) (step_of k row) refl (steps_from (k + 1) rows) (told (k + 1) rows))

-- ---- all rows

is_header : (first : Fields) → Decides (pointwise same_text first header) (first ≡ header)
is_header first = slice_eq-Decides bytes_decides first header (pointwise same_text first header) refl

rows_read : (rows : List Fields) (steps : List Step) → IsScriptRows rows steps → steps_of_rows rows ≡ Ok steps
rows_read [] steps h = absurd h
rows_read (first ∷ []) steps h = absurd (omega (arith, h.1))
rows_read (first ∷ row ∷ rows) steps h = rw ((is_header first).1 h.0) (steps_read 1 (row ∷ rows) steps h.2)

row_read : (rows : List Fields) (r : ℕ) → BreaksAt rows r → steps_of_rows rows ≡ Err r
row_read [] r h = ap (λ (n : ℕ). Err n) (sym h)
row_read (first ∷ rows) r (inl (ne, at)) = rw (false_from_ne_true _ (λ e. ne ((is_header first).0 e))) (ap (λ (n : ℕ). Err n) (sym at))
row_read (first ∷ rows) r (inr (is, inl (none, at))) = rw ((is_header first).1 is, none) (ap (λ (n : ℕ). Err n) (sym at))
row_read (first ∷ []) r (inr (is, inr breaks)) = absurd breaks
row_read (first ∷ row ∷ rows) r (inr (is, inr breaks)) = rw ((is_header first).1 is) (fault_read 1 (row ∷ rows) r breaks)

told_rows : (rows : List Fields) → MatchResult (steps_of_rows rows) (IsScriptRows rows) (BreaksAt rows)
told_rows [] = refl
told_rows (first ∷ rows) =
    cond_both (pointwise same_text first header) (some_steps rows) (Err 1) (λ found. MatchResult found (IsScriptRows (first ∷ rows)) (BreaksAt (first ∷ rows)))
    (λ e. by rows ((is_header first).0 e)) (λ e. inl (λ is. both_ways _ e ((is_header first).1 is), refl))
  where
    by : (rows : List Fields) → first ≡ header → MatchResult (some_steps rows) (IsScriptRows (first ∷ rows)) (BreaksAt (first ∷ rows))
    by [] is = inr (is, inl (refl, refl))
    by (row ∷ rows) is =
        MatchResult-weaker (steps_from 1 (row ∷ rows)) (told 1 (row ∷ rows)) (λ steps h. (is, omega arith, h)) (λ r h. inr (is, inr h))

-- ---- a text

-- the steps of a script are read
pub script_read : (text : List ℕ) (steps : List Step) → IsScript text steps → script_of text ≡ Ok steps
unfolding script_of
script_read text steps h = ap steps_of_rows (rows_are text h.0 h.1) ∙ rows_read h.0 steps h.2

-- the first row that breaks a rule is named
pub break_read : (text : List ℕ) (row : ℕ) → BreaksScript text row → script_of text ≡ Err row
unfolding script_of
break_read text row h = ap steps_of_rows (rows_are text h.0 h.1) ∙ row_read h.0 row h.2

-- the steps that are read are those of the script that the text is
pub read_is_script : (text : List ℕ) (steps : List Step) → script_of text ≡ Ok steps → IsScript text steps
unfolding script_of
read_is_script text steps e =
    let rows = records default_config (strip_bom text) in (rows, rows_there text, rw e at (told_rows rows))

-- the row that is named is the first that breaks a rule
pub read_breaks : (text : List ℕ) (row : ℕ) → script_of text ≡ Err row → BreaksScript text row
unfolding script_of
read_breaks text row e =
    let rows = records default_config (strip_bom text) in (rows, rows_there text, rw e at (told_rows rows))

-- ---- the form of what is read

-- under row 1 a script has a row for each step, and one at least
script_rows : (text : List ℕ) (steps : List Step) → script_of text ≡ Ok steps → (rows : List Fields) × (1 ≤ length rows) × AreSteps 1 rows steps
script_rows text steps e = by (read_is_script text steps e)
  where
    by : IsScript text steps → (rows : List Fields) × (1 ≤ length rows) × AreSteps 1 rows steps
    by ([], are, h) = absurd h
    by (first ∷ rows, are, h) = (rows, h.1, h.2)

-- a script has 1 to `MAX_STEPS` steps
pub script_has_steps : (text : List ℕ) (steps : List Step) → script_of text ≡ Ok steps → HasSteps steps
script_has_steps text steps e = let r = script_rows text steps e in has_steps r.0 steps r.2 r.1

-- the activity is a line of at most 500 bytes, and the seats are such as a text can stand for
abbrev pub HasForm : Step → Type 0
HasForm step = IsLine 500 step.activity × IsSeats step.seats

each_step : (k : ℕ) (rows : List Fields) (steps : List Step) → AreSteps k rows steps → AllByRecursion HasForm steps
each_step k [] [] h = tt
each_step k [] (step ∷ steps) h = absurd h
each_step k (row ∷ rows) [] h = absurd h
each_step k (row ∷ rows) (step ∷ steps) h = ((h.1.activity, stands_are_seats h.1.seat_text step.seats h.1.seats), each_step (k + 1) rows steps h.2)

-- each step of a script has an activity of 1 to 500 bytes, and 1 to 16 seats whose numbers are 1 to 7
pub steps_have_form : (text : List ℕ) (steps : List Step) → script_of text ≡ Ok steps → All HasForm steps
steps_have_form text steps e = let r = script_rows text steps e in All-from_recursion HasForm steps (each_step 1 r.0 steps r.2)

-- ---- what a reader of scripts answers

row_named : (P Q : ℕ → Type 0) (refusal : Refusal) → ((row : ℕ) → P row → Q row) → IfRow P refusal → IfRow Q refusal
row_named P Q Memory f h = tt
row_named P Q (Script row) f h = f row h
row_named P Q other f h = absurd h

-- a reader that is right about a text's rows answers what `script_of` gives, unless out of memory
pub script_is : (text : List ℕ) (rows : List Fields) → AreRows text rows → (found : Result (List Step) Refusal) → IfOk found (IsScriptRows rows)
    → IfErr found (IfRow (BreaksAt rows))
    → MatchResult found (λ steps. script_of text ≡ Ok steps) (IfRow (λ row. script_of text ≡ Err row))
script_is text rows are found is breaks =
    MatchResult-weaker found (MatchResult-from_both found _ _ is breaks) (λ steps h. script_read text steps (rows, are, h)) (λ refusal h.
    row_named (BreaksAt rows) (λ row. script_of text ≡ Err row) refusal (λ row h. break_read text row (rows, are, h)) h)

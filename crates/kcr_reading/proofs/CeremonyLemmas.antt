-- The steps and the exceptions of a ceremony, read by their numbers, and the people of several steps.
use Rattle.kcr_reading.proofs.Common.{◌≡◌, ℕ, ◌-◌, ◌<◌, pos, ◌&&◌, ◌==◌, nat_lt, Bool, true, false, List, [], ◌∷◌, filter, map, take, drop, length}
use Rattle.kcr_reading.proofs.Common.{slice_get, codes, Option, Less, refl, sym, ap, subst, ◌∙◌, arith, AllByRecursion, eqb-true, nat_tests}
use Rattle.kcr_reading.proofs.Common.{IsPermutation, nat_cmp, nat_cmp_total, Int, Row, Term, col, op2, Binary, State, Shown, Trees, IsAscending}
use Rattle.kcr_reading.proofs.Common.{Compare, Eq, Gt, Le, IsPermutation-filter, all_weaker, by_key, filter_as, each_is, exception_row, seating_row}
use Rattle.kcr_reading.proofs.Common.{step_row, filter-and, in_order, seated_at, seatings_at, SeatingRow, StepRow, StoredTables, Holds}
use Rattle.kcr_reading.proofs.Common.{exceptions_place, steps_place, seatings_place, TreesHoldTables, SameRows, Choice, SelectsRows, shows}
use Rattle.kcr_reading.proofs.Common.{rows_shown, ShowsSome, ShowsFirst, InOrder, AreFirst, IsFirstRow, bound_of, with_seated, IsNextOf}
use Rattle.kcr_reading.proofs.Common.{IsNextBatchOf, IsStepWithin, is_past, is_past_until, people_at, exceptions_past, rows_past, with_people}
use Rattle.sqlite.specs.Ops.{binary}
use Rattle.sqlite_tied.specs.Compute.{everything}
use Rattle.kcr_history.specs.Tables as machine
use Rattle.kcr_history.specs.declared.row_types.ExceptionRow.{ExceptionRow}
use Rattle.kcr_tables.specs.Schema as schema
use Rattle.kcr_tables.specs.SeatingsLaws as seatings
use Rattle.kcr_reading.proofs.ChoiceLemmas.{by_test, rise, chosen_come, next_come, several_come, within_come}
use Rattle.kcr_reading.proofs.FirstLemmas.{begin_take}
use Rattle.kcr_reading.proofs.NumberLemmas.{behind_number, up_to_number, equal_number, one_test, with_tests, same_ceremony, same_step, number_later}
use Rattle.kcr_reading.proofs.OrderLemmas.{moved, moved_on, moved_to, numbers_ordered}

-- ---- rows of a ceremony, by their numbers

abbrev number_test : List Term
number_test = op2 (Compare Eq Binary) (col 1 1) (col 0 0) ∷ op2 (Compare Gt Binary) (col 1 2) (col 0 1) ∷ []

abbrev number_params : ℕ → Option ℕ → Row
number_params ceremony last = Int (pos ceremony) ∷ Int (bound_of last) ∷ []

-- those of the ceremony past the last
abbrev pub numbered : ℕ → Option ℕ → Choice
numbered ceremony last = by_test 2 number_test (number_params ceremony last)

module _ {X : Type 0} (row_of : X → Row) (ceremony_of number_of : X → ℕ)
    (row_is : (x : X) → row_of x ≡ Int (pos (ceremony_of x)) ∷ Int (pos (number_of x)) ∷ drop 2 (row_of x)) where
  abbrev is_of : ℕ → X → Bool
  is_of ceremony x = ceremony_of x == ceremony

  abbrev past : Option ℕ → X → Bool
  past last x = is_past last (number_of x)

  -- those of the ceremony in order
  abbrev those : ℕ → List X → List X
  those ceremony xs = in_order (λ a b. nat_lt (number_of a) (number_of b)) (filter (is_of ceremony) xs)

  among : (ceremony : ℕ) (a b : X) → is_of ceremony a ≡ true → is_of ceremony b ≡ true → by_key 2 (row_of a) (row_of b) ≡ nat_cmp (number_of a) (number_of b)
  among ceremony a b p q =
      (λ i. by_key 2 (row_is a i) (row_is b i)) ∙ same_ceremony ceremony (ceremony_of a) (ceremony_of b) (number_of a) (number_of b) (drop 2 (row_of a))
      (drop 2 (row_of b)) p q

  chosen : (ceremony : ℕ) (last : Option ℕ) (x : X) → (numbered ceremony last).passes (row_of x) ≡ (is_of ceremony x && past last x)
  unfolding binary
  chosen ceremony last x =
      ap (numbered ceremony last).passes (row_is x)
      ∙ with_tests _ _ _ _ (equal_number (ceremony_of x) ceremony) (one_test _ ∙ behind_number last (number_of x))

  module _ (ceremony : ℕ) {ms ts : List X} (same : IsPermutation ms ts) (up : IsAscending (λ a b. by_key 2 a b ≡ Less) (map row_of ts)) where
    abbrev come : Option ℕ → List X
    come l = filter (past l) (those ceremony ms)

    come_is : (l : Option ℕ) → come l ≡ filter (past l) (filter (is_of ceremony) ts)
    come_is l =
        let rising = rise row_of nat_cmp nat_cmp_total number_of past (number_later number_of) 2 (is_of ceremony) (among ceremony) ts up in
        ap (filter (past l)) (numbers_ordered number_of _ _ (IsPermutation-filter (is_of ceremony) _ _ same) rising)

    -- what holds of those that the text chooses holds of those to come
    chosen_next : (last : Option ℕ) (Holds : List X → Type 0) → InOrder row_of (numbered ceremony last) ts Holds → Holds (come last)
    chosen_next last =
        chosen_come row_of nat_cmp nat_cmp_total number_of past (number_later number_of) 2 (is_of ceremony) (among ceremony) ts up come come_is last
        number_test (number_params ceremony last) (chosen ceremony last)

    -- the first of them is the next row, and the others come behind it
    pub next : (last : Option ℕ) (found : Option X) → IsFirstRow row_of (numbered ceremony last) ts found
        → IsNextOf (come last) found (come (moved nat_cmp nat_cmp_total number_of last found))
    next last found first =
        next_come row_of nat_cmp nat_cmp_total number_of past (number_later number_of) 2 (is_of ceremony) (among ceremony) ts up come come_is last found
        (chosen_next last (λ l. found ≡ slice_get l 0) first)

    -- several of them are the next rows, and the others come behind the last of them
    pub several : (last : Option ℕ) (count : ℕ) → 0 < count → (rows : List X) → AreFirst count row_of (numbered ceremony last) ts rows
        → IsNextBatchOf (come last) rows (come (moved_on nat_cmp nat_cmp_total number_of last rows))
    several last count low rows first =
        several_come row_of nat_cmp nat_cmp_total number_of past (number_later number_of) 2 (is_of ceremony) (among ceremony) ts up come come_is last rows
        (begin_take count low (come last) rows (chosen_next last (λ l. rows ≡ take count l) first))

    -- each of several rows is of the ceremony, past the last one before them and not past the last of them
    pub within : (last : Option ℕ) (count : ℕ) (rows : List X) → AreFirst count row_of (numbered ceremony last) ts rows
        → AllByRecursion (λ x. (is_of ceremony x ≡ true) × ((past last x ≡ true) × (past (moved_on nat_cmp nat_cmp_total number_of last rows) x ≡ false))) rows
    within last count rows first =
        within_come row_of nat_cmp nat_cmp_total number_of past (number_later number_of) 2 (is_of ceremony) (among ceremony) ts up come come_is last count rows
        (chosen_next last (λ l. rows ≡ take count l) first)

-- ---- exceptions

-- the text that shows the first exception past a number
abbrev pub exceptions_text : List ℕ
exceptions_text =
    codes "SELECT ceremony, exception, text, at, passed FROM exceptions WHERE ceremony = ?1 AND exception > ?2 ORDER BY ceremony, exception LIMIT 1"

-- it shows the first of the ceremony's exceptions past the last
pub exceptions_shown : (ceremony : ℕ) (last : Option ℕ) → ShowsFirst exceptions_text exceptions_place (number_params ceremony last) (numbered ceremony last)
unfolding everything
exceptions_shown ceremony last = shows schema.exceptions number_test (refl, refl, refl) refl

-- the first exception past the last is the next of those to come
pub next_exception : (ceremony : ℕ) (last : Option ℕ) (m : machine.Tables) {db : Trees} (k : TreesHoldTables m db) (found : Option ExceptionRow)
    → IsFirstRow exception_row (numbered ceremony last) k.t.rows.exceptions found
    → IsNextOf (exceptions_past last ceremony m) found (exceptions_past (moved nat_cmp nat_cmp_total (λ (x : ExceptionRow). x.exception) last found) ceremony m)
next_exception ceremony last m k =
    next exception_row (λ x. x.ceremony) (λ x. x.exception) (λ x. refl) ceremony k.stands.rows.exceptions k.kept.exceptions.rising last

-- ---- steps

-- the text that shows up to 16 steps past a number
abbrev pub steps_text : List ℕ
steps_text = codes "SELECT ceremony, step, activity, seats, state, at FROM steps WHERE ceremony = ?1 AND step > ?2 ORDER BY ceremony, step LIMIT 16"

-- it shows the first 16 of the ceremony's steps past the last
pub steps_shown : (ceremony : ℕ) (last : Option ℕ) → ShowsSome 16 steps_text steps_place (number_params ceremony last) (numbered ceremony last)
unfolding everything
steps_shown ceremony last = shows schema.steps number_test (refl, refl, refl) refl

module _ (ceremony : ℕ) (last : Option ℕ) (m : machine.Tables) {db : Trees} (k : TreesHoldTables m db) (rows : List StepRow) (found : Option StepRow)
    (ends : found ≡ slice_get rows (length rows - 1)) (count : ℕ) (first : AreFirst count step_row (numbered ceremony last) k.t.rows.steps rows) where
  abbrev reached : Option ℕ
  reached = moved nat_cmp nat_cmp_total (λ (x : StepRow). x.step) last found

  -- the rows are the ceremony's next steps, and the others come after the last of them
  pub next_steps : 0 < count → IsNextBatchOf (rows_past last ceremony m) rows (rows_past reached ceremony m)
  next_steps low =
      subst (λ l. IsNextBatchOf (rows_past last ceremony m) rows (rows_past l ceremony m))
      (moved_to nat_cmp nat_cmp_total (λ (x : StepRow). x.step) last rows found ends)
      (several step_row (λ x. x.ceremony) (λ x. x.step) (λ x. refl) ceremony k.stands.rows.steps k.kept.steps.rising last count low rows first)

  -- each of the rows is a step of the ceremony, past the last one before them and not past the last of them
  pub steps_within : AllByRecursion (IsStepWithin ceremony last reached) rows
  steps_within =
      subst (λ l. AllByRecursion (IsStepWithin ceremony last l) rows)
      (moved_to nat_cmp nat_cmp_total (λ (x : StepRow). x.step) last rows found ends)
      (all_weaker _ _ (λ x h. record { of = eqb-true x.ceremony ceremony h.0; within = grind (arith, h.1.0, h.1.1) }) rows
      (within step_row (λ x. x.ceremony) (λ x. x.step) (λ x. refl) ceremony k.stands.rows.steps k.kept.steps.rising last count rows first))

-- ---- the people of steps

-- the text that shows the seatings of the steps past one number and up to another
abbrev pub seatings_text : List ℕ
seatings_text =
    codes "SELECT ceremony, step, seat, who FROM seatings WHERE ceremony = ?1 AND step > ?2 AND step <= ?3 ORDER BY ceremony, step, seat"

abbrev seatings_test : List Term
seatings_test = op2 (Compare Eq Binary) (col 1 1) (col 0 0) ∷ op2 (Compare Gt Binary) (col 1 2) (col 0 1) ∷ op2 (Compare Le Binary) (col 1 2) (col 0 2) ∷ []

-- its parameters
abbrev pub seatings_params : ℕ → Option ℕ → Option ℕ → Row
seatings_params ceremony from until = Int (pos ceremony) ∷ Int (bound_of from) ∷ Int (bound_of until) ∷ []

abbrev passes : ℕ → Option ℕ → Option ℕ → Row → Bool
passes ceremony from until = (by_test 3 seatings_test (seatings_params ceremony from until)).passes

-- it shows the ceremony's seatings of these steps
pub seatings_shown : (ceremony : ℕ) (from until : Option ℕ)
    → SelectsRows seatings_text seatings_place (seatings_params ceremony from until) (passes ceremony from until)
unfolding everything
seatings_shown ceremony from until = shows schema.seatings seatings_test (refl, refl, refl) refl

abbrev is_within : ℕ → Option ℕ → Option ℕ → SeatingRow → Bool
is_within ceremony from until x = x.ceremony == ceremony && is_past_until from until x.step

passes_within : (ceremony : ℕ) (from until : Option ℕ) (x : SeatingRow) → passes ceremony from until (seating_row x) ≡ is_within ceremony from until x
unfolding binary
passes_within ceremony from until x =
    with_tests _ _ _ _ (equal_number x.ceremony ceremony) (with_tests _ _ _ _ (behind_number from x.step) (one_test _ ∙ up_to_number until x.step))

abbrev is_at : ℕ → ℕ → SeatingRow → Bool
is_at ceremony step x = x.ceremony == ceremony && x.step == step

-- the rows of one step among those of several
of_step : (ceremony : ℕ) (from until : Option ℕ) (step : ℕ) → is_past_until from until step ≡ true → (rows : List SeatingRow)
    → filter (λ row. row.step == step) (filter (is_within ceremony from until) rows) ≡ filter (is_at ceremony step) rows
of_step ceremony from until step inside rows =
    filter-and (is_within ceremony from until) (λ row. row.step == step) rows ∙ filter_as _ _ same rows
  where
    same : (x : SeatingRow) → (is_within ceremony from until x && x.step == step) ≡ is_at ceremony step x
    same x = grind (arith, nat_tests)

-- the people of one of these steps, among the rows that are shown, are those of the machine's seatings
pub seated : (ceremony : ℕ) (from until : Option ℕ) (old new : State) (rows : List SeatingRow) (m : machine.Tables) (t : StoredTables) → Holds old.now t → SameRows m t
    → Shown seatings_text (seatings_params ceremony from until) old new (map seating_row rows)
    → (step : ℕ) → is_past_until from until step ≡ true → people_at step rows ≡ seated_at m.seatings ceremony step
seated ceremony from until old new rows m t held stands h step inside =
    let at = is_at ceremony step in
    let there : rows ≡ filter (is_within ceremony from until) t.rows.seatings =
    rows_shown seatings_text seatings_place _ (passes ceremony from until) (seatings_shown ceremony from until) seating_row
    (λ _. Unit {0}) (λ _. Unit {0}) seatings.one_value (is_within ceremony from until) (passes_within ceremony from until)
    old new rows held.schema h (each_is rows) t.rows.seatings (each_is t.rows.seatings) held.kept.seatings in
    let mine : filter (λ row. row.step == step) rows ≡ filter at t.rows.seatings =
    ap (filter (λ row. row.step == step)) there ∙ of_step ceremony from until step inside t.rows.seatings in
    let rising = rise seating_row nat_cmp nat_cmp_total (λ x. x.seat) (λ l x. is_past l x.seat) (number_later (λ x. x.seat)) 3 at
    (λ a b. same_step ceremony step a.ceremony a.step b.ceremony b.step a.seat b.seat [] []) t.rows.seatings held.kept.seatings.rising in
    let order : seatings_at m.seatings ceremony step ≡ filter at t.rows.seatings = numbers_ordered (λ (x : SeatingRow). x.seat) _ _
    (IsPermutation-filter at _ _ stands.rows.seatings) rising in
    ap (map (λ (row : SeatingRow). row.who)) (mine ∙ sym order)

-- steps with the people who are theirs among those of several
pub people_are : (ceremony : ℕ) (from until : Option ℕ) (m : machine.Tables) (rows : List SeatingRow)
    → ((step : ℕ) → is_past_until from until step ≡ true → people_at step rows ≡ seated_at m.seatings ceremony step)
    → (steps : List StepRow) → AllByRecursion (IsStepWithin ceremony from until) steps → map (with_people rows) steps ≡ map (with_seated m.seatings) steps
people_are ceremony from until m rows people [] all = refl
people_are ceremony from until m rows people (x ∷ steps) all =
    let own = rw (← all.0.of) at (people x.step all.0.within) in cc (own, people_are ceremony from until m rows people steps all.1)

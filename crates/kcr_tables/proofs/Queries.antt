-- The texts that show a part of one table, beside those of the table's own module.
use Rattle.kcr_tables.proofs.Common.{◌≡◌, ℕ, pos, ◌&&◌, ◌||◌, not, ◌==◌, nat_le, nat_lt, Bool, true, List, [], ◌∷◌, codes, Option, Some, None, refl}
use Rattle.kcr_tables.proofs.Common.{sym, ap, subst, ◌∙◌, arith, rules, is_ge, is_gt, is_eq, nat_tests, tied_itself, Null, Int, Text, Row, ends_after}
use Rattle.kcr_tables.proofs.Common.{is_appointment_to, is_appointment_of, is_seating_of, is_step_at, training_reaches, stay_reaches}
use Rattle.kcr_tables.proofs.Common.{ends_at_or_after, appointment_row, key_row, seating_row, stay_row, step_row, training_row, TableLayout, Means}
use Rattle.kcr_tables.proofs.Common.{value_is, text_ties, place_ties, number_ties, reading, has_number, has_text, has_from, is_beyond_row}
use Rattle.kcr_tables.proofs.Common.{is_lasting_row, is_row_of_step, Ordered, Unordered, Last, SelectsLast, Query, register_schema, is_given}
use Rattle.kcr_tables.proofs.Common.{shown_columns, SelectsRows, appointments_place, keys_place, seatings_place, stays_place, steps_place}
use Rattle.kcr_tables.proofs.Common.{trainings_place, SelectsUnordered, passing, wanted_passing}
use Rattle.kcr_tables.proofs.Common.{column, Select, Term, lit, col, op2, compiled, equal, ascending, same_text, Place as Custodian, lasts_beyond}
use Rattle.sqlite.specs.{declared.types.Value.Value, Order.value_cmp, Collation.TheVariants.Binary}
use Rattle.sqlite.specs.Ops.{is_null, is_true, truth, from_truth, or3, binary}
use Rattle.sqlite_schema.specs.declared.schema.Table.{Table}
use Rattle.sqlite_sql.specs.declared.ops.BinaryOp.TheVariants.{Compare, Is, Or}
use Rattle.sqlite_sql.specs.declared.ops.CompareOp.{CompareOp, TheVariants.Eq, TheVariants.Ge, TheVariants.Gt}
use Rattle.sqlite_sql.specs.Ops as compared
use Rattle.sqlite_value.specs.declared.keys.Key.{Key}
use Rattle.sqlite_value.proofs.OrderLemmas.{value_cmp-Int, value_cmp_total}
use Rattle.sqlite_tied.specs.Compute.{everything}
use Rattle.kcr_base.specs.Place.{place_text}
use Rattle.kcr_rows.specs.Values.{int_or_null}
use Rattle.kcr_rows.proofs.KeyLemmas.{truth_is}
use Rattle.kcr_tables.specs.Schema as schema
use Rattle.kcr_tables.specs.AppointmentsLaws as appointments
use Rattle.kcr_tables.specs.KeysLaws as keys
use Rattle.kcr_tables.specs.SeatingsLaws as seatings
use Rattle.kcr_tables.specs.StaysLaws as stays
use Rattle.kcr_tables.specs.StepsLaws as steps
use Rattle.kcr_tables.specs.TableTexts.{column_names, shows}
use Rattle.kcr_tables.specs.TrainingsLaws as trainings
use Rattle.kcr_tables.proofs.QueryLemmas.{query}

-- SQL's `=` of two texts answers as `same_text` does
pub same_text_is : (a b : List ℕ) → (equal Binary (Text a) (Text b) && true) ≡ same_text a b
same_text_is a b = value_is (Text a) (Text b) refl refl ∙ sym (text_ties a b)

-- SQL's `=` of two numbers answers whether they are equal
pub same_number_is : (a b : ℕ) → (equal Binary (Int (pos a)) (Int (pos b)) && true) ≡ (a == b)
same_number_is a b = value_is (Int (pos a)) (Int (pos b)) refl refl ∙ sym (number_ties a b)

-- ---- one row, with the greatest number

-- the text shows the row of keys with the greatest number of a command
pub selects_key : SelectsLast (codes "SELECT \"key\", accepted, command, reply FROM keys ORDER BY accepted DESC LIMIT 1") keys_place [] (λ _. true) 1
unfolding everything
selects_key = record { test = []; project = shown_columns keys_place; names = column_names schema.keys; means = (refl, refl, refl); is = refl }

-- the query for the row of the last accepted command
abbrev pub last_key : Query keys.table key_row
last_key = query _ [] (Last (λ x. x.accepted)) (λ _. true) (λ _. true) (λ x. refl) (λ x y. keys.one_value x y tt tt, (1, selects_key, λ x. refl))

-- the stay of a person that began last
abbrev stay_sql : List ℕ
stay_sql = codes "SELECT who, since, ceremony, until FROM stays WHERE who = ?1 ORDER BY since DESC LIMIT 1"

-- the text shows the stay of the person with the latest beginning
pub selects_stay : (who : List ℕ) → SelectsLast stay_sql stays_place (Text who ∷ []) (has_text 0 who) 1
unfolding everything
selects_stay who = record { test = is_given 1; project = shown_columns stays_place; names = column_names schema.stays; means = (refl, refl, refl); is = refl }

-- the query for the stay of a person that began last
abbrev pub last_stay : List ℕ → Query stays.table stay_row
last_stay who = query stay_sql (Text who ∷ []) (Last (λ x. x.since)) (λ x. same_text x.who who) (has_text 0 who) (λ x. same_text_is x.who who)
    (λ x y. stays.one_value x y tt tt, (1, selects_stay who, λ x. refl))

-- the appointment to a place that began last
abbrev to_sql : List ℕ
to_sql = codes "SELECT place, since, who, until FROM appointments WHERE place = ?1 ORDER BY since DESC LIMIT 1"

-- the text shows the appointment to the place with the latest beginning
pub selects_to : (place : List ℕ) → SelectsLast to_sql appointments_place (Text place ∷ []) (has_text 0 place) 1
unfolding everything
selects_to place =
    record { test = is_given 1; project = shown_columns appointments_place; names = column_names schema.appointments; means = (refl, refl, refl); is = refl }

-- the query for the appointment to a place that began last
abbrev pub last_to : Custodian → Query appointments.table appointment_row
last_to place = query to_sql (Text (place_text place) ∷ []) (Last (λ x. x.since)) (is_appointment_to place) (has_text 0 (place_text place))
    (λ x. value_is (Text (place_text x.place)) (Text (place_text place)) refl refl ∙ sym (place_ties x.place place))
    (λ x y. appointments.one_value x y tt tt, (1, selects_to (place_text place), λ x. refl))

-- the appointment of a person that began last
abbrev of_sql : List ℕ
of_sql = codes "SELECT place, since, who, until FROM appointments WHERE who = ?1 ORDER BY since DESC LIMIT 1"

-- the text shows the appointment of the person with the latest beginning
pub selects_of : (who : List ℕ) → SelectsLast of_sql appointments_place (Text who ∷ []) (has_text 2 who) 1
unfolding everything
selects_of who =
    record { test = is_given 3; project = shown_columns appointments_place; names = column_names schema.appointments; means = (refl, refl, refl); is = refl }

-- the query for the appointment of a person that began last
abbrev pub last_of : List ℕ → Query appointments.table appointment_row
last_of who = query of_sql (Text who ∷ []) (Last (λ x. x.since)) (is_appointment_of who) (has_text 2 who) (λ x. same_text_is x.who who)
    (λ x y. appointments.one_value x y tt tt, (1, selects_of who, λ x. refl))

-- the last step of a ceremony that has a seating
abbrev seating_sql : List ℕ
seating_sql = codes "SELECT ceremony, step, seat, who FROM seatings WHERE ceremony = ?1 ORDER BY step DESC LIMIT 1"

-- the text shows a seating of the ceremony with the greatest step
pub selects_seating : (ceremony : ℕ) → SelectsLast seating_sql seatings_place (Int (pos ceremony) ∷ []) (has_number 0 ceremony) 1
unfolding everything
selects_seating ceremony =
    record { test = is_given 1; project = shown_columns seatings_place; names = column_names schema.seatings; means = (refl, refl, refl); is = refl }

-- the query for a seating of the last step of a ceremony that has one
abbrev pub last_seating : ℕ → Query seatings.table seating_row
last_seating ceremony = query seating_sql (Int (pos ceremony) ∷ []) (Last (λ x. x.step)) (is_seating_of ceremony) (has_number 0 ceremony)
    (λ x. same_number_is x.ceremony ceremony) (λ x y. seatings.one_value x y tt tt, (1, selects_seating ceremony, λ x. refl))

-- ---- how a text compares an end with a number

-- a test joined with one that always passes answers as it does alone
pub with_true : (b : Bool) → (b && true) ≡ b
with_true b = grind arith

-- NULL is not compared, and whatever else there is stands in the order of values
pub compared_is : (op : CompareOp) (v : Value) (n : ℕ)
    → is_true (binary (Compare op Binary) v (Int (pos n))) ≡ (not (is_null v) && compared.test op (value_cmp v (Int (pos n))))
unfolding binary
compared_is op Null n = refl
compared_is op v n = truth_is _

-- whether there is nothing, or a number that the comparison passes
abbrev ends : CompareOp → Value → ℕ → Bool
ends op until n = is_true (binary Or (binary (Is Binary) until Null) (binary (Compare op Binary) until (Int (pos n))))

-- whether one of two tests passes, as SQL tells it
abbrev either : Bool → Bool → Bool
either a b = is_true (from_truth (or3 (truth (from_truth (Some a))) (truth (from_truth (Some b)))))

nothing_is : (v : Value) → is_eq (value_cmp v Null) ≡ is_null v
unfolding value_cmp
nothing_is Null = ap is_eq (tied_itself value_cmp_total Null)
nothing_is v = refl

-- an end passes a comparison with a number if and only if it is NULL, or there and compares so
pub ends_is : (op : CompareOp) (v : Value) (n : ℕ) → ends op v n ≡ (is_null v || (not (is_null v) && compared.test op (value_cmp v (Int (pos n)))))
unfolding binary
ends_is op Null n = ap (λ a. is_true (from_truth (or3 (truth (from_truth (Some a))) None))) (nothing_is Null)
ends_is op v n = let b = compared.test op (value_cmp v (Int (pos n))) in ap (λ a. either a b) (nothing_is v) ∙ grind arith

-- a number is at or after another as a value if and only if it is as a number
pub number_from : (n day : ℕ) → is_ge (value_cmp (Int (pos n)) (Int (pos day))) ≡ nat_le day n
number_from n day = ap is_ge (value_cmp-Int (pos n) (pos day)) ∙ grind (arith, nat_tests)

number_beyond : (n day : ℕ) → is_gt (value_cmp (Int (pos n)) (Int (pos day))) ≡ nat_lt day n
number_beyond n day = ap is_gt (value_cmp-Int (pos n) (pos day)) ∙ grind (arith, nat_tests)

-- ---- rows in whatever order, by their end

-- a text shows the rows of a table that pass, if it is this query
listed : {sql : List ℕ} {place : TableLayout} {params : Row} {passes : Row → Bool} (table : Table) (test : List Term) (order : List (Term × Key))
    → Means (Select (record { lets = []; body = reading place.tree test (shown_columns place) order }) (column_names table))
    (compiled register_schema sql)
    → passing place params test (reading place.tree test (shown_columns place) order) ≡ wanted_passing place passes
    → SelectsUnordered sql place params passes
listed {place = place} table test order means is = search rules

-- the trainings that last to a day
abbrev lasting_sql : List ℕ
lasting_sql = codes "SELECT who, role, since, until FROM trainings WHERE until >= ?1 ORDER BY rowid"

-- the text shows the trainings whose last day is the day or later
pub selects_lasting : (day : ℕ)
    → SelectsUnordered lasting_sql trainings_place (Int (pos day) ∷ []) (λ row. is_true (binary (Compare Ge Binary) (column row 3) (Int (pos day))) && true)
unfolding everything
selects_lasting day =
    listed schema.trainings (op2 (Compare Ge Binary) (col 1 4) (col 0 0) ∷ []) ((col 1 0, ascending Binary) ∷ []) (refl, refl, refl) refl

-- the query for the trainings that last to a day, in any order
abbrev pub lasting : ℕ → Query trainings.table training_row
lasting day = query lasting_sql (Int (pos day) ∷ []) Unordered (training_reaches day) (has_from 3 day) (λ x. number_from x.until day) (
  λ x y. trainings.one_value x y tt tt,
  subst (SelectsUnordered lasting_sql trainings_place _) (λ i row. (with_true _ ∙ compared_is Ge (column row 3) day) i) (selects_lasting day),
)

-- the appointments that last beyond a day
abbrev beyond_sql : List ℕ
beyond_sql = codes "SELECT place, since, who, until FROM appointments WHERE until IS NULL OR until > ?1 ORDER BY rowid"

-- the text shows the appointments that have no end, or one after the day
pub selects_beyond : (day : ℕ) → SelectsUnordered beyond_sql appointments_place (Int (pos day) ∷ []) (λ row. ends Gt (column row 3) day && true)
unfolding everything
selects_beyond day = listed schema.appointments
    (op2 Or (op2 (Is Binary) (col 1 4) (lit Null)) (op2 (Compare Gt Binary) (col 1 4) (col 0 0)) ∷ [])
    ((col 1 0, ascending Binary) ∷ []) (refl, refl, refl) refl

-- an end passes this test if and only if there is none, or it is after the day
pub beyond_is : (day : ℕ) (until : Option ℕ)
    → (is_null (int_or_null until) || (not (is_null (int_or_null until)) && is_gt (value_cmp (int_or_null until) (Int (pos day))))) ≡ ends_after until day
beyond_is day None = refl
beyond_is day (Some until) = number_beyond until day

-- the query for the appointments that last beyond a day, in any order
abbrev pub beyond : ℕ → Query appointments.table appointment_row
beyond day = query beyond_sql (Int (pos day) ∷ []) Unordered (lasts_beyond day) (is_beyond_row day) (λ x. beyond_is day x.until) (
  λ x y. appointments.one_value x y tt tt,
  subst (SelectsUnordered beyond_sql appointments_place _) (λ i row. (with_true _ ∙ ends_is Gt (column row 3) day) i) (selects_beyond day),
)

-- the stays of a ceremony that last to a moment
abbrev room_sql : List ℕ
room_sql = codes "SELECT who, since, ceremony, until FROM stays WHERE ceremony = ?1 AND (until IS NULL OR until >= ?2) ORDER BY since, who"

-- the text shows the stays of the ceremony that have no end, or one at the moment or later
pub selects_room : (ceremony at : ℕ) → SelectsUnordered room_sql stays_place (Int (pos ceremony) ∷ Int (pos at) ∷ [])
    (λ row. equal Binary (column row 2) (Int (pos ceremony)) && (ends Ge (column row 3) at && true))
unfolding everything
selects_room ceremony at = listed schema.stays
    (op2 (Compare Eq Binary) (col 1 3) (col 0 0) ∷ op2 Or (op2 (Is Binary) (col 1 4) (lit Null)) (op2 (Compare Ge Binary) (col 1 4) (col 0 1)) ∷ [])
    ((col 1 2, ascending Binary) ∷ (col 1 1, ascending Binary) ∷ []) (refl, refl, refl) refl

-- an end passes this test if and only if there is none, or it is at the moment or later
pub room_is : (at : ℕ) (until : Option ℕ)
    → (is_null (int_or_null until) || (not (is_null (int_or_null until)) && is_ge (value_cmp (int_or_null until) (Int (pos at))))) ≡ ends_at_or_after at until
room_is at None = refl
room_is at (Some until) = number_from until at

-- the query for the stays of a ceremony that last to a moment, in any order
abbrev pub room : ℕ → ℕ → Query stays.table stay_row
room ceremony at = query room_sql (Int (pos ceremony) ∷ Int (pos at) ∷ []) Unordered (stay_reaches ceremony at) (is_lasting_row ceremony at)
    (λ x i. same_number_is x.ceremony ceremony i && room_is at x.until i) (
      λ x y. stays.one_value x y tt tt,
      subst (SelectsUnordered room_sql stays_place _)
          (λ i row. sym (with_true (equal Binary (column row 2) (Int (pos ceremony)))) i && (with_true _ ∙ ends_is Ge (column row 3) at) i) (selects_room ceremony at),
    )

-- ---- the row of a step

abbrev step_sql : List ℕ
step_sql = codes "SELECT ceremony, step, activity, seats, state, at FROM steps WHERE ceremony = ?1 AND step = ?2 ORDER BY ceremony, step"

-- the text shows the rows of the ceremony with the number of the step
pub selects_step : (ceremony step : ℕ) → SelectsRows step_sql steps_place (Int (pos ceremony) ∷ Int (pos step) ∷ [])
    (λ row. equal Binary (column row 0) (Int (pos ceremony)) && has_number 1 step row)
unfolding everything
selects_step ceremony step =
    shows schema.steps (op2 (Compare Eq Binary) (col 1 1) (col 0 0) ∷ op2 (Compare Eq Binary) (col 1 2) (col 0 1) ∷ []) (refl, refl, refl) refl

-- the query for the row of a step
abbrev pub row_of_step : ℕ → ℕ → Query steps.table step_row
row_of_step ceremony step = query step_sql (Int (pos ceremony) ∷ Int (pos step) ∷ []) Ordered (is_step_at ceremony step) (is_row_of_step ceremony step)
    (λ x i. same_number_is x.ceremony ceremony i && same_number_is x.step step i)
    (subst (SelectsRows step_sql steps_place _) (λ i row. sym (with_true (equal Binary (column row 0) (Int (pos ceremony)))) i && has_number 1 step row)
    (selects_step ceremony step))

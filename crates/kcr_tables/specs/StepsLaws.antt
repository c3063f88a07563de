-- Written by tools/tables.py from tools/table_list.py: do not edit.
-- What the table steps proves of its texts, and of its place among the others.
use Rattle.std.proofs.Common.{◌≡◌, pos, [], ◌∷◌, map, codes, true, refl, ap}
use Rattle.sqlite.specs.{declared.types.Value.TheVariants.Text, Order.Row, Order.column}
use Rattle.kcr_script.specs.Seats.{written}
use Rattle.kcr_rows.specs.{States.step_number, States.HasOnlyTheseSeats, States.HasSeatsText, Rows.step_row}
use Rattle.kcr_history.specs.declared.row_types.StepRow.{StepRow}
use Rattle.kcr_tables.specs.{Schema.steps, StoredTables.steps_place}
use Rattle.kcr_tables.specs.TableTexts.{shows, inserts_row, updates_row, cast_all, cast_int, cast_or_null, everything}
use Rattle.kcr_tables.specs.TableTexts.{number_in, one_number, one_seats, one_step_state, still_at, text_in, InsertsRow}
use Rattle.kcr_tables.specs.TableTexts.{IsTable, SelectsRows, TableSpec, UpdatesRow}

abbrev pub table : TableSpec StepRow
table = record {
  rows_in = λ t. t.rows.steps;
  place = steps_place;
  is_stored = HasSeatsText;
  with_rows = λ rows t. record t { rows = record t.rows { steps = rows } };
  all_sql = codes "SELECT ceremony, step, activity, seats, state, at FROM steps ORDER BY ceremony, step";
}

-- no two values stand for one row
pub one_value : (x y : StepRow) → HasOnlyTheseSeats x → HasSeatsText y → step_row x ≡ step_row y → x ≡ y
one_value x y read held h = λ i. record {
  ceremony = number_in 0 (h i);
  step = number_in 1 (h i);
  activity = text_in 2 (h i);
  seats = one_seats x.seats y.seats read held (ap (text_in 3) h) i;
  state = one_step_state x.state y.state (ap (number_in 4) h) i;
  at = one_number x.at y.at (ap (λ (r : Row). column r 5) h) i;
}

lists : SelectsRows table.all_sql steps_place [] (λ _. true)
unfolding everything
lists = shows steps [] (refl, refl, refl) refl

-- its values are stored as they are
casts : (x : StepRow) → cast_all steps.columns (step_row x) ≡ step_row x
casts x i = cast_int (pos x.ceremony) i ∷ cast_int (pos x.step) i ∷ Text x.activity ∷ Text (written x.seats)
    ∷ cast_int (pos (step_number x.state)) i ∷ cast_or_null x.at i ∷ []

-- the text that adds the row of a value
pub inserts : InsertsRow
    (codes "INSERT INTO steps (ceremony, step, activity, seats, state, at) VALUES (?1, ?2, ?3, ?4, ?5, ?6)") steps_place step_row
unfolding everything
inserts = inserts_row 9 steps casts (refl, refl, refl) refl

-- the text that puts it in the place of the row with its key
pub updates : UpdatesRow
    (codes "UPDATE steps SET ceremony = ?1, step = ?2, activity = ?3, seats = ?4, state = ?5, at = ?6 WHERE ceremony = ?1 AND step = ?2") steps_place step_row
unfolding everything
updates = updates_row 9 steps casts (refl, refl, refl) refl

pub table_laws : IsTable table step_row HasOnlyTheseSeats
table_laws = record {
  lists = lists;
  one_value = one_value;
  keeps = λ db t k. k.steps;
  stores = λ db t k. k.seats;
  still = λ old new rows t sound keeps stored others k. still_at 9 20 old new t _
      (map step_row rows) refl refl sound keeps others k k.spot stored;
  stands = λ m t s. s.rows.steps;
}

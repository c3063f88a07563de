-- Written by tools/tables.py from tools/table_list.py: do not edit.
-- What the table appointments proves of its texts, and of its place among the others.
use Rattle.std.proofs.Common.{◌≡◌, pos, [], ◌∷◌, map, codes, true, refl, ap}
use Rattle.std.specs.Bool.{⊤}
use Rattle.sqlite.specs.{declared.types.Value.TheVariants.Text, Order.Row, Order.column}
use Rattle.kcr_base.specs.Place.{place_text}
use Rattle.kcr_rows.specs.Rows.{appointment_row}
use Rattle.kcr_people.specs.declared.Appointment.{Appointment}
use Rattle.kcr_tables.specs.{Schema.appointments, StoredTables.appointments_place}
use Rattle.kcr_tables.specs.TableTexts.{shows, inserts_row, updates_row, cast_all, cast_int, cast_or_null, each_is}
use Rattle.kcr_tables.specs.TableTexts.{everything, number_in, one_number, one_place, still_at, text_in, InsertsRow}
use Rattle.kcr_tables.specs.TableTexts.{IsTable, SelectsRows, TableSpec, UpdatesRow}

abbrev pub table : TableSpec Appointment
table = record {
  rows_in = λ t. t.rows.appointments;
  place = appointments_place;
  is_stored = λ _. ⊤;
  with_rows = λ rows t. record t { rows = record t.rows { appointments = rows } };
  all_sql = codes "SELECT place, since, who, until FROM appointments ORDER BY place, since";
}

-- no two values stand for one row
pub one_value : (x y : Appointment) → ⊤ → ⊤ → appointment_row x ≡ appointment_row y → x ≡ y
one_value x y read held h = λ i. record {
  place = one_place x.place y.place (ap (text_in 0) h) i;
  since = number_in 1 (h i);
  who = text_in 2 (h i);
  until = one_number x.until y.until (ap (λ (r : Row). column r 3) h) i;
}

lists : SelectsRows table.all_sql appointments_place [] (λ _. true)
unfolding everything
lists = shows appointments [] (refl, refl, refl) refl

-- its values are stored as they are
casts : (x : Appointment) → cast_all appointments.columns (appointment_row x) ≡ appointment_row x
casts x i = Text (place_text x.place) ∷ cast_int (pos x.since) i ∷ Text x.who ∷ cast_or_null x.until i ∷ []

-- the text that adds the row of a value
pub inserts : InsertsRow
    (codes "INSERT INTO appointments (place, since, who, until) VALUES (?1, ?2, ?3, ?4)") appointments_place appointment_row
unfolding everything
inserts = inserts_row 2 appointments casts (refl, refl, refl) refl

-- the text that puts it in the place of the row with its key
pub updates : UpdatesRow
    (codes "UPDATE appointments SET place = ?1, since = ?2, who = ?3, until = ?4 WHERE place = ?1 AND since = ?2") appointments_place appointment_row
unfolding everything
updates = updates_row 2 appointments casts (refl, refl, refl) refl

pub table_laws : IsTable table appointment_row (λ _. ⊤)
table_laws = record {
  lists = lists;
  one_value = one_value;
  keeps = λ db t k. k.appointments;
  stores = λ db t k. each_is t.rows.appointments;
  still = λ old new rows t sound keeps stored others k. still_at 2 4 old new t _
      (map appointment_row rows) refl refl sound keeps others k k.spot k.seats;
  stands = λ m t s. s.rows.appointments;
}

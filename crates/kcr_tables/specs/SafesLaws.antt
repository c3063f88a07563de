-- Written by tools/tables.py from tools/table_list.py: do not edit.
-- What the table safes proves of its texts, and of its place among the others.
use Rattle.std.proofs.Common.{◌≡◌, pos, [], ◌∷◌, map, codes, true, refl, ap}
use Rattle.std.specs.Bool.{⊤}
use Rattle.sqlite.specs.declared.types.Value.TheVariants.{Text}
use Rattle.kcr_base.specs.Facility.{facility_text}
use Rattle.kcr_rows.specs.{States.safe_digit, Rows.safe_row, Values.truth_number}
use Rattle.kcr_custody.specs.declared.SafeRow.{SafeRow}
use Rattle.kcr_tables.specs.{Schema.safes, StoredTables.safes_place}
use Rattle.kcr_tables.specs.TableTexts.{shows, inserts_row, updates_row, cast_all, cast_int, each_is, everything}
use Rattle.kcr_tables.specs.TableTexts.{number_in, one_facility, one_safe, one_truth, still_at, text_in, InsertsRow}
use Rattle.kcr_tables.specs.TableTexts.{IsTable, SelectsRows, TableSpec, UpdatesRow}

abbrev pub table : TableSpec SafeRow
table = record {
  rows_in = λ t. t.rows.safes;
  place = safes_place;
  is_stored = λ _. ⊤;
  with_rows = λ rows t. record t { rows = record t.rows { safes = rows } };
  all_sql = codes "SELECT facility, safe, state FROM safes ORDER BY facility, safe";
}

-- no two values stand for one row
pub one_value : (x y : SafeRow) → ⊤ → ⊤ → safe_row x ≡ safe_row y → x ≡ y
one_value x y read held h = λ i. record {
  facility = one_facility x.facility y.facility (ap (text_in 0) h) i;
  safe = one_safe x.safe y.safe (ap (number_in 1) h) i;
  is_open = one_truth x.is_open y.is_open (ap (number_in 2) h) i;
}

lists : SelectsRows table.all_sql safes_place [] (λ _. true)
unfolding everything
lists = shows safes [] (refl, refl, refl) refl

-- its values are stored as they are
casts : (x : SafeRow) → cast_all safes.columns (safe_row x) ≡ safe_row x
casts x i = Text (facility_text x.facility) ∷ cast_int (pos (safe_digit x.safe)) i
    ∷ cast_int (pos (truth_number x.is_open)) i ∷ []

-- the text that adds the row of a value
pub inserts : InsertsRow (codes "INSERT INTO safes (facility, safe, state) VALUES (?1, ?2, ?3)") safes_place safe_row
unfolding everything
inserts = inserts_row 4 safes casts (refl, refl, refl) refl

-- the text that puts it in the place of the row with its key
pub updates : UpdatesRow
    (codes "UPDATE safes SET facility = ?1, safe = ?2, state = ?3 WHERE facility = ?1 AND safe = ?2") safes_place safe_row
unfolding everything
updates = updates_row 4 safes casts (refl, refl, refl) refl

pub table_laws : IsTable table safe_row (λ _. ⊤)
table_laws = record {
  lists = lists;
  one_value = one_value;
  keeps = λ db t k. k.safes;
  stores = λ db t k. each_is t.rows.safes;
  still = λ old new rows t sound keeps stored others k. still_at 4 9 old new t _
      (map safe_row rows) refl refl sound keeps others k k.spot k.seats;
  stands = λ m t s. s.rows.safes;
}

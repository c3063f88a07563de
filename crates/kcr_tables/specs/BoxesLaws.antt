-- Written by tools/tables.py from tools/table_list.py: do not edit.
-- What the table boxes proves of its texts, and of its place among the others.
use Rattle.std.proofs.Common.{◌≡◌, pos, [], ◌∷◌, map, codes, true, refl, ap}
use Rattle.std.specs.Bool.{⊤}
use Rattle.sqlite.specs.declared.types.Value.TheVariants.{Text}
use Rattle.kcr_base.specs.{Facility.facility_text, Place.place_text}
use Rattle.kcr_rows.specs.Rows.{box_row}
use Rattle.kcr_custody.specs.declared.BoxRow.{BoxRow}
use Rattle.kcr_tables.specs.{Schema.boxes, StoredTables.boxes_place}
use Rattle.kcr_tables.specs.TableTexts.{shows, inserts_row, cast_all, cast_int, each_is, everything, number_in, TableSpec}
use Rattle.kcr_tables.specs.TableTexts.{one_facility, one_place, still_at, text_in, InsertsRow, IsTable, SelectsRows}

abbrev pub table : TableSpec BoxRow
table = record {
  rows_in = λ t. t.rows.boxes;
  place = boxes_place;
  is_stored = λ _. ⊤;
  with_rows = λ rows t. record t { rows = record t.rows { boxes = rows } };
  all_sql = codes "SELECT facility, box, place FROM boxes ORDER BY facility, box";
}

-- no two values stand for one row
pub one_value : (x y : BoxRow) → ⊤ → ⊤ → box_row x ≡ box_row y → x ≡ y
one_value x y read held h = λ i. record {
  facility = one_facility x.facility y.facility (ap (text_in 0) h) i;
  number = number_in 1 (h i);
  place = one_place x.place y.place (ap (text_in 2) h) i;
}

lists : SelectsRows table.all_sql boxes_place [] (λ _. true)
unfolding everything
lists = shows boxes [] (refl, refl, refl) refl

-- its values are stored as they are
casts : (x : BoxRow) → cast_all boxes.columns (box_row x) ≡ box_row x
casts x i = Text (facility_text x.facility) ∷ cast_int (pos x.number) i ∷ Text (place_text x.place) ∷ []

-- the text that adds the row of a value
pub inserts : InsertsRow (codes "INSERT INTO boxes (facility, box, place) VALUES (?1, ?2, ?3)") boxes_place box_row
unfolding everything
inserts = inserts_row 3 boxes casts (refl, refl, refl) refl

pub table_laws : IsTable table box_row (λ _. ⊤)
table_laws = record {
  lists = lists;
  one_value = one_value;
  keeps = λ db t k. k.boxes;
  stores = λ db t k. each_is t.rows.boxes;
  still = λ old new rows t sound keeps stored others k. still_at 3 7 old new t _
      (map box_row rows) refl refl sound keeps others k k.spot k.seats;
  stands = λ m t s. s.rows.boxes;
}

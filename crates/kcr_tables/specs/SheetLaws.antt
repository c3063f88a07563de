-- Written by tools/tables.py from tools/table_list.py: do not edit.
-- What the table sheet proves of its texts, and of its place among the others.
use Rattle.std.proofs.Common.{◌≡◌, pos, [], ◌∷◌, map, codes, true, refl, ap}
use Rattle.std.specs.Bool.{⊤}
use Rattle.sqlite.specs.declared.types.Value.TheVariants.{Text}
use Rattle.kcr_rows.specs.{States.way_number, Rows.sheet_row}
use Rattle.kcr_room.specs.declared.SheetRow.{SheetRow}
use Rattle.kcr_tables.specs.{Schema.sheet, StoredTables.sheet_place}
use Rattle.kcr_tables.specs.TableTexts.{shows, inserts_row, cast_all, cast_int, each_is, everything, number_in, one_way}
use Rattle.kcr_tables.specs.TableTexts.{still_at, text_in, InsertsRow, IsTable, SelectsRows, TableSpec}

abbrev pub table : TableSpec SheetRow
table = record {
  rows_in = λ t. t.rows.sheet;
  place = sheet_place;
  is_stored = λ _. ⊤;
  with_rows = λ rows t. record t { rows = record t.rows { sheet = rows } };
  all_sql = codes "SELECT who, at, ceremony, way FROM sheet ORDER BY who, at";
}

-- no two values stand for one row
pub one_value : (x y : SheetRow) → ⊤ → ⊤ → sheet_row x ≡ sheet_row y → x ≡ y
one_value x y read held h = λ i. record {
  who = text_in 0 (h i);
  at = number_in 1 (h i);
  ceremony = number_in 2 (h i);
  way = one_way x.way y.way (ap (number_in 3) h) i;
}

lists : SelectsRows table.all_sql sheet_place [] (λ _. true)
unfolding everything
lists = shows sheet [] (refl, refl, refl) refl

-- its values are stored as they are
casts : (x : SheetRow) → cast_all sheet.columns (sheet_row x) ≡ sheet_row x
casts x i = Text x.who ∷ cast_int (pos x.at) i ∷ cast_int (pos x.ceremony) i ∷ cast_int (pos (way_number x.way)) i ∷ []

-- the text that adds the row of a value
pub inserts : InsertsRow
    (codes "INSERT INTO sheet (who, at, ceremony, way) VALUES (?1, ?2, ?3, ?4)") sheet_place sheet_row
unfolding everything
inserts = inserts_row 11 sheet casts (refl, refl, refl) refl

pub table_laws : IsTable table sheet_row (λ _. ⊤)
table_laws = record {
  lists = lists;
  one_value = one_value;
  keeps = λ db t k. k.sheet;
  stores = λ db t k. each_is t.rows.sheet;
  still = λ old new rows t sound keeps stored others k. still_at 11 24 old new t _
      (map sheet_row rows) refl refl sound keeps others k k.spot k.seats;
  stands = λ m t s. s.rows.sheet;
}

-- Written by tools/tables.py from tools/table_list.py: do not edit.
-- What the table seatings proves of its texts, and of its place among the others.
use Rattle.std.proofs.Common.{◌≡◌, pos, [], ◌∷◌, map, codes, true, refl}
use Rattle.std.specs.Bool.{⊤}
use Rattle.sqlite.specs.declared.types.Value.TheVariants.{Text}
use Rattle.kcr_rows.specs.Rows.{seating_row}
use Rattle.kcr_history.specs.declared.row_types.SeatingRow.{SeatingRow}
use Rattle.kcr_tables.specs.{Schema.seatings, StoredTables.seatings_place}
use Rattle.kcr_tables.specs.TableTexts.{shows, inserts_row, cast_all, cast_int, each_is, everything, number_in}
use Rattle.kcr_tables.specs.TableTexts.{still_at, text_in, InsertsRow, IsTable, SelectsRows, TableSpec}

abbrev pub table : TableSpec SeatingRow
table = record {
  rows_in = λ t. t.rows.seatings;
  place = seatings_place;
  is_stored = λ _. ⊤;
  with_rows = λ rows t. record t { rows = record t.rows { seatings = rows } };
  all_sql = codes "SELECT ceremony, step, seat, who FROM seatings ORDER BY ceremony, step, seat";
}

-- no two values stand for one row
pub one_value : (x y : SeatingRow) → ⊤ → ⊤ → seating_row x ≡ seating_row y → x ≡ y
one_value x y read held h = λ i. record {
  ceremony = number_in 0 (h i);
  step = number_in 1 (h i);
  seat = number_in 2 (h i);
  who = text_in 3 (h i);
}

lists : SelectsRows table.all_sql seatings_place [] (λ _. true)
unfolding everything
lists = shows seatings [] (refl, refl, refl) refl

-- its values are stored as they are
casts : (x : SeatingRow) → cast_all seatings.columns (seating_row x) ≡ seating_row x
casts x i = cast_int (pos x.ceremony) i ∷ cast_int (pos x.step) i ∷ cast_int (pos x.seat) i ∷ Text x.who ∷ []

-- the text that adds the row of a value
pub inserts : InsertsRow
    (codes "INSERT INTO seatings (ceremony, step, seat, who) VALUES (?1, ?2, ?3, ?4)") seatings_place seating_row
unfolding everything
inserts = inserts_row 10 seatings casts (refl, refl, refl) refl

pub table_laws : IsTable table seating_row (λ _. ⊤)
table_laws = record {
  lists = lists;
  one_value = one_value;
  keeps = λ db t k. k.seatings;
  stores = λ db t k. each_is t.rows.seatings;
  still = λ old new rows t sound keeps stored others k. still_at 10 22 old new t _
      (map seating_row rows) refl refl sound keeps others k k.spot k.seats;
  stands = λ m t s. s.rows.seatings;
}

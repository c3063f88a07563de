-- Written by tools/tables.py from tools/table_list.py: do not edit.
-- What the table stays proves of its texts, and of its place among the others.
use Rattle.std.proofs.Common.{◌≡◌, pos, [], ◌∷◌, map, codes, true, refl, ap}
use Rattle.std.specs.Bool.{⊤}
use Rattle.sqlite.specs.{declared.types.Value.TheVariants.Text, Order.Row, Order.column}
use Rattle.kcr_rows.specs.Rows.{stay_row}
use Rattle.kcr_room.specs.declared.Stay.{Stay}
use Rattle.kcr_tables.specs.{Schema.stays, StoredTables.stays_place}
use Rattle.kcr_tables.specs.TableTexts.{shows, inserts_row, updates_row, cast_all, cast_int, cast_or_null, each_is}
use Rattle.kcr_tables.specs.TableTexts.{everything, number_in, one_number, still_at, text_in, InsertsRow, IsTable, SelectsRows, TableSpec, UpdatesRow}

abbrev pub table : TableSpec Stay
table = record {
  rows_in = λ t. t.rows.stays;
  place = stays_place;
  is_stored = λ _. ⊤;
  with_rows = λ rows t. record t { rows = record t.rows { stays = rows } };
  all_sql = codes "SELECT who, since, ceremony, until FROM stays ORDER BY who, since";
}

-- no two values stand for one row
pub one_value : (x y : Stay) → ⊤ → ⊤ → stay_row x ≡ stay_row y → x ≡ y
one_value x y read held h = λ i. record {
  who = text_in 0 (h i);
  since = number_in 1 (h i);
  ceremony = number_in 2 (h i);
  until = one_number x.until y.until (ap (λ (r : Row). column r 3) h) i;
}

lists : SelectsRows table.all_sql stays_place [] (λ _. true)
unfolding everything
lists = shows stays [] (refl, refl, refl) refl

-- its values are stored as they are
casts : (x : Stay) → cast_all stays.columns (stay_row x) ≡ stay_row x
casts x i = Text x.who ∷ cast_int (pos x.since) i ∷ cast_int (pos x.ceremony) i ∷ cast_or_null x.until i ∷ []

-- the text that adds the row of a value
pub inserts : InsertsRow
    (codes "INSERT INTO stays (who, since, ceremony, until) VALUES (?1, ?2, ?3, ?4)") stays_place stay_row
unfolding everything
inserts = inserts_row 15 stays casts (refl, refl, refl) refl

-- the text that puts it in the place of the row with its key
pub updates : UpdatesRow
    (codes "UPDATE stays SET who = ?1, since = ?2, ceremony = ?3, until = ?4 WHERE who = ?1 AND since = ?2") stays_place stay_row
unfolding everything
updates = updates_row 15 stays casts (refl, refl, refl) refl

pub table_laws : IsTable table stay_row (λ _. ⊤)
table_laws = record {
  lists = lists;
  one_value = one_value;
  keeps = λ db t k. k.stays;
  stores = λ db t k. each_is t.rows.stays;
  still = λ old new rows t sound keeps stored others k. still_at 15 32 old new t _
      (map stay_row rows) refl refl sound keeps others k k.spot k.seats;
  stands = λ m t s. s.rows.stays;
}

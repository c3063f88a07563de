-- Written by tools/tables.py from tools/table_list.py: do not edit.
-- What the table marks proves of its texts, and of its place among the others.
use Rattle.std.proofs.Common.{◌≡◌, ℕ, pos, [], ◌∷◌, map, codes, true, refl, sym, ◌∙◌}
use Rattle.std.specs.Bool.{⊤}
use Rattle.sqlite.specs.declared.types.Value.TheVariants.{Int}
use Rattle.kcr_history.specs.{Views.is_mark_of, declared.row_types.MarkRow.MarkRow}
use Rattle.kcr_rows.specs.Rows.{mark_row}
use Rattle.kcr_tables.specs.{Schema.marks, StoredTables.marks_place}
use Rattle.kcr_tables.specs.TableTexts.{shows, is_given, inserts_row, updates_row, cast_all, cast_int, each_is}
use Rattle.kcr_tables.specs.TableTexts.{everything, number_in, number_ties, still_at, value_is, InsertsRow, IsLookup}
use Rattle.kcr_tables.specs.TableTexts.{IsTable, LookupSpec, SelectsRows, TableSpec, UpdatesRow}

abbrev pub table : TableSpec MarkRow
table = record {
  rows_in = λ t. t.rows.marks;
  place = marks_place;
  is_stored = λ _. ⊤;
  with_rows = λ rows t. record t { rows = record t.rows { marks = rows } };
  all_sql = codes "SELECT ceremony, at FROM marks ORDER BY ceremony";
}

-- no two values stand for one row
pub one_value : (x y : MarkRow) → ⊤ → ⊤ → mark_row x ≡ mark_row y → x ≡ y
one_value x y read held h = λ i. record { ceremony = number_in 0 (h i); at = number_in 1 (h i) }

lists : SelectsRows table.all_sql marks_place [] (λ _. true)
unfolding everything
lists = shows marks [] (refl, refl, refl) refl

-- the row of the ceremony, alone, or none
abbrev pub mark_of : LookupSpec ℕ MarkRow
mark_of = record { is_under = λ ceremony x. is_mark_of ceremony x; column = 0; find_sql = codes "SELECT ceremony, at FROM marks WHERE ceremony = ?1 ORDER BY ceremony" }

pub mark_of_laws : IsLookup mark_of marks_place (λ n. Int (pos n)) mark_row
unfolding everything
mark_of_laws = record {
  finds = λ ceremony. shows marks (is_given 1) (refl, refl, refl) refl;
  under = λ ceremony x. value_is (Int (pos x.ceremony)) (Int (pos ceremony)) refl refl
      ∙ sym (number_ties x.ceremony ceremony);
}

-- its values are stored as they are
casts : (x : MarkRow) → cast_all marks.columns (mark_row x) ≡ mark_row x
casts x i = cast_int (pos x.ceremony) i ∷ cast_int (pos x.at) i ∷ []

-- the text that adds the row of a value
pub inserts : InsertsRow (codes "INSERT INTO marks (ceremony, at) VALUES (?1, ?2)") marks_place mark_row
unfolding everything
inserts = inserts_row 8 marks casts (refl, refl, refl) refl

-- the text that puts it in the place of the row with its key
pub updates : UpdatesRow (codes "UPDATE marks SET ceremony = ?1, at = ?2 WHERE ceremony = ?1") marks_place mark_row
unfolding everything
updates = updates_row 8 marks casts (refl, refl, refl) refl

pub table_laws : IsTable table mark_row (λ _. ⊤)
table_laws = record {
  lists = lists;
  one_value = one_value;
  keeps = λ db t k. k.marks;
  stores = λ db t k. each_is t.rows.marks;
  still = λ old new rows t sound keeps stored others k. still_at 8 18 old new t _
      (map mark_row rows) refl refl sound keeps others k k.spot k.seats;
  stands = λ m t s. s.rows.marks;
}

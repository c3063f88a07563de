-- Written by tools/tables.py from tools/table_list.py: do not edit.
-- What the table keys proves of its texts, and of its place among the others.
use Rattle.std.proofs.Common.{◌≡◌, ℕ, pos, List, [], ◌∷◌, map, codes, true, refl, sym, ◌∙◌}
use Rattle.std.specs.Bool.{⊤}
use Rattle.sqlite.specs.declared.types.Value.TheVariants.{Null, Int, Text}
use Rattle.sqlite.specs.Term.{lit, col}
use Rattle.kcr_history.specs.{Views.is_of_key, declared.row_types.KeyRow.KeyRow}
use Rattle.kcr_rows.specs.Rows.{key_row}
use Rattle.kcr_tables.specs.{Schema.keys, StoredTables.keys_place}
use Rattle.kcr_tables.specs.TableTexts.{shows, is_given, inserts_as, cast_int, cast_null, each_is, everything}
use Rattle.kcr_tables.specs.TableTexts.{number_in, still_at, text_in, text_ties, value_is, InsertsRow, IsLookup}
use Rattle.kcr_tables.specs.TableTexts.{IsTable, LookupSpec, SelectsRows, TableSpec}

abbrev pub table : TableSpec KeyRow
table = record {
  rows_in = λ t. t.rows.keys;
  place = keys_place;
  is_stored = λ _. ⊤;
  with_rows = λ rows t. record t { rows = record t.rows { keys = rows } };
  all_sql = codes "SELECT \"key\", accepted, command, reply FROM keys ORDER BY \"key\"";
}

-- no two values stand for one row
pub one_value : (x y : KeyRow) → ⊤ → ⊤ → key_row x ≡ key_row y → x ≡ y
one_value x y read held h = λ i. record {
  key = text_in 0 (h i);
  accepted = number_in 1 (h i);
  command = text_in 2 (h i);
  reply = text_in 3 (h i);
}

lists : SelectsRows table.all_sql keys_place [] (λ _. true)
unfolding everything
lists = shows keys [] (refl, refl, refl) refl

-- the row of this key, alone, or none
abbrev pub key_row_of : LookupSpec (List ℕ) KeyRow
key_row_of = record { is_under = λ key x. is_of_key key x; column = 0; find_sql = codes "SELECT \"key\", accepted, command, reply FROM keys WHERE \"key\" = ?1 ORDER BY \"key\"" }

pub key_row_of_laws : IsLookup key_row_of keys_place Text key_row
unfolding everything
key_row_of_laws = record {
  finds = λ key. shows keys (is_given 1) (refl, refl, refl) refl;
  under = λ key x. value_is (Text x.key) (Text key) refl refl ∙ sym (text_ties x.key key);
}

-- the text that adds the row of a value
pub inserts : InsertsRow
    (codes "INSERT INTO keys (\"key\", accepted, command, reply) VALUES (?1, ?2, ?3, ?4)") keys_place key_row
unfolding everything
inserts = inserts_as 14 keys (col 0 1 ∷ col 0 0 ∷ lit Null ∷ col 0 2 ∷ col 0 3 ∷ [])
    (λ x. Int (pos x.accepted) ∷ Text x.key ∷ Null ∷ Text x.command ∷ Text x.reply ∷ [])
    (λ x i. cast_int (pos x.accepted) i ∷ Text x.key ∷ cast_null i ∷ Text x.command ∷ Text x.reply ∷ [])
    (refl, refl, refl) refl

pub table_laws : IsTable table key_row (λ _. ⊤)
table_laws = record {
  lists = lists;
  one_value = one_value;
  keeps = λ db t k. k.keys;
  stores = λ db t k. each_is t.rows.keys;
  still = λ old new rows t sound keeps stored others k. still_at 14 30 old new t _
      (map key_row rows) refl refl sound keeps others k k.spot k.seats;
  stands = λ m t s. s.rows.keys;
}

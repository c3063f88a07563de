-- Written by tools/tables.py from tools/table_list.py: do not edit.
-- What the table exceptions proves of its texts, and of its place among the others.
use Rattle.std.proofs.Common.{◌≡◌, ℕ, pos, [], ◌∷◌, map, codes, true, refl, sym, ap, ◌∙◌}
use Rattle.std.specs.Bool.{⊤}
use Rattle.sqlite.specs.{declared.types.Value.TheVariants.Int, declared.types.Value.TheVariants.Text, Order.Row, Order.column}
use Rattle.kcr_history.specs.{Views.is_exception_of, declared.row_types.ExceptionRow.ExceptionRow}
use Rattle.kcr_rows.specs.Rows.{exception_row}
use Rattle.kcr_tables.specs.{Schema.exceptions, StoredTables.exceptions_place}
use Rattle.kcr_tables.specs.TableTexts.{shows, is_given, inserts_row, cast_all, cast_int, cast_or_null, each_is}
use Rattle.kcr_tables.specs.TableTexts.{everything, number_in, number_ties, one_number, still_at, text_in, value_is}
use Rattle.kcr_tables.specs.TableTexts.{InsertsRow, IsLookup, IsTable, LookupSpec, SelectsRows, TableSpec}

abbrev pub table : TableSpec ExceptionRow
table = record {
  rows_in = λ t. t.rows.exceptions;
  place = exceptions_place;
  is_stored = λ _. ⊤;
  with_rows = λ rows t. record t { rows = record t.rows { exceptions = rows } };
  all_sql = codes "SELECT ceremony, exception, text, at, passed FROM exceptions ORDER BY ceremony, exception";
}

-- no two values stand for one row
pub one_value : (x y : ExceptionRow) → ⊤ → ⊤ → exception_row x ≡ exception_row y → x ≡ y
one_value x y read held h = λ i. record {
  ceremony = number_in 0 (h i);
  exception = number_in 1 (h i);
  text = text_in 2 (h i);
  at = number_in 3 (h i);
  passed = one_number x.passed y.passed (ap (λ (r : Row). column r 4) h) i;
}

lists : SelectsRows table.all_sql exceptions_place [] (λ _. true)
unfolding everything
lists = shows exceptions [] (refl, refl, refl) refl

-- the rows of one ceremony
abbrev pub exceptions_of : LookupSpec ℕ ExceptionRow
exceptions_of = record { is_under = λ ceremony x. is_exception_of ceremony x; column = 0; find_sql = codes "SELECT ceremony, exception, text, at, passed FROM exceptions WHERE ceremony = ?1 ORDER BY ceremony, exception" }

pub exceptions_of_laws : IsLookup exceptions_of exceptions_place (λ n. Int (pos n)) exception_row
unfolding everything
exceptions_of_laws = record {
  finds = λ ceremony. shows exceptions (is_given 1) (refl, refl, refl) refl;
  under = λ ceremony x. value_is (Int (pos x.ceremony)) (Int (pos ceremony)) refl refl
      ∙ sym (number_ties x.ceremony ceremony);
}

-- its values are stored as they are
casts : (x : ExceptionRow) → cast_all exceptions.columns (exception_row x) ≡ exception_row x
casts x i = cast_int (pos x.ceremony) i ∷ cast_int (pos x.exception) i ∷ Text x.text ∷ cast_int (pos x.at) i
    ∷ cast_or_null x.passed i ∷ []

-- the text that adds the row of a value
pub inserts : InsertsRow
    (codes "INSERT INTO exceptions (ceremony, exception, text, at, passed) VALUES (?1, ?2, ?3, ?4, ?5)") exceptions_place exception_row
unfolding everything
inserts = inserts_row 12 exceptions casts (refl, refl, refl) refl

pub table_laws : IsTable table exception_row (λ _. ⊤)
table_laws = record {
  lists = lists;
  one_value = one_value;
  keeps = λ db t k. k.exceptions;
  stores = λ db t k. each_is t.rows.exceptions;
  still = λ old new rows t sound keeps stored others k. still_at 12 26 old new t _
      (map exception_row rows) refl refl sound keeps others k k.spot k.seats;
  stands = λ m t s. s.rows.exceptions;
}

-- Written by tools/tables.py from tools/table_list.py: do not edit.
-- What the table ceremonies proves of its texts, and of its place among the others.
use Rattle.std.proofs.Common.{◌≡◌, ℕ, pos, [], ◌∷◌, map, codes, true, refl, sym, ap, ◌∙◌}
use Rattle.std.specs.Bool.{⊤}
use Rattle.sqlite.specs.{declared.types.Value.TheVariants.Int, declared.types.Value.TheVariants.Text, Order.Row, Order.column}
use Rattle.kcr_history.specs.{Views.is_of_number, declared.row_types.CeremonyRow.CeremonyRow}
use Rattle.kcr_base.specs.Facility.{facility_text}
use Rattle.kcr_rows.specs.{States.ceremony_number, Rows.ceremony_row}
use Rattle.kcr_tables.specs.{Schema.ceremonies, StoredTables.ceremonies_place}
use Rattle.kcr_tables.specs.TableTexts.{shows, is_given, inserts_row, updates_row, cast_all, cast_int, cast_or_null}
use Rattle.kcr_tables.specs.TableTexts.{each_is, everything, number_in, number_ties, one_ceremony_state, one_facility}
use Rattle.kcr_tables.specs.TableTexts.{one_number, still_at, text_in, value_is, InsertsRow, IsLookup, IsTable}
use Rattle.kcr_tables.specs.TableTexts.{LookupSpec, SelectsRows, TableSpec, UpdatesRow}

abbrev pub table : TableSpec CeremonyRow
table = record {
  rows_in = λ t. t.rows.ceremonies;
  place = ceremonies_place;
  is_stored = λ _. ⊤;
  with_rows = λ rows t. record t { rows = record t.rows { ceremonies = rows } };
  all_sql = codes "SELECT number, facility, day, state, opened, closed FROM ceremonies ORDER BY number";
}

-- no two values stand for one row
pub one_value : (x y : CeremonyRow) → ⊤ → ⊤ → ceremony_row x ≡ ceremony_row y → x ≡ y
one_value x y read held h = λ i. record {
  number = number_in 0 (h i);
  facility = one_facility x.facility y.facility (ap (text_in 1) h) i;
  day = number_in 2 (h i);
  state = one_ceremony_state x.state y.state (ap (number_in 3) h) i;
  opened = one_number x.opened y.opened (ap (λ (r : Row). column r 4) h) i;
  closed = one_number x.closed y.closed (ap (λ (r : Row). column r 5) h) i;
}

lists : SelectsRows table.all_sql ceremonies_place [] (λ _. true)
unfolding everything
lists = shows ceremonies [] (refl, refl, refl) refl

-- the row of the ceremony with this number, alone, or none
abbrev pub ceremony_of : LookupSpec ℕ CeremonyRow
ceremony_of = record { is_under = λ number x. is_of_number number x; column = 0; find_sql = codes "SELECT number, facility, day, state, opened, closed FROM ceremonies WHERE number = ?1 ORDER BY number" }

pub ceremony_of_laws : IsLookup ceremony_of ceremonies_place (λ n. Int (pos n)) ceremony_row
unfolding everything
ceremony_of_laws = record {
  finds = λ number. shows ceremonies (is_given 1) (refl, refl, refl) refl;
  under = λ number x. value_is (Int (pos x.number)) (Int (pos number)) refl refl ∙ sym (number_ties x.number number);
}

-- its values are stored as they are
casts : (x : CeremonyRow) → cast_all ceremonies.columns (ceremony_row x) ≡ ceremony_row x
casts x i = cast_int (pos x.number) i ∷ Text (facility_text x.facility) ∷ cast_int (pos x.day) i
    ∷ cast_int (pos (ceremony_number x.state)) i ∷ cast_or_null x.opened i ∷ cast_or_null x.closed i ∷ []

-- the text that adds the row of a value
pub inserts : InsertsRow
    (codes "INSERT INTO ceremonies (number, facility, day, state, opened, closed) VALUES (?1, ?2, ?3, ?4, ?5, ?6)") ceremonies_place ceremony_row
unfolding everything
inserts = inserts_row 7 ceremonies casts (refl, refl, refl) refl

-- the text that puts it in the place of the row with its key
pub updates : UpdatesRow
    (codes "UPDATE ceremonies SET number = ?1, facility = ?2, day = ?3, state = ?4, opened = ?5, closed = ?6 WHERE number = ?1") ceremonies_place ceremony_row
unfolding everything
updates = updates_row 7 ceremonies casts (refl, refl, refl) refl

pub table_laws : IsTable table ceremony_row (λ _. ⊤)
table_laws = record {
  lists = lists;
  one_value = one_value;
  keeps = λ db t k. k.ceremonies;
  stores = λ db t k. each_is t.rows.ceremonies;
  still = λ old new rows t sound keeps stored others k. still_at 7 16 old new t _
      (map ceremony_row rows) refl refl sound keeps others k k.spot k.seats;
  stands = λ m t s. s.rows.ceremonies;
}

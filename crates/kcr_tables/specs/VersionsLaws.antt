-- Written by tools/tables.py from tools/table_list.py: do not edit.
-- What the table versions proves of its texts, and of its place among the others.
use Rattle.std.proofs.Common.{◌≡◌, IsPermutation, pos, [], ◌∷◌, map, codes, true, refl, sym, subst}
use Rattle.std.specs.Bool.{⊤}
use Rattle.std.proofs.lemmas.List.Sorted.{IsPermutation-refl}
use Rattle.kcr_rows.specs.{Rows.version_row, declared.row_impls.Version.Version}
use Rattle.kcr_tables.specs.{Schema.versions, NewTables.new_tables, StoredTables.versions_place}
use Rattle.kcr_tables.specs.TableTexts.{shows, inserts_row, cast_all, cast_int, each_is, everything, number_in}
use Rattle.kcr_tables.specs.TableTexts.{still_at, InsertsRow, IsTable, SelectsRows, TableSpec}

abbrev pub table : TableSpec Version
table = record {
  rows_in = λ t. t.versions;
  place = versions_place;
  is_stored = λ _. ⊤;
  with_rows = λ rows t. record t { versions = rows };
  all_sql = codes "SELECT number FROM versions ORDER BY number";
}

-- no two values stand for one row
pub one_value : (x y : Version) → ⊤ → ⊤ → version_row x ≡ version_row y → x ≡ y
one_value x y read held h = λ i. record { number = number_in 0 (h i) }

lists : SelectsRows table.all_sql versions_place [] (λ _. true)
unfolding everything
lists = shows versions [] (refl, refl, refl) refl

-- its values are stored as they are
casts : (x : Version) → cast_all versions.columns (version_row x) ≡ version_row x
casts x i = cast_int (pos x.number) i ∷ []

-- the text that adds the row of a value
pub inserts : InsertsRow (codes "INSERT INTO versions (number) VALUES (?1)") versions_place version_row
unfolding everything
inserts = inserts_row 13 versions casts (refl, refl, refl) refl

pub table_laws : IsTable table version_row (λ _. ⊤)
table_laws = record {
  lists = lists;
  one_value = one_value;
  keeps = λ db t k. k.versions;
  stores = λ db t k. each_is t.versions;
  still = λ old new rows t sound keeps stored others k. still_at 13 28 old new t _
      (map version_row rows) refl refl sound keeps others k k.spot k.seats;
  stands = λ m t s. subst (λ l. IsPermutation new_tables.versions l) (sym s.versions)
      (IsPermutation-refl new_tables.versions);
}

-- Written by tools/tables.py from tools/table_list.py: do not edit.
-- What the table bags proves of its texts, and of its place among the others.
use Rattle.std.proofs.Common.{◌≡◌, ℕ, List, [], ◌∷◌, map, codes, true, refl, sym, ap, ◌∙◌}
use Rattle.sqlite.specs.declared.types.Value.TheVariants.{Text}
use Rattle.kcr_history.specs.Views.{is_of_serial}
use Rattle.kcr_custody.specs.{Spots.spot_text, declared.Bag.Bag}
use Rattle.kcr_rows.specs.{Rows.bag_row, States.HasBoxNumber}
use Rattle.kcr_tables.specs.{Schema.bags, StoredTables.bags_place}
use Rattle.kcr_tables.specs.TableTexts.{shows, is_given, inserts_row, updates_row, cast_all, everything, one_spot}
use Rattle.kcr_tables.specs.TableTexts.{still_at, text_in, text_ties, value_is, InsertsRow, IsLookup, IsTable}
use Rattle.kcr_tables.specs.TableTexts.{LookupSpec, SelectsRows, TableSpec, UpdatesRow}

abbrev pub table : TableSpec Bag
table = record {
  rows_in = λ t. t.rows.bags;
  place = bags_place;
  is_stored = HasBoxNumber;
  with_rows = λ rows t. record t { rows = record t.rows { bags = rows } };
  all_sql = codes "SELECT serial, spot FROM bags ORDER BY serial";
}

-- no two values stand for one row
pub one_value : (x y : Bag) → HasBoxNumber x → HasBoxNumber y → bag_row x ≡ bag_row y → x ≡ y
one_value x y read held h = λ i. record {
  serial = text_in 0 (h i);
  spot = one_spot x.spot y.spot read held (ap (text_in 1) h) i;
}

lists : SelectsRows table.all_sql bags_place [] (λ _. true)
unfolding everything
lists = shows bags [] (refl, refl, refl) refl

-- the row of the bag with this serial, alone, or none
abbrev pub bag_of : LookupSpec (List ℕ) Bag
bag_of = record { is_under = λ serial x. is_of_serial serial x; column = 0; find_sql = codes "SELECT serial, spot FROM bags WHERE serial = ?1 ORDER BY serial" }

pub bag_of_laws : IsLookup bag_of bags_place Text bag_row
unfolding everything
bag_of_laws = record {
  finds = λ serial. shows bags (is_given 1) (refl, refl, refl) refl;
  under = λ serial x. value_is (Text x.serial) (Text serial) refl refl ∙ sym (text_ties x.serial serial);
}

-- its values are stored as they are
casts : (x : Bag) → cast_all bags.columns (bag_row x) ≡ bag_row x
casts x i = Text x.serial ∷ Text (spot_text x.spot) ∷ []

-- the text that adds the row of a value
pub inserts : InsertsRow (codes "INSERT INTO bags (serial, spot) VALUES (?1, ?2)") bags_place bag_row
unfolding everything
inserts = inserts_row 5 bags casts (refl, refl, refl) refl

-- the text that puts it in the place of the row with its key
pub updates : UpdatesRow (codes "UPDATE bags SET serial = ?1, spot = ?2 WHERE serial = ?1") bags_place bag_row
unfolding everything
updates = updates_row 5 bags casts (refl, refl, refl) refl

pub table_laws : IsTable table bag_row HasBoxNumber
table_laws = record {
  lists = lists;
  one_value = one_value;
  keeps = λ db t k. k.bags;
  stores = λ db t k. k.spot;
  still = λ old new rows t sound keeps stored others k. still_at 5 11 old new t _
      (map bag_row rows) refl refl sound keeps others k stored k.seats;
  stands = λ m t s. s.rows.bags;
}

-- Written by tools/tables.py from tools/table_list.py: do not edit.
-- What the table items proves of its texts, and of its place among the others.
use Rattle.std.proofs.Common.{◌≡◌, ℕ, List, [], ◌∷◌, map, codes, true, refl, sym, ap, ◌∙◌}
use Rattle.std.specs.Bool.{⊤}
use Rattle.sqlite.specs.{declared.types.Value.TheVariants.Text, Order.Row, Order.column}
use Rattle.kcr_history.specs.Views.{is_item_of}
use Rattle.kcr_history.specs.declared.views.ItemFilter.TheVariants as Wanted
use Rattle.kcr_rows.specs.Rows.{item_row}
use Rattle.kcr_custody.specs.declared.Item.{Item}
use Rattle.kcr_tables.specs.{Schema.items, StoredTables.items_place}
use Rattle.kcr_tables.specs.TableTexts.{shows, is_given, inserts_row, updates_row, cast_all, cast_loose, cast_within}
use Rattle.kcr_tables.specs.TableTexts.{each_is, everything, one_rest, same_text, still_at, text_in, text_ties, TableSpec, UpdatesRow}
use Rattle.kcr_tables.specs.TableTexts.{value_is, within_is, InsertsRow, IsLookup, IsTable, LookupSpec, SelectsRows}

abbrev pub table : TableSpec Item
table = record {
  rows_in = λ t. t.rows.items;
  place = items_place;
  is_stored = λ _. ⊤;
  with_rows = λ rows t. record t { rows = record t.rows { items = rows } };
  all_sql = codes "SELECT code, facility, serial FROM items ORDER BY code";
}

-- no two values stand for one row
pub one_value : (x y : Item) → ⊤ → ⊤ → item_row x ≡ item_row y → x ≡ y
one_value x y read held h = λ i. record {
  code = text_in 0 (h i);
  rest = one_rest x.rest y.rest (ap (λ (r : Row). column r 1) h) (ap (λ (r : Row). column r 2) h) i;
}

lists : SelectsRows table.all_sql items_place [] (λ _. true)
unfolding everything
lists = shows items [] (refl, refl, refl) refl

-- the row of the item with this code, alone, or none
abbrev pub item_of : LookupSpec (List ℕ) Item
item_of = record { is_under = λ code x. same_text x.code code; column = 0; find_sql = codes "SELECT code, facility, serial FROM items WHERE code = ?1 ORDER BY code" }

pub item_of_laws : IsLookup item_of items_place Text item_row
unfolding everything
item_of_laws = record {
  finds = λ code. shows items (is_given 1) (refl, refl, refl) refl;
  under = λ code x. value_is (Text x.code) (Text code) refl refl ∙ sym (text_ties x.code code);
}

-- the rows of the items in the bag with this serial
abbrev pub items_within : LookupSpec (List ℕ) Item
items_within = record { is_under = λ serial x. is_item_of (Wanted.Bag serial) x; column = 2; find_sql = codes "SELECT code, facility, serial FROM items WHERE serial = ?1 ORDER BY code" }

pub items_within_laws : IsLookup items_within items_place Text item_row
unfolding everything
items_within_laws = record {
  finds = λ serial. shows items (is_given 3) (refl, refl, refl) refl;
  under = λ serial x. within_is x.rest serial;
}

-- its values are stored as they are
casts : (x : Item) → cast_all items.columns (item_row x) ≡ item_row x
casts x i = Text x.code ∷ cast_loose x.rest i ∷ cast_within x.rest i ∷ []

-- the text that adds the row of a value
pub inserts : InsertsRow (codes "INSERT INTO items (code, facility, serial) VALUES (?1, ?2, ?3)") items_place item_row
unfolding everything
inserts = inserts_row 6 items casts (refl, refl, refl) refl

-- the text that puts it in the place of the row with its key
pub updates : UpdatesRow
    (codes "UPDATE items SET code = ?1, facility = ?2, serial = ?3 WHERE code = ?1") items_place item_row
unfolding everything
updates = updates_row 6 items casts (refl, refl, refl) refl

pub table_laws : IsTable table item_row (λ _. ⊤)
table_laws = record {
  lists = lists;
  one_value = one_value;
  keeps = λ db t k. k.items;
  stores = λ db t k. each_is t.rows.items;
  still = λ old new rows t sound keeps stored others k. still_at 6 13 old new t _
      (map item_row rows) refl refl sound keeps others k k.spot k.seats;
  stands = λ m t s. s.rows.items;
}

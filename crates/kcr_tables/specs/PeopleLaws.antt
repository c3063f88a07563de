-- Written by tools/tables.py from tools/table_list.py: do not edit.
-- What the table people proves of its texts, and of its place among the others.
use Rattle.std.proofs.Common.{◌≡◌, ℕ, List, [], ◌∷◌, map, codes, true, refl, sym, ◌∙◌}
use Rattle.std.specs.Bool.{⊤}
use Rattle.sqlite.specs.declared.types.Value.TheVariants.{Text}
use Rattle.kcr_rows.specs.Rows.{person_row}
use Rattle.kcr_people.specs.declared.Person.{Person}
use Rattle.kcr_tables.specs.{Schema.people, StoredTables.people_place}
use Rattle.kcr_tables.specs.TableTexts.{shows, is_given, inserts_row, cast_all, each_is, everything, same_text}
use Rattle.kcr_tables.specs.TableTexts.{still_at, text_in, text_ties, value_is, InsertsRow, IsLookup, IsTable, LookupSpec, SelectsRows, TableSpec}

abbrev pub table : TableSpec Person
table = record {
  rows_in = λ t. t.rows.people;
  place = people_place;
  is_stored = λ _. ⊤;
  with_rows = λ rows t. record t { rows = record t.rows { people = rows } };
  all_sql = codes "SELECT who, name FROM people ORDER BY who";
}

-- no two values stand for one row
pub one_value : (x y : Person) → ⊤ → ⊤ → person_row x ≡ person_row y → x ≡ y
one_value x y read held h = λ i. record { who = text_in 0 (h i); name = text_in 1 (h i) }

lists : SelectsRows table.all_sql people_place [] (λ _. true)
unfolding everything
lists = shows people [] (refl, refl, refl) refl

-- the row of the person with these initials, alone, or none
abbrev pub person_of : LookupSpec (List ℕ) Person
person_of = record { is_under = λ who x. same_text x.who who; column = 0; find_sql = codes "SELECT who, name FROM people WHERE who = ?1 ORDER BY who" }

pub person_of_laws : IsLookup person_of people_place Text person_row
unfolding everything
person_of_laws = record {
  finds = λ who. shows people (is_given 1) (refl, refl, refl) refl;
  under = λ who x. value_is (Text x.who) (Text who) refl refl ∙ sym (text_ties x.who who);
}

-- its values are stored as they are
casts : (x : Person) → cast_all people.columns (person_row x) ≡ person_row x
casts x i = Text x.who ∷ Text x.name ∷ []

-- the text that adds the row of a value
pub inserts : InsertsRow (codes "INSERT INTO people (who, name) VALUES (?1, ?2)") people_place person_row
unfolding everything
inserts = inserts_row 0 people casts (refl, refl, refl) refl

pub table_laws : IsTable table person_row (λ _. ⊤)
table_laws = record {
  lists = lists;
  one_value = one_value;
  keeps = λ db t k. k.people;
  stores = λ db t k. each_is t.rows.people;
  still = λ old new rows t sound keeps stored others k. still_at 0 0 old new t _
      (map person_row rows) refl refl sound keeps others k k.spot k.seats;
  stands = λ m t s. s.rows.people;
}

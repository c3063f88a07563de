-- Written by tools/tables.py from tools/table_list.py: do not edit.
-- What the table trainings proves of its texts, and of its place among the others.
use Rattle.std.proofs.Common.{◌≡◌, ℕ, pos, List, [], ◌∷◌, map, codes, true, refl, sym, ap, ◌∙◌}
use Rattle.std.specs.Bool.{⊤}
use Rattle.sqlite.specs.declared.types.Value.TheVariants.{Text}
use Rattle.kcr_history.specs.Views.{is_training_of}
use Rattle.kcr_base.specs.Role.{role_text}
use Rattle.kcr_rows.specs.Rows.{training_row}
use Rattle.kcr_people.specs.declared.Training.{Training}
use Rattle.kcr_tables.specs.{Schema.trainings, StoredTables.trainings_place}
use Rattle.kcr_tables.specs.TableTexts.{shows, is_given, inserts_row, cast_all, cast_int, each_is, everything}
use Rattle.kcr_tables.specs.TableTexts.{number_in, one_role, still_at, text_in, text_ties, value_is, InsertsRow}
use Rattle.kcr_tables.specs.TableTexts.{IsLookup, IsTable, LookupSpec, SelectsRows, TableSpec}

abbrev pub table : TableSpec Training
table = record {
  rows_in = λ t. t.rows.trainings;
  place = trainings_place;
  is_stored = λ _. ⊤;
  with_rows = λ rows t. record t { rows = record t.rows { trainings = rows } };
  all_sql = codes "SELECT who, role, since, until FROM trainings ORDER BY who, role, since, until";
}

-- no two values stand for one row
pub one_value : (x y : Training) → ⊤ → ⊤ → training_row x ≡ training_row y → x ≡ y
one_value x y read held h = λ i. record {
  who = text_in 0 (h i);
  role = one_role x.role y.role (ap (text_in 1) h) i;
  since = number_in 2 (h i);
  until = number_in 3 (h i);
}

lists : SelectsRows table.all_sql trainings_place [] (λ _. true)
unfolding everything
lists = shows trainings [] (refl, refl, refl) refl

-- the rows of one person
abbrev pub trainings_of : LookupSpec (List ℕ) Training
trainings_of = record { is_under = λ who x. is_training_of who x; column = 0; find_sql = codes "SELECT who, role, since, until FROM trainings WHERE who = ?1 ORDER BY who, role, since, until" }

pub trainings_of_laws : IsLookup trainings_of trainings_place Text training_row
unfolding everything
trainings_of_laws = record {
  finds = λ who. shows trainings (is_given 1) (refl, refl, refl) refl;
  under = λ who x. value_is (Text x.who) (Text who) refl refl ∙ sym (text_ties x.who who);
}

-- its values are stored as they are
casts : (x : Training) → cast_all trainings.columns (training_row x) ≡ training_row x
casts x i = Text x.who ∷ Text (role_text x.role) ∷ cast_int (pos x.since) i ∷ cast_int (pos x.until) i ∷ []

-- the text that adds the row of a value
pub inserts : InsertsRow
    (codes "INSERT INTO trainings (who, role, since, until) VALUES (?1, ?2, ?3, ?4)") trainings_place training_row
unfolding everything
inserts = inserts_row 1 trainings casts (refl, refl, refl) refl

pub table_laws : IsTable table training_row (λ _. ⊤)
table_laws = record {
  lists = lists;
  one_value = one_value;
  keeps = λ db t k. k.trainings;
  stores = λ db t k. each_is t.rows.trainings;
  still = λ old new rows t sound keeps stored others k. still_at 1 2 old new t _
      (map training_row rows) refl refl sound keeps others k k.spot k.seats;
  stands = λ m t s. s.rows.trainings;
}

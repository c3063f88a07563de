-- Written by tools/tables.py from tools/table_list.py: do not edit.
-- What the table withdrawals proves of its texts, and of its place among the others.
use Rattle.std.proofs.Common.{◌≡◌, ℕ, pos, List, [], ◌∷◌, map, codes, true, refl, sym, ap, ◌∙◌}
use Rattle.std.specs.Bool.{⊤}
use Rattle.sqlite.specs.declared.types.Value.TheVariants.{Text}
use Rattle.kcr_history.specs.Views.{is_withdrawal_of}
use Rattle.kcr_base.specs.Role.{role_text}
use Rattle.kcr_rows.specs.Rows.{withdrawal_row}
use Rattle.kcr_people.specs.declared.Withdrawal.{Withdrawal}
use Rattle.kcr_tables.specs.{Schema.withdrawals, StoredTables.withdrawals_place}
use Rattle.kcr_tables.specs.TableTexts.{shows, is_given, inserts_row, updates_row, cast_all, cast_int, each_is}
use Rattle.kcr_tables.specs.TableTexts.{everything, number_in, one_role, still_at, text_in, text_ties, value_is}
use Rattle.kcr_tables.specs.TableTexts.{InsertsRow, IsLookup, IsTable, LookupSpec, SelectsRows, TableSpec, UpdatesRow}

abbrev pub table : TableSpec Withdrawal
table = record {
  rows_in = λ t. t.rows.withdrawals;
  place = withdrawals_place;
  is_stored = λ _. ⊤;
  with_rows = λ rows t. record t { rows = record t.rows { withdrawals = rows } };
  all_sql = codes "SELECT who, role, since, until, day FROM withdrawals ORDER BY who, role, since, until";
}

-- no two values stand for one row
pub one_value : (x y : Withdrawal) → ⊤ → ⊤ → withdrawal_row x ≡ withdrawal_row y → x ≡ y
one_value x y read held h = λ i. record {
  who = text_in 0 (h i);
  role = one_role x.role y.role (ap (text_in 1) h) i;
  since = number_in 2 (h i);
  until = number_in 3 (h i);
  day = number_in 4 (h i);
}

lists : SelectsRows table.all_sql withdrawals_place [] (λ _. true)
unfolding everything
lists = shows withdrawals [] (refl, refl, refl) refl

-- the rows of one person
abbrev pub withdrawals_of : LookupSpec (List ℕ) Withdrawal
withdrawals_of = record { is_under = λ who x. is_withdrawal_of who x; column = 0; find_sql = codes "SELECT who, role, since, until, day FROM withdrawals WHERE who = ?1 ORDER BY who, role, since, until" }

pub withdrawals_of_laws : IsLookup withdrawals_of withdrawals_place Text withdrawal_row
unfolding everything
withdrawals_of_laws = record {
  finds = λ who. shows withdrawals (is_given 1) (refl, refl, refl) refl;
  under = λ who x. value_is (Text x.who) (Text who) refl refl ∙ sym (text_ties x.who who);
}

-- its values are stored as they are
casts : (x : Withdrawal) → cast_all withdrawals.columns (withdrawal_row x) ≡ withdrawal_row x
casts x i = Text x.who ∷ Text (role_text x.role) ∷ cast_int (pos x.since) i ∷ cast_int (pos x.until) i
    ∷ cast_int (pos x.day) i ∷ []

-- the text that adds the row of a value
pub inserts : InsertsRow
    (codes "INSERT INTO withdrawals (who, role, since, until, day) VALUES (?1, ?2, ?3, ?4, ?5)") withdrawals_place withdrawal_row
unfolding everything
inserts = inserts_row 16 withdrawals casts (refl, refl, refl) refl

-- the text that puts it in the place of the row with its key
pub updates : UpdatesRow
    (codes "UPDATE withdrawals SET who = ?1, role = ?2, since = ?3, until = ?4, day = ?5 WHERE who = ?1 AND role = ?2 AND since = ?3 AND until = ?4") withdrawals_place withdrawal_row
unfolding everything
updates = updates_row 16 withdrawals casts (refl, refl, refl) refl

pub table_laws : IsTable table withdrawal_row (λ _. ⊤)
table_laws = record {
  lists = lists;
  one_value = one_value;
  keeps = λ db t k. k.withdrawals;
  stores = λ db t k. each_is t.rows.withdrawals;
  still = λ old new rows t sound keeps stored others k. still_at 16 35 old new t _
      (map withdrawal_row rows) refl refl sound keeps others k k.spot k.seats;
  stands = λ m t s. s.rows.withdrawals;
}

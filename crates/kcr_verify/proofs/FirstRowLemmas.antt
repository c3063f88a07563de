-- The first row in which two lists of rows differ, and what it says of a table.
use Rattle.kcr_verify.proofs.Common.{◌≡◌, ◌≢◌, List, Option, Some, None, map, sym, ◌∙◌, IsPermutation, IsSorted, MatchOption, IsPermutation-refl}
use Rattle.kcr_verify.proofs.Common.{IsPermutation-trans, Row, History, IsRegister, Tables, key_row, KeyRow, Kind, AreRows, TableSpec, IsTable}
use Rattle.kcr_verify.proofs.{Common.IsFirstCommand, Common.by_number, Common.RowDifference, NumberLemmas.in_number_order, OrderLemmas.one_table}
use Rattle.kcr_rows.specs.Kinds.{key_kinds}
use Rattle.kcr_rows.specs.Rows as stored
use Rattle.kcr_verify.specs.FirstRow.{DiffersAt, IsFirstRow}

-- what the comparison of two lists says of a table
pub compared_rows : {X : Type 0} (table : TableSpec X) (kinds : List Kind) (row_of : X → Row) (is_read : X → Type 0) → IsTable table row_of is_read → (m : Tables)
    (own rows : List X) → AreRows table.rows_in m own → (found : Option RowDifference)
    → MatchOption found (own ≡ rows) (λ row. (own ≢ rows) × DiffersAt kinds row_of own rows row)
    → MatchOption found (AreRows table.rows_in m rows) (λ row. (¬ AreRows table.rows_in m rows) × IsFirstRow table.rows_in kinds row_of m rows row)
compared_rows table kinds row_of is_read laws m own rows are None same = rw (← same) are
compared_rows table kinds row_of is_read laws m own rows are (Some row) differs = (
  λ these. differs.0 (sym (one_table table row_of is_read laws m own rows are these)),
  record { own = own; are = are; differs = differs.1 },
)

-- and of accepted commands, both in the order of their numbers, in which the machine's stand in one order alone
pub compared_commands : (A : History) (read own rows : List KeyRow) → IsRegister A → IsPermutation (map key_row A) read → IsPermutation read own
    → IsSorted by_number own → IsSorted by_number rows → (found : Option RowDifference)
    → MatchOption found (own ≡ rows) (λ row. (own ≢ rows) × DiffersAt key_kinds stored.key_row own rows row)
    → MatchOption found (IsPermutation (map key_row A) rows)
    (λ row. (¬ IsPermutation (map key_row A) rows) × IsFirstCommand (map key_row A) rows row)
compared_commands A read own rows h same put up order None is = rw (← is) (IsPermutation-trans _ _ _ same put)
compared_commands A read own rows h same put up order (Some row) differs = (
  λ these. differs.0 (in_number_order A read own h same put up ∙ sym (in_number_order A rows rows h these (IsPermutation-refl rows) order)),
  record {
    own_sorted = own;
    sorted = rows;
    own_order = record { same = IsPermutation-trans _ _ _ same put; order = up };
    order = record { same = IsPermutation-refl rows; order = order };
    differs = differs.1;
  },
)

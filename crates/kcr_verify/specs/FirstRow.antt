-- The first row in which the rows of a table differ from the machine's.
use Rattle.std.specs.Prelude.{◌≡◌, ◌≢◌, ℕ, List, Option, take, option_map}
use Rattle.std.specs.List.{slice_get}
use Rattle.sqlite.specs.Order.{Row}
use Rattle.kcr_history.specs.Tables.{Tables}
use Rattle.kcr_rows.specs.declared.kinds.Kind.{Kind}
use Rattle.kcr_store.specs.FullView.{AreRows}
use Rattle.kcr_tables.specs.StoredTables.{StoredTables}
use Rattle.kcr_verify.specs.{Quoted.row_text, declared.compare.RowDifference.RowDifference}

-- before this position the rows are the same, and there they are not; one of them may have no more rows
pub record IsFirstOtherRow {X : Type 0} (own rows : List X) (position : ℕ) : Type 0 where
  pub before : take position own ≡ take position rows
  pub other : slice_get own position ≢ slice_get rows position

-- the text of the row at this position, where there is one
abbrev pub text_at : {X : Type 0} → List Kind → (X → Row) → List X → ℕ → Option (List ℕ)
text_at kinds row_of rows position = option_map (λ row. row_text kinds (row_of row)) (slice_get rows position)

-- the rows that are expected and those that are found differ there first, and these are the texts of both rows
pub record DiffersAt {X : Type 0} (kinds : List Kind) (row_of : X → Row) (own rows : List X) (row : RowDifference)
    : Type 0 where
  pub first : IsFirstOtherRow own rows row.position
  pub expected : row.expected ≡ text_at kinds row_of own row.position
  pub found : row.found ≡ text_at kinds row_of rows row.position

-- so it is with the machine's rows of a table and these
pub record IsFirstRow {X : Type 0} (rows_in : StoredTables → List X) (kinds : List Kind) (row_of : X → Row)
    (m : Tables) (rows : List X) (row : RowDifference) : Type 0 where
  pub own : List X
  pub are : AreRows rows_in m own
  pub differs : DiffersAt kinds row_of own rows row

-- What a table is, and what a table proves of it and of its texts.
use Rattle.std.specs.Prelude.{◌≡◌, ◌≢◌, ℕ, Bool, true, List, [], ◌∷◌, map, IsPermutation}
use Rattle.std.specs.List.{AllByRecursion}
use Rattle.sqlite.specs.{declared.types.Value.Value, Edit.IsNoIndex, Order.Row, Tree.Trees}
use Rattle.sqlite_catalog.specs.Listing.{IsSound}
use Rattle.kcr_history.specs.Tables as machine
use Rattle.kcr_rows.specs.Keyed.{TableLayout, TreeHolds, put_in}
use Rattle.kcr_rows.proofs.FilterLemmas.{has_value}
use Rattle.kcr_tables.specs.{NewTables.as_held, MachineTables.SameRows, Schema.register_schema, Statements.SelectsRows}
use Rattle.kcr_tables.specs.StoredTables.{StoredTables, TreesHold}

-- a table, by the values that its rows stand for
pub record TableSpec (X : Type 0) : Type 1 where
  -- its rows among those of all tables
  pub rows_in : StoredTables → List X
  -- where it lies
  pub place : TableLayout
  -- what is known of a value that was put, beside its row
  pub is_stored : X → Type 0
  -- the tables with these rows in the place of its own
  pub with_rows : List X → StoredTables → StoredTables
  -- the text that shows all rows, in the order of their keys
  pub all_sql : List ℕ

-- its rows among those of the machine
abbrev pub machine_rows : {X : Type 0} → TableSpec X → machine.Tables → List X
machine_rows table m = table.rows_in (as_held m)

-- the tables after the row of a value was put under its key
abbrev pub with_put : {X : Type 0} → TableSpec X → (X → Row) → X → StoredTables → StoredTables
with_put table row_of x t = table.with_rows (put_in table.place.keys row_of x (table.rows_in t)) t

-- what holds of a table
pub record IsTable {X : Type 0} (table : TableSpec X) (row_of : X → Row) (is_read : X → Type 0) : Type 0 where
  -- the text shows every row
  pub lists : SelectsRows table.all_sql table.place [] (λ _. true)
  -- a value that was read is the one that was put
  pub one_value : (x y : X) → is_read x → table.is_stored y → row_of x ≡ row_of y → x ≡ y
  -- if the tables are kept, the rows are kept in their place
  pub keeps : (db : Trees) (t : StoredTables) → TreesHold db t → TreeHolds table.place db (map row_of (table.rows_in t))
  -- what is known of each value that was put
  pub stores : (db : Trees) (t : StoredTables) → TreesHold db t → AllByRecursion table.is_stored (table.rows_in t)
  -- if the rows change, the other tables stay
  pub still : (old new : Trees) (rows : List X) (t : StoredTables) → IsSound register_schema new
      → TreeHolds table.place new (map row_of rows) → AllByRecursion table.is_stored rows
      → ((tree : ℕ) → tree ≢ table.place.tree → IsNoIndex register_schema tree → new tree ≡ old tree)
      → TreesHold old t → TreesHold new (table.with_rows rows t)
  -- the rows are the machine's, in another order
  pub stands : (m : machine.Tables) (t : StoredTables) → SameRows m t → IsPermutation (machine_rows table m) (table.rows_in t)

-- how the rows of a table with a value in a column are found
pub record LookupSpec (K X : Type 0) : Type 0 where
  -- whether a row has the value
  pub is_under : K → X → Bool
  -- the column, counted from 0
  pub column : ℕ
  -- the text that shows the rows with a value, in the order of their keys
  pub find_sql : List ℕ

-- what holds of it
pub record IsLookup {K X : Type 0} (finding : LookupSpec K X) (place : TableLayout) (value_of : K → Value) (row_of : X → Row)
    : Type 0 where
  -- the text shows the rows with the value in the column
  pub finds : (key : K)
      → SelectsRows finding.find_sql place (value_of key ∷ []) (has_value finding.column (value_of key))
  -- these are the rows under the key
  pub under : (key : K) (x : X) → has_value finding.column (value_of key) (row_of x) ≡ finding.is_under key x

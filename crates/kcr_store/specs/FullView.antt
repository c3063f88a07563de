-- All rows of a database, and what an audit of them finds.
use Rattle.std.specs.Prelude.{◌≡◌, List, Option, IsPermutation}
use Rattle.sqlite.specs.Tree.{Trees}
use Rattle.kcr_audit.specs.Views.{tables_of}
use Rattle.kcr_history.specs.{Audit.IsAudit, Tables.Tables, Tables.SameTables, declared.views.Finding.Finding, declared.views.FullView.FullView}
use Rattle.kcr_tables.specs.NewTables.{as_held}
use Rattle.kcr_tables.specs.StoredTables as held

-- the view has the rows of each table, in the order of their keys
abbrev pub Lists : held.StoredTables → FullView → Type 0
Lists t view = tables_of view ≡ t.rows

-- the view has the machine's rows, each table's in the order of their keys
pub record IsListed (m : Tables) (view : FullView) : Type 0 where
  pub same : SameTables m (tables_of view)
  pub db : Trees
  pub t : held.StoredTables
  pub kept : held.TreesHold db t
  pub lists : Lists t view

-- these are the machine's rows of one table, in the order in which a database keeps them; `rows_in` picks its rows
pub record AreRows {X : Type 0} (rows_in : held.StoredTables → List X) (m : Tables) (rows : List X) : Type 0 where
  pub same : IsPermutation (rows_in (as_held m)) rows
  pub db : Trees
  pub t : held.StoredTables
  pub kept : held.TreesHold db t
  pub lists : rows ≡ rows_in t

-- what an audit of these tables finds, whatever the order of their rows
abbrev pub FindsIn : Tables → Option Finding → Type 0
FindsIn m found = (view : FullView) × SameTables m (tables_of view) × IsAudit view found

-- What a text shows of a table, and what a call that runs it says.
use Rattle.std.specs.Prelude.{◌≡◌, ℕ, pos, Bool, true, List, [], ◌∷◌, map, filter, IsPermutation, Result, Vec}
use Rattle.std.specs.Global.{Global}
use Rattle.sqlite.specs.declared.{types.Value.TheVariants.Int, transaction.Transaction.Transaction}
use Rattle.sqlite.specs.{Collation.TheVariants.Binary, Order.Row, Order.column, Query.key_cmp, Command.TheVariants.Select, Store.Ghosts, Term.Term}
use Rattle.sqlite_resolve.specs.Compile.{compiled}
use Rattle.kcr_rows.specs.{Texts.Means, Frame.ImpliesOpen, Greatest.IsGreatest, Keyed.TableLayout}
use Rattle.kcr_base.specs.declared.refusal.Refusal.{Refusal}
use Rattle.kcr_rows.proofs.GreatestLemmas.{greatest}
use Rattle.kcr_tables.specs.{Exact.rows_at, Exact.IsOneOf, Unordered.SelectsUnordered}
use Rattle.kcr_tables.specs.{Frame.OfTables, Frame.OfTrees, Frame.Reads, Schema.register_schema, Table.TableSpec}
use Rattle.kcr_tables.specs.Statements.{Choice, SelectsRows, showing, wanted_showing}

-- which of the rows that pass a test are shown: all in the order of their keys, all in an order that is not told, or
-- one with the greatest number
pub data Which (X : Type 0) : Type 0 where
  Ordered : Which X
  Unordered : Which X
  Last : (X → ℕ) → Which X

-- the values that are shown, and their rows
abbrev pub Shows : {X : Type 0} → Which X → List X → List X → Type 0
Shows Ordered all shown = shown ≡ all
Shows Unordered all shown = IsPermutation all shown
Shows (Last number) all shown = IsGreatest number all shown

abbrev pub ShowsRows : {X : Type 0} → Which X → List Row → List Row → Type 0
ShowsRows Ordered all shown = IsPermutation all shown
ShowsRows Unordered all shown = IsPermutation all shown
ShowsRows (Last number) all shown = IsOneOf all shown

-- the rows that pass, the greatest number in this column first
abbrev by_number : ℕ → (Row → Bool) → Choice
by_number at passes = record {
  passes = passes;
  rank = λ row. column row at ∷ [];
  compare = λ a b. key_cmp 0 (record { collation = Binary; descending = true } ∷ []) (column a at ∷ []) (column b at ∷ []);
}

-- the text shows, of the rows of a table that pass, one with the greatest number in a column, counted from 0
pub record SelectsLast (sql : List ℕ) (place : TableLayout) (params : Row) (passes : Row → Bool) (at : ℕ) : Type 0 where
  pub test : List Term
  pub project : List Term
  pub names : List (List ℕ)
  pub means : Means (Select (record { lets = []; body = greatest place test project at }) names)
      (compiled register_schema sql)
  pub is : showing place params (by_number at passes) test (greatest place test project at)
      ≡ wanted_showing place (by_number at passes)

-- the text shows which of the rows that pass; if not all in the order of their keys, each value has a row of its own
abbrev pub SelectsWhich : {X : Type 0} → (X → Row) → Which X → List ℕ → TableLayout → Row → (Row → Bool) → Type 0
SelectsWhich row_of Ordered sql place params passes = SelectsRows sql place params passes
SelectsWhich {X = X} row_of Unordered sql place params passes =
    ((x y : X) → row_of x ≡ row_of y → x ≡ y) × SelectsUnordered sql place params passes
SelectsWhich {X = X} row_of (Last number) sql place params passes =
    ((x y : X) → row_of x ≡ row_of y → x ≡ y)
    × ((at : ℕ) × SelectsLast sql place params passes at × ((x : X) → column (row_of x) at ≡ Int (pos (number x))))

-- a text about a table
pub record Query {X : Type 0} (table : TableSpec X) (row_of : X → Row) : Type 0 where
  pub sql : List ℕ
  pub params : Row
  -- which of the rows that pass it shows; whether the row of a value passes, and whether a row does, whatever it has
  pub which : Which X
  pub test : X → Bool
  pub passes : Row → Bool
  pub same : (x : X) → passes (row_of x) ≡ test x
  pub selects : SelectsWhich row_of which sql table.place params passes

-- a call tells which rows of a table are shown: of the values that pass the test, and of the rows, whatever these are
pub record Tells {S X : Type 0} (g : Ghosts S) (old new : Transaction S) (result : Result (Vec X Global) Refusal)
    (table : TableSpec X) (row_of : X → Row) (which : Which X) (test : X → Bool) (passes : Row → Bool) : Type 0 where
  pub rows : OfTables g old new result (λ t all. Shows which (filter test (table.rows_in t)) all.items)
  pub exact : OfTrees g old new result
      (λ db all. ShowsRows which (filter passes (rows_at table.place db)) (map row_of all.items))
  pub opened : ImpliesOpen g old new result
  pub frame : Reads g old new result

-- What a table proves of its SQL texts, on which the general calls stand.
use Rattle.std.specs.Prelude.{◌≡◌, ◌&&◌, not, ℕ, ℤ, pos, negsuc, suc, ◌/◌, ◌^◌, nat_le, Bool, true, false}
use Rattle.std.specs.Prelude.{List, [], ◌∷◌, ◌++◌, map, take, length, slice_get, Option, Some}
use Rattle.std.specs.{List.list_all, List.range_with_len, declared.cmp.Ordering.Ordering}
use Rattle.sqlite.specs.declared.types.Value.TheVariants.{Null, Int}
use Rattle.sqlite.specs.{Order.Row, Tree.rowid, Effect.value_rows, Cast.cast_all, Cast.cast_row}
use Rattle.sqlite.specs.Term.{Term, lit, col, op2, holds, eval_all}
use Rattle.sqlite.specs.Query.{Query, Output, key_cmp, output, output_cmp}
use Rattle.sqlite.specs.{Collation.TheVariants.Binary, Source.TheVariants.Values}
use Rattle.sqlite.specs.Command.TheVariants.{Insert, Select, Update}
use Rattle.sqlite_schema.specs.{Rules.guards, Rules.clashes, declared.schema.Keys.TheVariants.Enforced, declared.schema.Table.Table}
use Rattle.sqlite_sql.specs.declared.ops.{BinaryOp.TheVariants.Compare, CompareOp.TheVariants.Eq}
use Rattle.sqlite_value.specs.{declared.keys.Key.Key, Keys.plain, Keys.rising, Keys.ascending}
use Rattle.sqlite_trees.specs.View.{is_int}
use Rattle.sqlite_resolve.specs.Compile.{compiled}
use Rattle.sqlite_rules.specs.Action.{Work, works}
use Rattle.kcr_rows.specs.{Columns.simple_as, Texts.Means}
use Rattle.kcr_rows.specs.Keyed.{TableLayout, cells, by_key, is_full}
use Rattle.kcr_rows.proofs.{ReadLemmas.asking, OverLemmas.finding, WriteLemmas.entered, KeyLemmas.places_from, KeyLemmas.full, KeyLemmas.same_from}
use Rattle.kcr_tables.specs.Schema.{register_schema}

-- ---- texts that show rows of a table

-- the columns that are shown
abbrev pub shown_columns : TableLayout → List Term
shown_columns place = map (col 1) place.at

-- the order of the keys
abbrev pub key_order : TableLayout → List (Term × Key)
key_order place = map (λ at. (col 1 at, ascending Binary)) (take place.keys place.at)

-- the rows with the value of the parameter in this column
abbrev pub is_given : ℕ → List Term
is_given at = op2 (Compare Eq Binary) (col 1 at) (col 0 0) ∷ []

-- which rows pass, by which values they are sorted, and which of two comes first
pub record Choice : Type 0 where
  pub passes : Row → Bool
  pub rank : Row → Row
  pub compare : Row → Row → Ordering

-- what is computed of a query
pub record Showing : Type 0 where
  pub is_far : Bool
  pub passes : Row → Bool
  pub shows : Row → Output
  pub compares : Row → Row → Ordering

-- of this one
abbrev pub showing : TableLayout → Row → Choice → List Term → Query → Showing
showing place params choice test query = record {
  is_far = nat_le (2 ^ 31) place.tree;
  passes = λ r. list_all (holds (params ∷ r ∷ [])) test;
  shows = λ r. output query (params ∷ r ∷ []);
  compares = λ a b. output_cmp query (choice.rank a, a) (choice.rank b, b);
}

-- of one that chooses so
abbrev pub wanted_showing : TableLayout → Choice → Showing
wanted_showing place choice = record {
  is_far = false;
  passes = λ r. choice.passes (cells place r);
  shows = λ r. (choice.rank (cells place r), cells place r);
  compares = choice.compare;
}

-- The text shows, with these parameters, of the rows of a table that pass at most N, or all if the limit is
-- negative, in their order.
pub record Selects (sql : List ℕ) (place : TableLayout) (params : Row) (choice : Choice) (limit : ℤ) : Type 0 where
  pub test : List Term
  pub project : List Term
  pub order : List (Term × Key)
  pub names : List (List ℕ)
  pub means : Means (Select (record { lets = []; body = asking place.tree test project order limit }) names)
      (compiled register_schema sql)
  pub is : showing place params choice test (asking place.tree test project order limit)
      ≡ wanted_showing place choice

-- The text shows all rows that pass, in the order of their keys.
abbrev pub SelectsRows : List ℕ → TableLayout → Row → (Row → Bool) → Type 0
SelectsRows sql place params passes =
    Selects sql place params (record { passes = passes; rank = take place.keys; compare = by_key place.keys }) (negsuc 0)

-- ---- texts that put a row into a table

-- what a new row is made of, and what an update makes of one, by how many columns there are
abbrev pub new_terms : ℕ → List Term
new_terms count = lit Null ∷ map (col 0) (range_with_len 0 count)

abbrev pub update_terms : ℕ → List Term
update_terms count = col 1 0 ∷ col 1 0 ∷ map (col 0) (range_with_len 0 count)

-- what is computed of a table whose rows are changed
pub record Writing (X : Type 0) : Type 0 where
  -- the table, what is asked of others if its rows change, and which rows have one key
  pub here : Option Table
  pub alone : List Row → List Row → List Work
  pub compares : Row → Row → Ordering
  pub fulls : Row → Bool
  -- whether the row of a value has a whole key
  pub filled : X → Bool

-- of these
abbrev pub writing : {X : Type 0} → TableLayout → (X → Row) → ℕ → Writing X
writing place row_of at = record {
  here = slice_get register_schema.tables at;
  alone = works register_schema Enforced 0 place.tree;
  compares = λ a b. by_key place.keys (cells place a) (cells place b);
  fulls = λ a. is_full place.keys (cells place a);
  filled = λ x. is_full place.keys (row_of x);
}

-- of a table that stands alone
abbrev pub writing_to : {X : Type 0} → TableLayout → Table → Writing X
writing_to place table = record {
  here = Some table;
  alone = λ olds news. [];
  compares = key_cmp 1 (rising place.keys []);
  fulls = full 1 place.keys;
  filled = λ x. true;
}

-- what is computed of one that gives it a row
pub record Giving (X : Type 0) : Type 0 where
  pub writing : Writing X
  -- the rows that it gives
  pub given : X → List Row

-- of these
abbrev pub giving : {X : Type 0} → TableLayout → (X → Row) → ℕ → List Term → Giving X
giving place row_of at terms =
    let width = suc (length place.at) in record {
      writing = writing place row_of at;
      given = λ x. value_rows (row_of x ++ []) width (length terms / width) terms;
    }

-- of a command that gives one row, which is made of the terms
abbrev pub giving_one : {X : Type 0} → TableLayout → Table → (X → Row) → Giving X
giving_one place table given = record {
  writing = writing_to place table;
  given = λ x. given x ∷ [];
}

-- what is computed of a text that adds the row to those that are there
pub record Inserting (X : Type 0) : Type 0 where
  pub giving : Giving X
  -- the row of a value as it is stored beside some entries: whether it has a number for its row id, and what it shows
  pub numbered : X → List Row → Bool
  pub shown : X → List Row → Row
  -- whether a row agrees with no other one if no two rows may agree
  pub guarded : List Row → Row → Bool

-- of these
abbrev pub inserting : {X : Type 0} → TableLayout → (X → Row) → ℕ → Table → List Term → (X → Row) → Inserting X
inserting place row_of at table terms given = record {
  giving = giving place row_of at terms;
  numbered = λ x entries. is_int (rowid (entered entries (given x)));
  shown = λ x entries. cells place (entered entries (given x));
  guarded = λ rows row.
      list_all (λ i. not (guards i table && clashes i.order i.columns rows row)) register_schema.indexes;
}

-- of one whose key no row has before, in a table with other keys as well, by the columns of each
abbrev pub inserting_new : {X : Type 0} → TableLayout → (X → Row) → Table → (X → Row) → List (List ℕ) → Inserting X
inserting_new place row_of table given others = record {
  giving = giving_one place table given;
  numbered = λ x entries. true;
  shown = λ x entries. row_of x;
  guarded = λ rows row. not (clashes plain (places_from 1 place.keys) rows row)
      && list_all (λ columns. not (clashes plain columns rows row)) others;
}

-- The text adds the row of a value to a table, which it gives with its row id or with NULL in place of one; if a row
-- has its key, or agrees with it in one of the table's other keys, it fails.
pub record InsertsRow {X : Type 0} (sql : List ℕ) (place : TableLayout) (row_of : X → Row) : Type 0 where
  pub at : ℕ
  pub table : Table
  pub terms : List Term
  pub given : X → Row
  pub others : List (List ℕ)
  pub casts : (x : X) → cast_row (simple_as place.tree table) (given x) ≡ given x
  pub means : Means (Insert at (Values terms (suc (length place.at)))) (compiled register_schema sql)
  pub is : inserting place row_of at (simple_as place.tree table) terms given
      ≡ inserting_new place row_of (simple_as place.tree table) given others

-- ---- texts that change a row that is there

-- the row that has the first parameters for its key, by how many these are
abbrev pub key_test : ℕ → List Term
key_test keys = map (λ at. op2 (Compare Eq Binary) (col 1 (suc at)) (col 0 at)) (range_with_len 0 keys)

-- what is computed of a text that changes the row that has the key of a value
pub record Updating (X : Type 0) : Type 0 where
  pub writing : Writing X
  -- the row of a value under a row id
  pub shown : X → ℤ → Row
  -- which row is found, and what is made of it
  pub is_far : Bool
  pub tests : X → Row → Bool
  pub gives : X → Row → Row

-- of these
abbrev pub updating : {X : Type 0} → TableLayout → (X → Row) → ℕ → List Term → List Term → Updating X
updating place row_of at test sets = record {
  writing = writing place row_of at;
  shown = λ x id. cells place (Int id ∷ row_of x);
  is_far = nat_le (2 ^ 31) place.tree;
  tests = λ x r. list_all (holds (row_of x ∷ r ∷ [])) test;
  gives = λ x r. eval_all sets (row_of x ∷ r ∷ []);
}

-- of one that finds it by its key alone, and gives it the row of the value
abbrev pub updating_by_key : {X : Type 0} → TableLayout → (X → Row) → Table → Updating X
updating_by_key place row_of table = record {
  writing = writing_to place table;
  shown = λ x id. row_of x;
  is_far = false;
  tests = λ x r. same_from 1 place.keys r (Int (pos 0) ∷ row_of x);
  gives = λ x r. rowid r ∷ rowid r ∷ row_of x;
}

-- The text puts the row of a value in the place of the one that has its key; if there is none it changes nothing.
pub record UpdatesRow {X : Type 0} (sql : List ℕ) (place : TableLayout) (row_of : X → Row) : Type 0 where
  pub at : ℕ
  pub table : Table
  pub test : List Term
  pub sets : List Term
  pub casts : (x : X) → cast_all table.columns (row_of x) ≡ row_of x
  pub means : Means (Update at (record { lets = []; body = finding place.tree test sets })) (compiled register_schema sql)
  pub is : updating place row_of at test sets ≡ updating_by_key place row_of (simple_as place.tree table)

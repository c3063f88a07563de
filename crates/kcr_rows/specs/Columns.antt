-- Tables whose rows stand under a key, and their columns.
use Rattle.sqlite.specs.{Collation.TheVariants.Binary, declared.types.Value.TheVariants.Null}
use Rattle.std.specs.Prelude.{◌≡◌, true, false, Bool, [], ◌∷◌, Option, None, Some, List, ℕ, ◌+◌, map, flat_map}
use Rattle.std.specs.List.{AllByRecursion}
use Rattle.sqlite.specs.{Tree.Trees, Table.Table, Schema.Schema, Kind.Kind, Kind.TheVariants.Integer, Kind.TheVariants.Text}
use Rattle.sqlite_schema.specs.declared.schema.{Column.Column, Index.Index}
use Rattle.sqlite_catalog.specs.Listing.{automatic}

abbrev pub column_of : Kind → Bool → List ℕ → Column
column_of kind not_null name =
    record { name = name; kind = kind; is_strict = true; not_null = not_null; default = Null; collation = Binary }

-- texts, and numbers
abbrev pub words : List ℕ → Column
words = column_of Text true

abbrev pub number : List ℕ → Column
number = column_of Integer true

-- the same, or NULL
abbrev pub words_or_null : List ℕ → Column
words_or_null = column_of Text false

abbrev pub number_or_null : List ℕ → Column
number_or_null = column_of Integer false

-- a table in this tree: which column is the row id, counted from 0, if one is; the places of its primary key; and the
-- lists of places on which no two rows agree
abbrev pub simple : List ℕ → ℕ → List Column → Option ℕ → List ℕ → List (List ℕ) → Table
simple name tree columns alias primary uniques = record {
  name = name;
  tree = tree;
  columns = columns;
  key = alias;
  primary = primary;
  uniques = uniques;
  orders = map (λ _. record { digits = 0 }) uniques;
  checks = [];
  references = [];
  computed = [];
  stamps = record { places = []; terms = []; formats = [] };
  is_counted = false;
}

-- one in this tree that has the columns and the keys of a table, and nothing else
abbrev pub simple_as : ℕ → Table → Table
simple_as tree like = simple like.name tree like.columns like.key like.primary like.uniques

-- a table whose key is these places; no two rows agree on the places of one of the others
abbrev pub keyed : List ℕ → ℕ → List Column → List ℕ → List (List ℕ) → Table
keyed name tree columns places others = simple name tree columns None places (places ∷ others)

-- a table whose primary key is the row id, a column of its own; no two rows agree on the places of one of the others
abbrev pub aliased : List ℕ → ℕ → List Column → ℕ → List (List ℕ) → Table
aliased name tree columns alias others = simple name tree columns (Some alias) (0 ∷ []) others

abbrev pub indexes_from : Table → ℕ → List (List ℕ) → List Index
indexes_from table at [] = []
indexes_from table at (places ∷ more) =
    automatic table at places (table.tree + 1 + at) ∷ indexes_from table (at + 1) more

-- the indexes of a table, in the trees behind its own
abbrev pub indexes_for : Table → List Index
indexes_for table = indexes_from table 0 table.uniques

-- the schema of these tables and their indexes
abbrev pub schema_of : List Table → Schema
schema_of tables = record { tables = tables; indexes = flat_map indexes_for tables; views = [] }

-- the trees of these tables have no entries
abbrev pub AreEmpty : List Table → Trees → Type 0
AreEmpty tables db = AllByRecursion (λ t. db t.tree ≡ []) tables

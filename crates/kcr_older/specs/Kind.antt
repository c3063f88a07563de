-- What a database is, told by its schema and by the number in its table `versions`.
use Rattle.std.specs.Prelude.{◌≡◌, ◌≢◌, ◌⊎◌, List, ℕ, ◌+◌, ℤ, pos, Bool, false, [], ◌∷◌, map, codes}
use Rattle.std.specs.Prelude.{if◌then◌else◌, Option, Some, None, is_some, option_and_then, slice_get, IsTrue}
use Rattle.std.specs.Str.{bytes_eq}
use Rattle.sqlite.specs.{Effect.Database, Table.Table, Tree.Trees, Order.column, Schema.Schema}
use Rattle.sqlite.specs.declared.types.Value.{Value, TheVariants.Int}
use Rattle.sqlite_schema.specs.{Names.table_named, Names.place_of, declared.schema.Column.Column}
use Rattle.kcr_tables.specs.Creation.{schema_prefix}
use Rattle.kcr_older.specs.declared.kind.DatabaseKind.{DatabaseKind}
use Rattle.kcr_older.specs.declared.kind.DatabaseKind.TheVariants.{Empty, Current, Version2, Version1, Versioned, Foreign}

-- ---- the number of a database

-- one column, `number`
abbrev pub is_number : List Column → Bool
is_number (column ∷ []) = bytes_eq column.name (codes "number")
is_number _ = false

abbrev pub if_number : Table → Option Table
if_number table = if is_number table.columns then Some table else None

-- the table `versions`, if that is its one column
abbrev pub numbered_table : Schema → Option Table
numbered_table schema =
    option_and_then if_number (option_and_then (slice_get schema.tables) (table_named schema (codes "versions")))

-- what its rows have in that column
abbrev pub numbers_in : Table → Trees → List Value
numbers_in table db = map (λ row. column row (place_of table 0)) (db table.tree)

abbrev pub whole_number : Value → Option ℤ
whole_number (Int n) = Some n
whole_number _ = None

-- that of the one row
abbrev pub only_number : List Value → Option ℤ
only_number [] = None
only_number (value ∷ []) = whole_number value
only_number (value ∷ next ∷ more) = None

-- the number in the one row of the table `versions` of the one column `number`, if there is such a table, it has
-- exactly one row, and that is a whole number
abbrev pub version_in : Database → Option ℤ
version_in db = option_and_then (λ table. only_number (numbers_in table db.trees)) (numbered_table db.schema)

-- ---- what it is

-- the schema of an empty database
abbrev pub no_schema : Schema
no_schema = record { tables = []; indexes = []; views = [] }

-- it has the schema of a register of this version, as a whole, and its number
abbrev pub IsOfVersion : ℕ → Database → Type 0
IsOfVersion version db = (db.schema ≡ schema_prefix (14 + version)) × (version_in db ≡ Some (pos version))

-- it is empty, or a register's by its schema and its number
abbrev pub IsTaken : Database → Type 0
IsTaken db = (db.schema ≡ no_schema) ⊎ (IsOfVersion 1 db ⊎ (IsOfVersion 2 db ⊎ IsOfVersion 3 db))

-- the number is that of none of these versions
abbrev pub IsOtherNumber : Option ℤ → Type 0
IsOtherNumber number = (n : ℤ) × (number ≡ Some n) × (n ≢ pos 1) × (n ≢ pos 2) × (n ≢ pos 3)

-- it has the number of another version, whatever else it has
abbrev pub IsOfOtherVersion : Database → Type 0
IsOfOtherVersion db = IsOtherNumber (version_in db)

-- it is none of these
abbrev pub IsForeign : Database → Type 0
IsForeign db = ¬ IsTaken db × ¬ IsOfOtherVersion db

-- ---- what is told by the schema alone

-- it has something, and that is the schema of no version
pub record IsForeignSchema (schema : Schema) : Type 0 where
  pub something : schema ≢ no_schema
  pub third : schema ≢ schema_prefix 17
  pub second : schema ≢ schema_prefix 16
  pub first : schema ≢ schema_prefix 15

-- what each standing says of the schema
abbrev pub IsOfKind : Schema → DatabaseKind → Type 0
IsOfKind schema Empty = schema ≡ no_schema
IsOfKind schema Current = schema ≡ schema_prefix 17
IsOfKind schema Version2 = schema ≡ schema_prefix 16
IsOfKind schema Version1 = schema ≡ schema_prefix 15
IsOfKind schema Versioned = IsForeignSchema schema × IsTrue (is_some (numbered_table schema))
IsOfKind schema Foreign = IsForeignSchema schema × (is_some (numbered_table schema) ≡ false)

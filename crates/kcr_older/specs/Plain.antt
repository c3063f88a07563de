-- Tables that have nothing but columns and keys.
use Rattle.std.specs.Prelude.{◌≡◌, []}
use Rattle.std.specs.List.{AllByRecursion}
use Rattle.sqlite.specs.{Table.Table, declared.types.Value.TheVariants.Null}
use Rattle.sqlite_schema.specs.declared.schema.Column.{Column}

-- a column with no default but NULL
abbrev pub IsPlainColumn : Column → Type 0
IsPlainColumn column = column.default ≡ Null

-- it has no checks, references and computed defaults
pub record IsBare (table : Table) : Type 0 where
  pub checks : table.checks ≡ []
  pub references : table.references ≡ []
  pub computed : table.computed ≡ []
  pub stamps : table.stamps ≡ record { places = []; terms = []; formats = [] }

-- the keys of two tables are the same
pub record HasSameKeys (table other : Table) : Type 0 where
  pub key : table.key ≡ other.key
  pub primary : table.primary ≡ other.primary
  pub uniques : table.uniques ≡ other.uniques
  pub orders : table.orders ≡ other.orders
  pub counted : table.is_counted ≡ other.is_counted

-- a table with nothing but keys and columns that have no default
pub record IsPlain (table : Table) : Type 0 where
  pub columns : AllByRecursion IsPlainColumn table.columns
  pub bare : IsBare table

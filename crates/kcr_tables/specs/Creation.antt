-- Written by tools/tables.py from tools/table_list.py: do not edit.
-- How an empty database becomes one of a register.
use Rattle.std.specs.Prelude.{◌≡◌, ℕ, List, [], ◌∷◌, take, codes, slice_index_or}
use Rattle.sqlite.specs.{Effect.Database, Schema.Schema}
use Rattle.kcr_rows.specs.Columns.{AreEmpty, schema_of}
use Rattle.kcr_tables.specs.Schema.{all_tables}

-- the texts that make the tables, in their order
abbrev pub texts : List (List ℕ)
texts =
    codes "CREATE TABLE people (who TEXT NOT NULL, name TEXT NOT NULL, PRIMARY KEY (who)) STRICT"
    ∷ codes "CREATE TABLE trainings (who TEXT NOT NULL, role TEXT NOT NULL, since INT NOT NULL, until INT NOT NULL, PRIMARY KEY (who, role, since, until)) STRICT"
    ∷ codes "CREATE TABLE appointments (place TEXT NOT NULL, since INT NOT NULL, who TEXT NOT NULL, until INT, PRIMARY KEY (place, since), UNIQUE (who, since, place)) STRICT"
    ∷ codes "CREATE TABLE boxes (facility TEXT NOT NULL, box INT NOT NULL, place TEXT NOT NULL, PRIMARY KEY (facility, box)) STRICT"
    ∷ codes "CREATE TABLE safes (facility TEXT NOT NULL, safe INT NOT NULL, state INT NOT NULL, PRIMARY KEY (facility, safe)) STRICT"
    ∷ codes "CREATE TABLE bags (serial TEXT NOT NULL, spot TEXT NOT NULL, PRIMARY KEY (serial)) STRICT"
    ∷ codes "CREATE TABLE items (code TEXT NOT NULL, facility TEXT, serial TEXT, PRIMARY KEY (code), UNIQUE (serial, code)) STRICT"
    ∷ codes "CREATE TABLE ceremonies (number INT NOT NULL, facility TEXT NOT NULL, day INT NOT NULL, state INT NOT NULL, opened INT, closed INT, PRIMARY KEY (number)) STRICT"
    ∷ codes "CREATE TABLE marks (ceremony INT NOT NULL, at INT NOT NULL, PRIMARY KEY (ceremony)) STRICT"
    ∷ codes "CREATE TABLE steps (ceremony INT NOT NULL, step INT NOT NULL, activity TEXT NOT NULL, seats TEXT NOT NULL, state INT NOT NULL, at INT, PRIMARY KEY (ceremony, step)) STRICT"
    ∷ codes "CREATE TABLE seatings (ceremony INT NOT NULL, step INT NOT NULL, seat INT NOT NULL, who TEXT NOT NULL, PRIMARY KEY (ceremony, step, seat)) STRICT"
    ∷ codes "CREATE TABLE sheet (who TEXT NOT NULL, at INT NOT NULL, ceremony INT NOT NULL, way INT NOT NULL, PRIMARY KEY (who, at)) STRICT"
    ∷ codes "CREATE TABLE exceptions (ceremony INT NOT NULL, exception INT NOT NULL, text TEXT NOT NULL, at INT NOT NULL, passed INT, PRIMARY KEY (ceremony, exception)) STRICT"
    ∷ codes "CREATE TABLE versions (number INT NOT NULL, PRIMARY KEY (number)) STRICT"
    ∷ codes "CREATE TABLE keys (\"key\" TEXT NOT NULL UNIQUE, accepted INTEGER PRIMARY KEY, command TEXT NOT NULL, reply TEXT NOT NULL) STRICT"
    ∷ codes "CREATE TABLE stays (who TEXT NOT NULL, since INT NOT NULL, ceremony INT NOT NULL, until INT, PRIMARY KEY (who, since), UNIQUE (ceremony, since, who)) STRICT"
    ∷ codes "CREATE TABLE withdrawals (who TEXT NOT NULL, role TEXT NOT NULL, since INT NOT NULL, until INT NOT NULL, day INT NOT NULL, PRIMARY KEY (who, role, since, until)) STRICT" ∷ []

abbrev pub text_at : ℕ → List ℕ
text_at at = slice_index_or texts at []

-- the schema of the first tables; of none, that of an empty database
abbrev pub schema_prefix : ℕ → Schema
schema_prefix count = schema_of (take count all_tables)

-- the database has the first tables, and no row in them
pub record HasEmptyTables (count : ℕ) (db : Database) : Type 0 where
  pub schema : db.schema ≡ schema_prefix count
  pub empty : AreEmpty (take count all_tables) db.trees

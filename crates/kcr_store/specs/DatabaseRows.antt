-- What a reading of a database of any version gives.
use Rattle.std.specs.Prelude.{◌≡◌, ◌+◌, ◌⊎◌, [], pos, Result, Err, IfOk, IfErr, MatchResult}
use Rattle.sqlite.specs.{Effect.Database, Tree.Trees}
use Rattle.kcr_history.specs.{History.History, Tables.tables, declared.views.FullView.FullView}
use Rattle.kcr_older.specs.{Migrated.migrated_tables, Kind.no_schema, Versions.number_of}
use Rattle.kcr_older.specs.OldFiles.{HoldsHistoryAs, HoldsFirst, numbered}
use Rattle.kcr_older.specs.declared.{migration.OldVersion.OldVersion, kind.DatabaseKind.DatabaseKind}
use Rattle.kcr_older.specs.declared.migration.OldVersion.TheVariants as older
use Rattle.kcr_older.specs.declared.kind.DatabaseKind.TheVariants.{Empty, Current, Version2, Version1, Versioned, Foreign}
use Rattle.kcr_store.specs.{FullView.IsListed, FullView.Lists, Opening.IsAnswerBy}
use Rattle.kcr_store.specs.declared.«open».OpenFault.{OpenFault, TheVariants.Memory, TheVariants.Disk, TheVariants.Version}
use Rattle.kcr_store.specs.declared.«open».OpenFault.TheVariants as foreign
use Rattle.kcr_tables.specs.Creation.{schema_prefix}
use Rattle.kcr_tables.specs.StoredTables as held

-- the view has these rows, in the order in which a database keeps them
pub record IsKeptView (t : held.StoredTables) (view : FullView) : Type 0 where
  pub db : Trees
  pub kept : held.TreesHold db t
  pub lists : Lists t view

-- of a register of this version the view has its rows, and the number is this version's
abbrev pub IsNumberedView : held.StoredTables → FullView → Type 0
IsNumberedView t view = (t.versions ≡ numbered 3) × IsKeptView t view

-- of one of an older version it has the rows that are made of its own, and the number is that version's
abbrev pub IsBroughtView : OldVersion → held.StoredTables → FullView → Type 0
IsBroughtView from t view = (t.versions ≡ numbered (number_of from)) × IsKeptView (migrated_tables from t) view

-- the rows are as is said of them, and the database is refused for its version only if this holds
abbrev pub GivesOr : Type 0 → (FullView → Type 0) → Result FullView OpenFault → Type 0
GivesOr Other Is result = MatchResult result Is (λ fault. fault ≡ Version → Other)

-- what is given of a register of an older version, by its number, its rows and its history
pub record GivesOlder (from : OldVersion) (db : Database) (result : Result FullView OpenFault) : Type 0 where
  pub answer : db.schema ≡ schema_prefix (14 + number_of from) → IsAnswerBy (pos (number_of from)) db result
  pub rows : (t : held.StoredTables) → HoldsFirst (14 + number_of from) db t → t.versions ≡ numbered (number_of from)
      → IfOk result (IsKeptView (migrated_tables from t))
  pub own : (A : History) → HoldsHistoryAs (number_of from) A db → IfOk result (IsListed (tables A))

-- and of one of this version
pub record GivesCurrent (db : Database) (result : Result FullView OpenFault) : Type 0 where
  pub answer : db.schema ≡ schema_prefix 17 → IsAnswerBy (pos 3) db result
  pub rows : (t : held.StoredTables) → held.Holds db t → IfOk result (IsKeptView t)

-- and of an empty database
pub record GivesNew (db : Database) (result : Result FullView OpenFault) : Type 0 where
  pub rows : db.schema ≡ no_schema → IfOk result (IsListed (tables []))
  pub kind : IfErr result (λ fault. (fault ≡ Memory) ⊎ (fault ≡ Disk))

-- what is given of a database of each standing
abbrev pub Gives : DatabaseKind → Database → Result FullView OpenFault → Type 0
Gives Empty db result = GivesNew db result
Gives Current db result = GivesCurrent db result
Gives Version2 db result = GivesOlder older.V2 db result
Gives Version1 db result = GivesOlder older.V1 db result
Gives Versioned db result = Unit {0}
Gives Foreign db result = result ≡ Err foreign.Foreign

-- what is not read
abbrev pub IsUnread : DatabaseKind → Type 0
IsUnread standing = (standing ≡ Versioned) ⊎ (standing ≡ Foreign)

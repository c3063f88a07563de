-- What an opening finds and makes.
use Rattle.std.specs.Prelude.{◌≡◌, ◌⊎◌, ◌≢◌, ◌+◌, ℕ, ℤ, pos, [], length, IsTrue, Some, Result, MatchResult, unwrap_or}
use Rattle.sqlite.specs.{Effect.Database, Store.Ghosts, Tree.Trees, State.State, State.HasCleanDisk, State.IsLive}
use Rattle.sqlite.specs.Files.{HoldsDatabase, AreFoundIn, IsEmpty}
use Rattle.sqlite_wal.specs.Recovery.{Image}
use Rattle.kcr_history.specs.History.{History}
use Rattle.kcr_tables.specs.{Creation.schema_prefix, StoredTables.StoredTables, StoredTables.Holds, StoredTables.TreesHold}
use Rattle.kcr_older.specs.OldFiles.{AreTablesAs, HoldsFirst, HoldsHistoryAs, TreesHoldFirst, numbered}
use Rattle.kcr_older.specs.Kind.{IsForeign, IsOfOtherVersion, IsTaken, no_schema, version_in}
use Rattle.kcr_older.specs.{Migrated.migrated_tables, Versions.number_of}
use Rattle.kcr_older.specs.declared.migration.OldVersion.{OldVersion, TheVariants.V1, TheVariants.V2}
use Rattle.kcr_store.specs.declared.«open».OpenFault.{OpenFault, TheVariants.Foreign, TheVariants.Version}
use Rattle.kcr_store.specs.Register.{IsSynced, RegisterHistory, RegisterState, StandsAt, whole}
use Rattle.kcr_store.specs.Stored.{IsTables}

-- why a database is refused: for its version if it has the number of another one, and as foreign if it is neither
-- taken nor that
abbrev pub RefusesAs : Database → OpenFault → Type 0
RefusesAs db Version = IsOfOtherVersion db
RefusesAs db Foreign = IsForeign db
RefusesAs db _ = Unit {0}

-- what is answered to a database: what is taken is empty or a register's
abbrev pub IsAnswer : {A : Type 0} → Database → Result A OpenFault → Type 0
IsAnswer db result = MatchResult result (λ _. IsTaken db) (RefusesAs db)

-- the same of one that has the schema of a version, by its number alone
abbrev pub RefusesBy : ℤ → Database → OpenFault → Type 0
RefusesBy number db Version = IsOfOtherVersion db
RefusesBy number db Foreign = (version_in db ≢ Some number) × ¬ IsOfOtherVersion db
RefusesBy number db _ = Unit {0}

abbrev pub IsAnswerBy : {A : Type 0} → ℤ → Database → Result A OpenFault → Type 0
IsAnswerBy number db result = MatchResult result (λ _. version_in db ≡ Some number) (RefusesBy number db)

-- what is answered to a database with the schema of version N, by its number, if the store serves
abbrev pub GoesByNumber : {A : Type 0} → ℕ → Result A OpenFault → State → State → Type 0
GoesByNumber number result old new =
    IsLive old → old.now.schema ≡ schema_prefix (14 + number) → IsAnswerBy (pos number) old.now result

-- the trees hold the tables of the history, as a file of any version has them that is taken
abbrev pub HoldsHistory : History → Trees → Type 0
HoldsHistory accepted db = IsTables accepted db ⊎ (AreTablesAs 1 accepted db ⊎ AreTablesAs 2 accepted db)

-- the database was empty, or holds the tables of the history
abbrev pub IsGenuine : History → State → Type 0
IsGenuine accepted s =
    HasCleanDisk s → IsTrue s.is_open → ((s.now.schema ≡ no_schema) × (accepted ≡ []))
    ⊎ HoldsHistory accepted s.committed.trees

-- the connection shows the tables of the history, and this is the number of its last command
pub record IsOpened (accepted : History) (count : ℕ) (s : State) : Type 0 where
  pub shows : IsSynced accepted s
  pub live : IsTrue s.is_open
  pub counts : count ≡ length accepted

-- the database has the schema and the number of the older version, and these rows, whoever wrote them
abbrev pub HoldsRowsAs : OldVersion → StoredTables → Database → Type 0
HoldsRowsAs from t db = HoldsFirst (14 + number_of from) db t × (t.versions ≡ numbered (number_of from))

-- the connection shows these rows, and nothing waits
pub record ShowsRows (t : StoredTables) (s : State) : Type 0 where
  pub now : Holds s.now t
  pub committed : Holds s.committed t

-- rows of the older version had its number, and became those that the migration makes of them
abbrev pub MigratesRows : OldVersion → Database → State → Type 0
MigratesRows from before after =
    (t : StoredTables) → HoldsFirst (14 + number_of from) before t
    → (t.versions ≡ numbered (number_of from)) × ShowsRows (migrated_tables from t) after

-- if a register of the older version held the tables of a history, these are that history's tables; whatever rows it
-- held, these are those that the migration makes of them
pub record IsMigrated (from : OldVersion) (before : Database) (db : Trees) : Type 0 where
  pub tables : (A : History) → HoldsHistoryAs (number_of from) A before → IsTables A db
  pub rows : (t : StoredTables) → HoldsRowsAs from t before → TreesHold db (migrated_tables from t)

-- what an opening makes of a database, so that a crash may leave it in place of what was there: of an empty one the
-- tables of a new register, of an older one the tables of the same history, or the migrated rows
abbrev pub IsOpeningOf : Database → Trees → Type 0
IsOpeningOf before db =
    ((before.schema ≡ no_schema) × IsTables [] db)
    ⊎ (((before.schema ≡ schema_prefix 15) × IsMigrated V1 before db) ⊎ ((before.schema ≡ schema_prefix 16) × IsMigrated V2 before db))

-- the files held the tables of the history, or, before the first command, no entry at all
abbrev pub FilesHoldHistory : History → Image → Type 0
FilesHoldHistory accepted image =
    ((db : Trees) × HoldsDatabase image db × HoldsHistory accepted db)
    ⊎ ((accepted ≡ []) × ((db : Trees) → AreFoundIn image db → IsEmpty db))

-- the files held these rows, as a file of the older version has them
abbrev pub FilesHoldRowsAs : OldVersion → StoredTables → Image → Type 0
FilesHoldRowsAs from t image = (db : Trees) × HoldsDatabase image db × TreesHoldFirst (14 + number_of from) db t

-- A STOP, AND THE NEXT OPENING

-- the history that a crash may leave in place of what was accepted; that itself, of a register that nothing has broken
abbrev pub tried : RegisterHistory → History
tried s = unwrap_or s.in_doubt s.accepted

-- the files hold the tables of what was accepted, or those of the history that was tried
abbrev pub LeavesEither : RegisterHistory → Image → Type 0
LeavesEither s left = ∥ FilesHoldHistory s.accepted left ⊎ FilesHoldHistory (tried s) left ∥₁

-- a register that stands at each history of which the files held the tables stands at one of the two
abbrev pub OpensAtEither : {S : Type 0} → Ghosts S → RegisterHistory → Image → Type 0
OpensAtEither {S} g s left =
    (next : RegisterState S)
    → ((A : History) → FilesHoldHistory A left → StandsAt g (whole A) next)
    → ∥ StandsAt g (whole s.accepted) next ⊎ StandsAt g (whole (tried s)) next ∥₁

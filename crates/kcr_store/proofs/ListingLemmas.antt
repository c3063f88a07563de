-- What a reading of a database of any version gives, by what the database is.
use Rattle.kcr_store.proofs.Common.{◌≡◌, ◌≢◌, ◌⊎◌, inr, ℕ, ℤ, pos, ◌+◌, List, Some, Result, Ok, IfOk, refl, arith, IsListed, held_of, HoldsTables}
use Rattle.kcr_store.proofs.Common.{IfOk-weaker, Database, Schema, State, Refusal, History, Tables, tables, FullView}
use Rattle.kcr_store.proofs.Common.{HoldsFirst, numbered, migrated_tables, IsOfKind, IsForeignSchema, version_in, IsKnown, held_version, is_numbered}
use Rattle.kcr_store.proofs.Common.{older_version, only_version, number_of, OldVersion, Empty, Current, Version2, Version1, Versioned, Gives}
use Rattle.kcr_store.proofs.Common.{GivesOlder, GivesOr, IsBroughtView, IsKeptView, IsNumberedView, IsUnread, IsAnswer, IsAnswerBy}
use Rattle.std.proofs.Common.{IfErr}
use Rattle.kcr_rows.specs.declared.row_impls.Version.{Version}
use Rattle.kcr_older.specs.declared.migration.OldVersion.TheVariants as older
use Rattle.kcr_older.specs.declared.kind.DatabaseKind.{DatabaseKind}
use Rattle.kcr_store.specs.declared.«open».OpenFault.{OpenFault}
use Rattle.kcr_store.specs.declared.«open».OpenFault.TheVariants as opening
use Rattle.kcr_store.proofs.OpenLemmas.{IsFound, empty_answer, foreign_answer, is_known, none_strange, nothing_accepted, number_answer, of_ours}
use Rattle.kcr_store.proofs.{OpenLemmas.of_strange, OpenLemmas.of_version, StoreLemmas.held_in, StoreLemmas.listed}
use Rattle.kcr_tables.specs.StoredTables as held

-- ---- what is given is what was read

-- what is said of the rows that were read holds of the rows that are given
pub given_rows : (P : FullView → Type 0) (rows : Result FullView Refusal) (result : Result FullView OpenFault) → IfOk result (λ view. rows ≡ Ok view)
    → IfOk rows P → IfOk result P
given_rows P rows result is h = grind arith

-- a number that was expected is that of an answer
pub given_answer : (number : ℤ) (db : Database) (result : Result FullView OpenFault) → version_in db ≡ Some number
    → IfErr result (λ e. (e ≡ opening.Memory) ⊎ (e ≡ opening.Disk)) → IsAnswerBy number db result
given_answer number db result is kind = grind arith

-- ---- by the standing of the database

-- what is given of a database of any kind but `Versioned` is a right answer to it
pub answer_by : (standing : DatabaseKind) (db : Database) (result : Result FullView OpenFault) → IsOfKind db.schema standing → Gives standing db result
    → standing ≢ Versioned → IsAnswer db result
answer_by standing db result stands gives other = grind (arith, empty_answer, foreign_answer, number_answer)

-- an answer by the number that the rows have is one by the rows
by_rows : (Is : FullView → Type 0) (number : ℕ) (rows : List Version) (db : Database) (result : Result FullView OpenFault)
    → version_in db ≡ only_version rows
    → IsKnown number → IsAnswerBy (pos number) db result → (rows ≡ numbered number → IfOk result Is)
    → GivesOr (rows ≢ numbered number) (λ view. (rows ≡ numbered number) × Is view) result
by_rows Is number rows db result held known h is = grind (arith, is_numbered)

-- this version's tables are given, or refused for their version only if their number is another
pub version_by : (standing : DatabaseKind) (db : Database) (result : Result FullView OpenFault) → IsOfKind db.schema standing → Gives standing db result
    → (t : held.StoredTables) → held.Holds db t → GivesOr (t.versions ≢ numbered 3) (IsNumberedView t) result
version_by Current db result stands gives t h =
    by_rows (IsKeptView t) 3 t.versions db result (held_version 3 (inr (inr refl)) db t.versions h.schema h.kept.versions) (inr (inr refl))
    (gives.answer stands) (λ _. gives.rows t h)
version_by _ db result stands gives t h = absurd (grind (arith, none_strange))

-- what is given of a database that holds the machine's tables lists their rows
pub rows_by : (standing : DatabaseKind) (db : Database) (result : Result FullView OpenFault) → IsOfKind db.schema standing → Gives standing db result
    → (m : Tables) → HoldsTables m db → IfOk result (IsListed m)
rows_by Current db result stands gives m h =
    IfOk-weaker result _ _ (λ view k. listed k.kept h.tables.stands k.lists) (gives.rows h.tables.t (held_of m db h))
rows_by _ db result stands gives m h = absurd (grind (arith, none_strange))

-- a register of an older version is not strange
pub not_strange : (from : OldVersion) (t : held.StoredTables) (db : Database) → IsForeignSchema db.schema → HoldsFirst (14 + number_of from) db t → ⊥
not_strange from t db strange h = grind (arith, none_strange)

older_given : (from : OldVersion) (db : Database) (result : Result FullView OpenFault) → GivesOlder from db result → (t : held.StoredTables)
    → HoldsFirst (14 + number_of from) db t → GivesOr (t.versions ≢ numbered (number_of from)) (IsBroughtView from t) result
older_given from db result gives t h =
    by_rows (IsKeptView (migrated_tables from t)) (number_of from) t.versions db result (older_version (number_of from) (is_known from) db t h)
    (is_known from)
    (gives.answer h.schema) (gives.rows t h)

-- an older version's tables are given migrated, or refused for their version only if their number is another
pub older_by : (standing : DatabaseKind) (db : Database) (result : Result FullView OpenFault) → IsOfKind db.schema standing → Gives standing db result
    → (from : OldVersion) (t : held.StoredTables) → HoldsFirst (14 + number_of from) db t → GivesOr (t.versions ≢ numbered (number_of from)) (IsBroughtView from t) result
older_by standing db result stands gives from t h = grind (arith, older_given, not_strange)

-- what is read has the schema of a version, or nothing
pub known_by : (standing : DatabaseKind) (s : Schema) → IsOfKind s standing → ¬ IsUnread standing → ¬ IsForeignSchema s
known_by standing s stands read strange = grind arith

-- a view of a genuine database lists the tables of its history
pub own_by : {A : History} {old : State} → IsFound A old → (standing : DatabaseKind) (result : Result FullView OpenFault)
    → IsOfKind old.now.schema standing
    → Gives standing old.now result → IfOk result (IsListed (tables A))
own_by f Empty result stands gives = rw (nothing_accepted f stands) (gives.rows stands)
own_by {A} {old} f Current result stands gives = rows_by Current old.now result stands gives (tables A) (held_in A old.now (of_ours f stands).now)
own_by {A} f Version2 result stands gives = gives.own A (of_version f older.V2 stands)
own_by {A} f Version1 result stands gives = gives.own A (of_version f older.V1 stands)
own_by f _ result stands gives = absurd (of_strange f stands.0)

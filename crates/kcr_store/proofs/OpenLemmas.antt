-- What an opening finds.
use Rattle.kcr_store.proofs.Common.{arith, refl, false, true, ◌≡◌, ◌⊎◌, inl, inr, ℕ, ◌+◌, ◌≤◌, pos, [], length, Some, Result, Ok, Err, IfOk}
use Rattle.kcr_store.proofs.Common.{OnOk, IsTrue, sym, ap, subst, ◌∙◌, IfErr, is_some, Schema, Database, State, Opens, HasCleanDisk, IsLive}
use Rattle.kcr_store.proofs.Common.{IsUnchanged, Survives, Ghosts, Trees, Held, state, History, tables, HoldsTables, StoredTables, Holds, AreTablesAs}
use Rattle.kcr_store.proofs.Common.{HoldsFirst, HoldsHistoryAs, TreesHoldFirst, numbered, migrated_tables, number_of, OldVersion, IsForeign}
use Rattle.kcr_store.proofs.Common.{IsOfOtherVersion, IsOfVersion, IsForeignSchema, IsTaken, no_schema, numbered_table, version_in, IsKnown}
use Rattle.kcr_store.proofs.Common.{has_versions, held_version, is_numbered, older_version, only_version, Stores, IsSynced, IsDurableWith}
use Rattle.kcr_store.proofs.Common.{Image, IsAnswer, IsAnswerBy, IsMigrated, IsGenuine, HoldsHistory, HoldsRowsAs, FilesHoldHistory, FilesHoldRowsAs}
use Rattle.kcr_store.proofs.Common.{IsOpened, MigratesRows, RefusesAs, ShowsRows, StaysOutside, Shows, StaysInTransaction, Transaction, state_in}
use Rattle.std.proofs.lemmas.Grind.{common_steps}
use Rattle.sqlite.proofs.ListingLemmas.{empty_is_sound}
use Rattle.sqlite.specs.Start.{FindsIn}
use Rattle.kcr_tables.specs.{Schema.register_schema, Creation.schema_prefix}
use Rattle.kcr_tables.proofs.OpenLemmas.{one_schema}
use Rattle.kcr_older.specs.declared.migration.OldVersion.TheVariants as older
use Rattle.kcr_store.specs.declared.«open».OpenFault.{OpenFault}
use Rattle.kcr_store.specs.declared.«open».OpenFault.TheVariants as fault
use Rattle.kcr_store.proofs.{WholeLemmas.counted_as, WholeLemmas.made_outside, RowLemmas.committed_has, RowLemmas.within}
use Rattle.kcr_rows.specs.Frame.{IfClean}

-- how many tables a schema has
abbrev pub count : Schema → ℕ
count s = length s.tables

-- two schemas of one database have the same number of tables
pub apart : {s a b : Schema} → s ≡ a → s ≡ b → count a ≡ count b
apart one other = ap count (sym one ∙ other)

-- a genuine database whose opening shows its history is a durable register of it
pub adopted : {S : Type 0} (g : Ghosts S) → ((s : S) (db : Trees) → IsTrue (g.view s).is_open → g.recovers s db → db ≡ (g.view s).committed)
    → (A : History) (old : State) (new : Held S) → IsGenuine A old → {count : ℕ}
    → (HasCleanDisk (state g new) → (B : History) → IsGenuine B old → IsOpened B count (state g new)) → IsDurableWith count A (state g new)
adopted g settled A old new genuine found = counted_as (record {
  shows = λ clean _. (found clean A genuine).shows;
  crash = λ clean db may. let it = found clean A genuine in rw (settled new.store db it.live may) it.shows.committed.tables;
}) (λ clean. (found clean A genuine).counts)

-- ---- the schema of a version, or of none

-- the schema of a version has as many tables as the version
counts : (n : ℕ) → n ≤ 17 → count (schema_prefix n) ≡ n
counts n below = grind (arith, common_steps)

one_version : (m n : ℕ) (s : Schema) → m ≤ 17 → n ≤ 17 → s ≡ schema_prefix m → s ≡ schema_prefix n → m ≡ n
one_version m n s below under one other = omega (arith, apart one other, counts m below, counts n under)

-- a foreign schema is that of no version
pub none_strange : (version : ℕ) (s : Schema) → IsForeignSchema s → s ≡ schema_prefix (14 + version) → IsKnown version → ⊥
none_strange version s strange is known = grind arith

never_taken : (db : Database) → IsForeignSchema db.schema → ¬ IsTaken db
never_taken db strange taken = grind arith

-- ---- each answer is what its name says

-- to an empty database each result is a right answer, if it fails only for memory or the disk
pub empty_answer : {A : Type 0} (db : Database) (result : Result A OpenFault) → db.schema ≡ no_schema
    → IfErr result (λ e. (e ≡ fault.Memory) ⊎ (e ≡ fault.Disk)) → IsAnswer db result
empty_answer db result none kind = grind arith

-- an answer by the number of a version is right for a database with the schema of that version
pub number_answer : {A : Type 0} (version : ℕ) → IsKnown version → (db : Database) (result : Result A OpenFault) → db.schema ≡ schema_prefix (14 + version)
    → IsAnswerBy (pos version) db result → IsAnswer db result
number_answer version known db result schema h = grind (arith, one_version)

-- a database with a foreign schema is refused rightly if its number decides between version and foreign
pub stranger_answer : (db : Database) (e : OpenFault) → IsForeignSchema db.schema
    → (e ≡ fault.Version → IsOfOtherVersion db) × (e ≡ fault.Foreign → ¬ IsOfOtherVersion db) → RefusesAs db e
stranger_answer db e strange h = grind (arith, never_taken)

-- a database with a foreign schema, and without the table of the number, is foreign
pub foreign_answer : (db : Database) → IsForeignSchema db.schema → is_some (numbered_table db.schema) ≡ false → IsForeign db
foreign_answer db strange none = grind (arith, never_taken)

-- ---- a database that is one of a register

stored_version : {A : History} {db : Database} → Stores A db → IsOfVersion 3 db
stored_version s =
    (s.schema, held_version 3 (inr (inr refl)) _ _ s.schema s.tables.kept.kept.versions ∙ ap only_version s.tables.kept.stands.versions)

older_stored : (version : ℕ) → IsKnown version → {A : History} {db : Database} → HoldsHistoryAs version A db → IsOfVersion version db
older_stored version known s = (s.schema, older_version version known _ _ (record { schema = s.schema; kept = s.tables.kept }))

-- what a genuine database is found to hold: nothing, its history's tables, or those of an older version
abbrev pub IsFound : History → State → Type 0
IsFound A old = ((old.now.schema ≡ no_schema) × (A ≡ [])) ⊎ (IsSynced A old ⊎ (HoldsHistoryAs 1 A old.now ⊎ HoldsHistoryAs 2 A old.now))

-- a genuine database that is open holds its history so
pub found_in : {A : History} {old : State} → (IsTrue old.is_open → old.now ≡ old.committed) → IsLive old → HasCleanDisk old → IsTrue old.is_open
    → IsGenuine A old → IsFound A old
found_in {A} {old} settled lives clean live genuine =
    let is = settled live in
    let sound = (lives live).1 in
    let older = λ (version : ℕ) (t : AreTablesAs version A old.committed.trees). subst (HoldsHistoryAs version A) (sym is)
    (record { schema = one_schema old.committed.schema (schema_prefix (14 + version)) old.committed.trees refl sound t.kept.sound; tables = t }) in
    elim (genuine clean live) [
      | inl nothing ↦ inl nothing
      | inr (inl t) ↦
          let s : Stores A old.committed =
          record { schema = one_schema old.committed.schema register_schema old.committed.trees refl sound t.kept.kept.sound; tables = t } in
          inr (inl (record { now = subst (Stores A) (sym is) s; committed = s }))
      | inr (inr (inl one)) ↦ inr (inr (inl (older 1 one)))
      | inr (inr (inr two)) ↦ inr (inr (inr (older 2 two)))
    ]

module _ {A : History} {old : State} (f : IsFound A old) where
  -- a genuine database without a schema has the empty history
  pub nothing_accepted : old.now.schema ≡ no_schema → A ≡ []
  nothing_accepted none = grind (arith, one_version)

  -- a genuine database with the schema of this version shows its history
  pub of_ours : old.now.schema ≡ schema_prefix 17 → IsSynced A old
  of_ours is = grind (arith, one_version)

  -- a genuine database with the schema of an older version holds its history as that version does
  pub of_version : (from : OldVersion) → old.now.schema ≡ schema_prefix (14 + number_of from) → HoldsHistoryAs (number_of from) A old.now
  of_version from is = grind (arith, one_version)

  -- a genuine database is taken
  pub founded_taken : IsTaken old.now
  founded_taken = elim f [
    | inl nothing ↦ inl nothing.0
    | inr (inl t) ↦ inr (inr (inr (stored_version t.now)))
    | inr (inr (inl one)) ↦ inr (inl (older_stored 1 (inl refl) one))
    | inr (inr (inr two)) ↦ inr (inr (inl (older_stored 2 (inr (inl refl)) two)))
  ]

  -- the schema of a genuine database is not foreign
  pub of_strange : ¬ IsForeignSchema old.now.schema
  of_strange strange = never_taken old.now strange founded_taken

  -- so it is not refused
  pub is_taken : {X : Type 0} (result : Result X OpenFault) → IsAnswer old.now result → IfErr result (λ e. (e ≡ fault.Memory) ⊎ (e ≡ fault.Disk))
  is_taken result h = grind (arith, founded_taken)

-- ---- the number is read, and nothing else is changed

-- every version has the table of the number
pub there : (version : ℕ) → IsKnown version → (s : Schema) → s ≡ schema_prefix (14 + version) → IsTrue (is_some (numbered_table s))
there version known s is = ap (λ (t : Schema). is_some (numbered_table t)) is ∙ ap is_some (has_versions version known)

-- the number of an older version is that of a version
pub is_known : (from : OldVersion) → IsKnown (number_of from)
is_known from = grind arith

-- what the database had it has still
pub still_has : (P : Database → Type 0) (old mid : State) → IsUnchanged old mid → P old.now → P mid.now
still_has P old mid same has = subst P (sym same.0.now_is) has

-- a connection that shows a history still does if nothing changed
pub still_shows : (A : History) (old new : State) → IsUnchanged old new → IsSynced A old → IsSynced A new
still_shows A old new same s = grind arith

-- ---- a register of an older version, migrated to this version

-- a crash leaves what was there or the tables of the same history, whether the commit came or not
pub renewed_outside : {S X E : Type 0} (g : Ghosts S) (old : Held S) {M : E → Type 0} {r : Result X E} {begun mid : Transaction S}
    → StaysInTransaction g M begun mid r → begun.conn.now ≡ record old { in_transaction = true } → (from : OldVersion) → {n : ℕ}
    → IfClean g begun mid (λ before after. (A : History) → HoldsHistoryAs (number_of from) A before.now
    → (n ≡ length A) × HoldsTables (tables A) after.now)
    → IfClean g begun mid (λ before after. (t : StoredTables) → HoldsRowsAs from t before.now → Holds after.now (migrated_tables from t))
    → (end : Held S) → Survives (state_in g mid) (state g end) (λ db. db ≡ (state_in g mid).now.trees) → end.in_transaction ≡ false
    → StaysOutside g (IsMigrated from (state g old).now) old end
renewed_outside g old left is from brought rows end then out =
    let brought = rw is at brought in
    let rows = rw is at rows in
    made_outside g old (within g old left is) end (IsMigrated from (state g old).now) then (λ clean. record {
      tables = λ A s. record { register = s.tables.register; kept = (brought clean A s).1.tables };
      rows = λ t held. (rows clean t held).kept;
    }) out

-- a commit that stands shows the tables of the history
pub opened_by : {A : History} {count : ℕ} {mid end : State} → Shows mid end mid.now mid.now false → Stores A mid.now → count ≡ length A
    → IsOpened A count end
opened_by {A} shown s is =
    let now = committed_has (Stores A) shown s in record { shows = record { now = now.0; committed = now.1 }; live = shown.is_open; counts = is }

-- so it shows rows
pub shown_by : {t : StoredTables} {mid end : State} → Shows mid end mid.now mid.now false → Holds mid.now t → ShowsRows t end
shown_by {t} shown held = let now = committed_has (λ (db : Database). Holds db t) shown held in record { now = now.0; committed = now.1 }

-- ---- the rows of an older version, whoever wrote them

-- a database that is empty, or of this version, has no rows of an older version
pub none_older : {X : Type 0} (old new : State) (result : Result X OpenFault) → (old.now.schema ≡ no_schema) ⊎ (old.now.schema ≡ schema_prefix 17)
    → IfOk result (λ _. (from : OldVersion) → MigratesRows from old.now new)
none_older old new (Ok x) is = λ from t h. absurd (grind (arith, one_version))
none_older old new (Err e) is = tt

numbered_by : (from : OldVersion) (db : Database) (t : StoredTables) → version_in db ≡ Some (pos (number_of from)) → HoldsFirst (14 + number_of from) db t
    → t.versions ≡ numbered (number_of from)
numbered_by from db t number h = is_numbered t.versions (number_of from) (sym (older_version (number_of from) (is_known from) db t h) ∙ number)

-- rows of one older version are none of the other
one_older : (from other : OldVersion) (before : Database) (after : State) (t : StoredTables) → before.schema ≡ schema_prefix (14 + number_of from)
    → version_in before ≡ Some (pos (number_of from)) → ((t : StoredTables) → HoldsRowsAs from t before → ShowsRows (migrated_tables from t) after)
    → HoldsFirst (14 + number_of other) before t → (t.versions ≡ numbered (number_of other)) × ShowsRows (migrated_tables other t) after
one_older older.V1 older.V1 before after t schema number shows h = let is = numbered_by older.V1 before t number h in (is, shows t (h, is))
one_older older.V2 older.V2 before after t schema number shows h = let is = numbered_by older.V2 before t number h in (is, shows t (h, is))
one_older _ _ before after t schema number shows h = absurd (grind (arith, h.schema))

-- what is taken by the number of the version has it in its rows
pub older_kept : {X : Type 0} (from : OldVersion) (old new : State) (result : Result X OpenFault) → old.now.schema ≡ schema_prefix (14 + number_of from)
    → IsAnswerBy (pos (number_of from)) old.now result
    → ((t : StoredTables) → HoldsRowsAs from t old.now → OnOk result (ShowsRows (migrated_tables from t) new))
    → IfOk result (λ _. (other : OldVersion) → MigratesRows other old.now new)
older_kept from old new (Ok x) schema number shows = λ other t h. one_older from other old.now new t schema number shows h
older_kept from old new (Err e) schema number shows = tt

-- ---- what the files held is what the connection shows

-- a connection over files that held a history finds its tables, or before the first command no schema
pub founded_in : (accepted : History) (image : Image) (s : State) → FilesHoldHistory accepted image → FindsIn image s → Opens s → IsLive s
    → ((s.now.schema ≡ no_schema) × (accepted ≡ [])) ⊎ HoldsHistory accepted s.committed.trees
founded_in accepted image s (inl held) finds opens lives = inr (subst (HoldsHistory accepted) (sym (finds.holds held.0 held.1)) held.2)
founded_in accepted image s (inr nothing) finds opens lives =
    let bare = nothing.1 s.committed.trees finds.reads in
    let none : s.committed.schema ≡ no_schema =
    one_schema s.committed.schema no_schema s.committed.trees refl (lives opens.is_open).1 (empty_is_sound s.committed.trees bare.1) in
    inl (ap (λ (d : Database). d.schema) opens.clean ∙ none, nothing.0)

-- so are the rows of an older version
pub rows_in : (from : OldVersion) (t : StoredTables) (image : Image) (s : State) → FilesHoldRowsAs from t image → FindsIn image s → Opens s → IsLive s
    → HoldsFirst (14 + number_of from) s.now t
rows_in from t image s held finds opens lives =
    let kept = subst (λ (db : Trees). TreesHoldFirst (14 + number_of from) db t) (sym (finds.holds held.0 held.1)) held.2 in
    let schema = one_schema s.committed.schema (schema_prefix (14 + number_of from)) s.committed.trees refl (lives opens.is_open).1 kept.sound in
    subst (λ (d : Database). HoldsFirst (14 + number_of from) d t) (sym opens.clean) (record { schema = schema; kept = kept })

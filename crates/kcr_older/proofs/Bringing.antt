-- What an older file holds, before and after it is migrated to this version.
use Rattle.kcr_older.proofs.Common.{rules, ◌≡◌, List, [], map, refl, arith, IsPermutation, IsPermutation-refl, Database, Stay, stays_by, PutStay}
use Rattle.kcr_older.proofs.Common.{History, tables, StoredTables, Holds, with_bare_tables, with_own_stays, migrated_tables, HoldsHistoryAs, numbered}
use Rattle.kcr_older.proofs.{Common.number_of, Filling.filled}
use Rattle.kcr_history.specs.Tables as machine
use Rattle.kcr_tables.specs.MachineTables.{SameRows, HoldsTables}
use Rattle.kcr_tables.proofs.HoldLemmas.{tables_of}
use Rattle.kcr_tables.proofs.JointLemmas.{Rises, kept_rises, all_stand, same_stands}
use Rattle.kcr_older.specs.Backfilled.{with_stays}
use Rattle.kcr_older.specs.declared.migration.OldVersion.{OldVersion, TheVariants.V1, TheVariants.V2}

-- ---- what is put leaves the number of the version

-- the tables that are made and filled leave the number of the version
pub same_number : (from : OldVersion) (t : StoredTables) → (with_own_stays from (with_bare_tables from t)).versions ≡ t.versions
same_number V1 t = refl
same_number V2 t = refl

-- ---- an older file has the rows of its history, but for withdrawals, which it has none of, and for its stays

stands_older : (A : History) (t : StoredTables) (own rows : List Stay) → SameRows (tables A) t → machine.withdrawals A ≡ [] → IsPermutation own rows
    → SameRows (record (tables A) { stays = own }) (record { rows = record t.rows { stays = rows; withdrawals = [] }; versions = numbered 3 })
stands_older A t own rows s none same =
    let without : IsPermutation (machine.withdrawals A) [] = rw none (IsPermutation-refl []) in
    search (rules, s.rows, without, same)

-- a file of an older version, migrated, holds the machine's tables of its history
pub brought_from : (from : OldVersion) (A : History) (old new : Database) (s : HoldsHistoryAs (number_of from) A old)
    → Holds new (migrated_tables from (record s.tables.t { versions = numbered (number_of from) })) → HoldsTables (tables A) new
brought_from V1 A old new s after =
    let t : StoredTables = s.tables.t in
    let now : StoredTables = record { rows = record t.rows { stays = []; withdrawals = [] }; versions = numbered 3 } in
    let stood = stands_older A t [] [] s.tables.stands (s.tables.unwithdrawn (omega arith)) (IsPermutation-refl []) in
    let rose = kept_rises s.tables.kept.whole (record t { versions = numbered 1 }) s.tables.kept.kept in
    let rises : Rises now.rows = search (rules, rose) in
    let put = all_stand (map PutStay (stays_by t.rows.sheet)) (record (tables A) { stays = [] }) now rises stood in
    let stands = same_stands _ (tables A) (with_stays now) (filled A s.tables.register t.rows.sheet s.tables.stands.rows.sheet) put in
    tables_of (tables A) new (with_stays now) stands after
brought_from V2 A old new s after =
    let t : StoredTables = s.tables.t in
    let stands = stands_older A t (tables A).stays t.rows.stays s.tables.stands (s.tables.unwithdrawn (omega arith)) s.tables.stands.rows.stays in
    tables_of (tables A) new (record { rows = record t.rows { withdrawals = [] }; versions = numbered 3 }) stands after

-- An older file with the tables that it lacks, which have no rows yet: what CREATE TABLE does to tables that have rows.
use Rattle.kcr_older.proofs.Common.{rules, ◌≡◌, ℕ, zero, suc, List, [], ◌∷◌, map, drop, take, ◌∙◌, ◌+◌, Ok, Trees, Table, KeepsRows, Database}
use Rattle.kcr_older.proofs.Common.{IsSound, Row, TreeHolds, TableLayout, keeps_on, stay_row, withdrawal_row, all_tables, register_schema, stays}
use Rattle.kcr_older.proofs.Common.{withdrawals, StoredTables, TreesHold, Holds, stays_place, withdrawals_place, HoldsFirst, State, Executes, text_at}
use Rattle.kcr_older.proofs.Common.{schema_prefix, MakesAt}
use Rattle.kcr_rows.proofs.CreateLemmas.{bare, creates}
use Rattle.kcr_older.specs.NewTable.{Gains}

-- ---- one more table

-- the rows of the tables that were there stay, and the new one has none
pub creates_over : (at : ℕ) (table : Table) → MakesAt at table → (old new : State) (count : ℕ) → old.now.schema ≡ schema_prefix at
    → Executes (text_at at) [] old new (Ok count) → Gains at table old.now new.now
creates_over at table makes old new count has h =
    let made = creates (schema_prefix at) (text_at at) table (schema_prefix (at + 1)) makes old new count has h in
    record { schema = made.0; shared = made.1; empty = made.2; sound = made.3 }

-- ---- all that an older file lacks

shares_on : (tables : List Table) (a b c : Trees) → KeepsRows tables a b → KeepsRows tables b c → KeepsRows tables a c
shares_on [] a b c one two = tt
shares_on (t ∷ tables) a b c one two = (two.0 ∙ one.0, shares_on tables a b c one.1 two.1)

front_of : (count : ℕ) (tables : List Table) (a b : Trees) → KeepsRows tables a b → KeepsRows (take count tables) a b
front_of zero tables a b k = tt
front_of (suc count) [] a b k = tt
front_of (suc count) (t ∷ tables) a b k = (k.0, front_of count tables a b k.1)

behind : (count : ℕ) (tables : List Table) (a b : Trees) → KeepsRows tables a b → KeepsRows (drop count tables) a b
behind zero tables a b k = k
behind (suc count) [] a b k = tt
behind (suc count) (t ∷ tables) a b k = behind count tables a b k.1

-- trees that share the first 15 tables with those of a register keep its rows in them, beside stays and withdrawals of their own
shares_kept : (whole db : Trees) (t u : StoredTables) → TreesHold whole t → KeepsRows (take 15 all_tables) whole db → IsSound register_schema db
    → TreeHolds stays_place db (map stay_row u.rows.stays) → TreeHolds withdrawals_place db (map withdrawal_row u.rows.withdrawals)
    → TreesHold db (record t { rows = record t.rows { stays = u.rows.stays; withdrawals = u.rows.withdrawals } })
shares_kept whole db t u k s sound own_stays own_withdrawals =
    let still : (place : TableLayout) (rows : List Row) → db place.tree ≡ whole place.tree → TreeHolds place whole rows → TreeHolds place db rows
    = λ place rows. keeps_on place whole db rows in
    -- the tables behind the first seven, which the search does not reach from the front
    let later = behind 7 (take 15 all_tables) whole db s in
    search (rules, still, own_stays, own_withdrawals)

-- with the tables of stays and withdrawals, a file of version 1 holds its rows, and none in these
pub grown_from_1 : (old mid new : Database) (t : StoredTables) → HoldsFirst 15 old t → Gains 15 stays old mid → Gains 16 withdrawals mid new
    → Holds new (record t { rows = record t.rows { stays = []; withdrawals = [] } })
grown_from_1 old mid new t held one two =
    let k = held.kept in
    let still = front_of 15 (take 16 all_tables) mid.trees new.trees two.shared in
    let shared =
    shares_on (take 15 all_tables) k.whole old.trees new.trees k.shared (shares_on (take 15 all_tables) old.trees mid.trees new.trees one.shared still) in
    let there : new.trees stays_place.tree ≡ mid.trees stays_place.tree = assumption two.shared in
    let none : new.trees stays_place.tree ≡ [] = there ∙ one.empty in
    record {
      schema = two.schema;
      kept =
          shares_kept k.whole new.trees t (record t { rows = record t.rows { stays = []; withdrawals = [] } }) k.kept shared two.sound
          (bare stays_place new.trees none) (bare withdrawals_place new.trees two.empty);
    }

-- with the table of withdrawals, a file of version 2 holds its rows, and none in this
pub grown_from_2 : (old new : Database) (t : StoredTables) → HoldsFirst 16 old t → Gains 16 withdrawals old new
    → Holds new (record t { rows = record t.rows { withdrawals = [] } })
grown_from_2 old new t held two =
    let k = held.kept in
    let shared = shares_on (take 16 all_tables) k.whole old.trees new.trees k.shared two.shared in
    let there : new.trees stays_place.tree ≡ k.whole stays_place.tree = assumption shared in
    let own_stays = keeps_on stays_place k.whole new.trees (map stay_row t.rows.stays) there k.kept.stays in
    record {
      schema = two.schema;
      kept =
          shares_kept k.whole new.trees t (record t { rows = record t.rows { withdrawals = [] } }) k.kept
          (front_of 15 (take 16 all_tables) k.whole new.trees shared) two.sound own_stays (bare withdrawals_place new.trees two.empty);
    }

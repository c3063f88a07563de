-- Written by tools/tables.py from tools/table_list.py: do not edit.
-- One CREATE TABLE after the other.
use Rattle.std.proofs.Common.{◌≡◌, ℕ, zero, suc, ◌+◌, ◌<◌, [], ◌∷◌, ◌++◌, take, Ok, refl, arith}
use Rattle.sqlite.specs.{Table.Table, State.State, State.Executes}
use Rattle.sqlite_tied.specs.Compute.{everything}
use Rattle.sqlite_catalog.specs.Listing.{IsSound}
use Rattle.sqlite_trees.proofs.ListLemmas.{all-append}
use Rattle.kcr_rows.specs.Columns.{AreEmpty}
use Rattle.kcr_rows.proofs.CreateLemmas.{Makes, creates, keeps_empty}
use Rattle.kcr_tables.specs.Schema.{all_tables, people, trainings, appointments, boxes, safes, bags, items, ceremonies, marks, steps, seatings, sheet}
use Rattle.kcr_tables.specs.Schema.{exceptions, versions, keys, stays, withdrawals}
use Rattle.kcr_tables.specs.Creation.{text_at, schema_prefix}

-- text N makes this table after those before it
abbrev pub MakesAt : ℕ → Table → Type 0
MakesAt at table = Makes (schema_prefix at) (text_at at) table (schema_prefix (at + 1))

makes_next : (at : ℕ) (table : Table) → MakesAt at table → (old new : State) (count : ℕ) → old.now.schema ≡ schema_prefix at
    → AreEmpty (schema_prefix at).tables old.now.trees → Executes (text_at at) [] old new (Ok count) → (new.now.schema ≡ schema_prefix (at + 1))
    × AreEmpty ((schema_prefix at).tables ++ table ∷ []) new.now.trees × IsSound (schema_prefix (at + 1)) new.now.trees
makes_next at table makes old new count has empty ran =
    let made = creates (schema_prefix at) (text_at at) table (schema_prefix (at + 1)) makes old new count has ran in
    (made.0, all-append _ (schema_prefix at).tables (table ∷ []) (keeps_empty (schema_prefix at).tables _ _ made.1 empty) (made.2, tt), made.3)

-- an older version lacks it, and it is made over the others too
pub makes_stays : MakesAt 15 stays
unfolding everything
makes_stays = (refl, refl, refl, refl)

-- an older version lacks it, and it is made over the others too
pub makes_withdrawals : MakesAt 16 withdrawals
unfolding everything
makes_withdrawals = (refl, refl, refl, refl)

abbrev pub Next : ℕ → State → State → Type 0
Next at old new = (new.now.schema ≡ schema_prefix (at + 1)) × AreEmpty (take (at + 1) all_tables) new.now.trees × IsSound (schema_prefix (at + 1)) new.now.trees

-- a text that is executed in its turn leaves the next schema, and all its tables empty
pub create_next : (at : ℕ) → at < 17 → (old new : State) (count : ℕ) → old.now.schema ≡ schema_prefix at → AreEmpty (take at all_tables) old.now.trees
    → Executes (text_at at) [] old new (Ok count) → Next at old new
unfolding everything
create_next zero low = makes_next 0 people (refl, refl, refl, refl)
create_next (suc zero) low = makes_next 1 trainings (refl, refl, refl, refl)
create_next (suc (suc zero)) low = makes_next 2 appointments (refl, refl, refl, refl)
create_next (suc (suc (suc zero))) low = makes_next 3 boxes (refl, refl, refl, refl)
create_next (suc (suc (suc (suc zero)))) low = makes_next 4 safes (refl, refl, refl, refl)
create_next (suc (suc (suc (suc (suc zero))))) low = makes_next 5 bags (refl, refl, refl, refl)
create_next (suc (suc (suc (suc (suc (suc zero)))))) low = makes_next 6 items (refl, refl, refl, refl)
create_next (suc (suc (suc (suc (suc (suc (suc zero))))))) low = makes_next 7 ceremonies (refl, refl, refl, refl)
create_next (suc (suc (suc (suc (suc (suc (suc (suc zero)))))))) low = makes_next 8 marks (refl, refl, refl, refl)
create_next (suc (suc (suc (suc (suc (suc (suc (suc (suc zero))))))))) low = makes_next 9 steps (refl, refl, refl, refl)
create_next (suc (suc (suc (suc (suc (suc (suc (suc (suc (suc zero)))))))))) low = makes_next 10 seatings (refl, refl, refl, refl)
create_next (suc (suc (suc (suc (suc (suc (suc (suc (suc (suc (suc zero))))))))))) low = makes_next 11 sheet (refl, refl, refl, refl)
create_next (suc (suc (suc (suc (suc (suc (suc (suc (suc (suc (suc (suc zero)))))))))))) low = makes_next 12 exceptions (refl, refl, refl, refl)
create_next (suc (suc (suc (suc (suc (suc (suc (suc (suc (suc (suc (suc (suc zero))))))))))))) low = makes_next 13 versions (refl, refl, refl, refl)
create_next (suc (suc (suc (suc (suc (suc (suc (suc (suc (suc (suc (suc (suc (suc zero)))))))))))))) low = makes_next 14 keys (refl, refl, refl, refl)
create_next (suc (suc (suc (suc (suc (suc (suc (suc (suc (suc (suc (suc (suc (suc (suc zero))))))))))))))) low = makes_next 15 stays makes_stays
create_next (suc (suc (suc (suc (suc (suc (suc (suc (suc (suc (suc (suc (suc (suc (suc (suc zero)))))))))))))))) low =
    makes_next 16 withdrawals makes_withdrawals
create_next (suc (suc (suc (suc (suc (suc (suc (suc (suc (suc (suc (suc (suc (suc (suc (suc (suc at))))))))))))))))) low = absurd (omega arith)

-- Written by tools/tables.py from tools/table_list.py: do not edit.
-- If the rows of one table are changed, the other tables stay: said of all tables as a list.
use Rattle.std.proofs.Common.{◌≡◌, ◌≢◌, ℕ, zero, suc, Bool, true, not, ◌&&◌, ◌==◌, List, [], ◌∷◌, map, subst, rules}
use Rattle.std.specs.Bool.{⊤}
use Rattle.std.specs.List.{AllByRecursion, list_all}
use Rattle.std.proofs.lemmas.Bool.{and_parts, not-true}
use Rattle.sqlite.specs.{Edit.IsNoIndex, Order.Row, Tree.Trees}
use Rattle.sqlite_catalog.specs.Listing.{IsSound}
use Rattle.kcr_rows.specs.{Keyed.TableLayout, Keyed.TreeHolds, States.HasBoxNumber, States.HasSeatsText}
use Rattle.kcr_rows.proofs.TableLemmas.{keeps_still}
use Rattle.kcr_rows.specs.Rows.{person_row, training_row, appointment_row, box_row, safe_row, bag_row, item_row, key_row, stay_row, withdrawal_row}
use Rattle.kcr_rows.specs.Rows.{ceremony_row, mark_row, step_row, seating_row, sheet_row, exception_row, version_row}
use Rattle.kcr_tables.specs.Schema.{register_schema}
use Rattle.kcr_tables.specs.StoredTables.{StoredTables, TreesHold, people_place, trainings_place, appointments_place}
use Rattle.kcr_tables.specs.StoredTables.{boxes_place, safes_place, bags_place, items_place, ceremonies_place}
use Rattle.kcr_tables.specs.StoredTables.{marks_place, steps_place, seatings_place, sheet_place, exceptions_place}
use Rattle.kcr_tables.specs.StoredTables.{versions_place, keys_place, stays_place, withdrawals_place}

-- each table: where it lies, and its rows
abbrev pub placed_rows : StoredTables → List (TableLayout × List Row)
placed_rows t =
    (people_place, map person_row t.rows.people)
    ∷ (trainings_place, map training_row t.rows.trainings)
    ∷ (appointments_place, map appointment_row t.rows.appointments)
    ∷ (boxes_place, map box_row t.rows.boxes)
    ∷ (safes_place, map safe_row t.rows.safes)
    ∷ (bags_place, map bag_row t.rows.bags)
    ∷ (items_place, map item_row t.rows.items)
    ∷ (ceremonies_place, map ceremony_row t.rows.ceremonies)
    ∷ (marks_place, map mark_row t.rows.marks)
    ∷ (steps_place, map step_row t.rows.steps)
    ∷ (seatings_place, map seating_row t.rows.seatings)
    ∷ (sheet_place, map sheet_row t.rows.sheet)
    ∷ (exceptions_place, map exception_row t.rows.exceptions)
    ∷ (versions_place, map version_row t.versions)
    ∷ (keys_place, map key_row t.rows.keys)
    ∷ (stays_place, map stay_row t.rows.stays)
    ∷ (withdrawals_place, map withdrawal_row t.rows.withdrawals) ∷ []

-- each of these tables has its rows
abbrev pub AllHold : Trees → List (TableLayout × List Row) → Type 0
AllHold db [] = ⊤
AllHold db (table ∷ tables) = TreeHolds table.0 db table.1 × AllHold db tables

-- table N has these rows
abbrev pub HoldsAt : ℕ → Trees → List Row → List (TableLayout × List Row) → Type 0
HoldsAt at db rows [] = ⊤
HoldsAt zero db rows (table ∷ tables) = TreeHolds table.0 db rows
HoldsAt (suc at) db rows (table ∷ tables) = HoldsAt at db rows tables

-- these rows in table N
abbrev pub with_rows_at : ℕ → List Row → List (TableLayout × List Row) → List (TableLayout × List Row)
with_rows_at at rows [] = []
with_rows_at zero rows (table ∷ tables) = (table.0, rows) ∷ tables
with_rows_at (suc at) rows (table ∷ tables) = table ∷ with_rows_at at rows tables

-- the table lies in another tree than this one, which is no index
abbrev pub is_apart : ℕ → TableLayout × List Row → Bool
is_apart tree table = not (table.0.tree == tree) && list_all (λ i. not (i.tree == table.0.tree)) register_schema.indexes

-- so do all but table N
abbrev pub are_apart : ℕ → ℕ → List (TableLayout × List Row) → Bool
are_apart at tree [] = true
are_apart zero tree (table ∷ tables) = list_all (is_apart tree) tables
are_apart (suc at) tree (table ∷ tables) = is_apart tree table && are_apart at tree tables

-- the trees that are no index stay, but for this one
abbrev pub OthersStay : ℕ → Trees → Trees → Type 0
OthersStay tree old new = (other : ℕ) → other ≢ tree → IsNoIndex register_schema other → new other ≡ old other

stays : (tree : ℕ) (old new : Trees) → OthersStay tree old new → (table : TableLayout × List Row)
    → is_apart tree table ≡ true → TreeHolds table.0 old table.1 → TreeHolds table.0 new table.1
stays tree old new others table apart =
    let parts = and_parts _ _ apart in keeps_still register_schema tree table.0 old new table.1 others
    (not-true _ parts.0) parts.1

all_stay : (tree : ℕ) (old new : Trees) → OthersStay tree old new → (tables : List (TableLayout × List Row))
    → list_all (is_apart tree) tables ≡ true → AllHold old tables → AllHold new tables
all_stay tree old new others [] apart held = tt
all_stay tree old new others (table ∷ tables) apart held =
    let parts = and_parts _ _ apart in
    (stays tree old new others table parts.0 held.0, all_stay tree old new others tables parts.1 held.1)

one_changed : (tree : ℕ) (old new : Trees) → OthersStay tree old new
    → (at : ℕ) (rows : List Row) (tables : List (TableLayout × List Row)) → are_apart at tree tables ≡ true
    → HoldsAt at new rows tables → AllHold old tables → AllHold new (with_rows_at at rows tables)
one_changed tree old new others at rows [] apart changed held = tt
one_changed tree old new others zero rows (table ∷ tables) apart changed held =
    (changed, all_stay tree old new others tables apart held.1)
one_changed tree old new others (suc at) rows (table ∷ tables) apart changed held =
    let parts = and_parts _ _ apart in
    (stays tree old new others table parts.0 held.0, one_changed tree old new others at rows tables parts.1 changed held.1)

as_list : (db : Trees) (t : StoredTables) → TreesHold db t → AllHold db (placed_rows t)
as_list db t k = search (rules, k)

as_record : (db : Trees) (t : StoredTables) → IsSound register_schema db → AllHold db (placed_rows t)
    → AllByRecursion HasBoxNumber t.rows.bags → AllByRecursion HasSeatsText t.rows.steps → TreesHold db t
as_record db t sound h spot seats = search (rules, sound, h, spot, seats)

-- table N has new rows, and the other tables have their own as before
pub still_at : (at tree : ℕ) (old new : Trees) (before t : StoredTables) (rows : List Row)
    → with_rows_at at rows (placed_rows before) ≡ placed_rows t
    → are_apart at tree (placed_rows before) ≡ true → IsSound register_schema new
    → HoldsAt at new rows (placed_rows before)
    → OthersStay tree old new → TreesHold old before → AllByRecursion HasBoxNumber t.rows.bags
    → AllByRecursion HasSeatsText t.rows.steps → TreesHold new t
still_at at tree old new before t rows same apart sound changed others held spot seats =
    as_record new t sound
    (subst (AllHold new) same
    (one_changed tree old new others at rows (placed_rows before) apart changed
    (as_list old before held))) spot seats

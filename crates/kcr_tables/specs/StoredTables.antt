-- Written by tools/tables.py from tools/table_list.py: do not edit.
-- The database holds the tables of a register.
use Rattle.std.specs.Prelude.{◌≡◌, List, [], ◌∷◌, map}
use Rattle.std.specs.List.{AllByRecursion}
use Rattle.sqlite.specs.{Effect.Database, Tree.Trees}
use Rattle.sqlite_catalog.specs.Listing.{IsSound}
use Rattle.kcr_history.specs.Tables as machine
use Rattle.kcr_tables.specs.Schema.{register_schema}
use Rattle.kcr_rows.specs.{Keyed.TableLayout, Keyed.TreeHolds, declared.row_impls.Version.Version, States.HasBoxNumber, States.HasSeatsText}
use Rattle.kcr_rows.specs.Rows.{person_row, training_row, appointment_row, box_row, safe_row, bag_row, item_row, key_row, stay_row, withdrawal_row}
use Rattle.kcr_rows.specs.Rows.{ceremony_row, mark_row, step_row, seating_row, sheet_row, exception_row, version_row}

-- where each table lies

abbrev pub people_place : TableLayout
people_place = record { tree = 0; at = 1 ∷ 2 ∷ []; keys = 1 }

abbrev pub trainings_place : TableLayout
trainings_place = record { tree = 2; at = 1 ∷ 2 ∷ 3 ∷ 4 ∷ []; keys = 4 }

abbrev pub appointments_place : TableLayout
appointments_place = record { tree = 4; at = 1 ∷ 2 ∷ 3 ∷ 4 ∷ []; keys = 2 }

abbrev pub boxes_place : TableLayout
boxes_place = record { tree = 7; at = 1 ∷ 2 ∷ 3 ∷ []; keys = 2 }

abbrev pub safes_place : TableLayout
safes_place = record { tree = 9; at = 1 ∷ 2 ∷ 3 ∷ []; keys = 2 }

abbrev pub bags_place : TableLayout
bags_place = record { tree = 11; at = 1 ∷ 2 ∷ []; keys = 1 }

abbrev pub items_place : TableLayout
items_place = record { tree = 13; at = 1 ∷ 2 ∷ 3 ∷ []; keys = 1 }

abbrev pub ceremonies_place : TableLayout
ceremonies_place = record { tree = 16; at = 1 ∷ 2 ∷ 3 ∷ 4 ∷ 5 ∷ 6 ∷ []; keys = 1 }

abbrev pub marks_place : TableLayout
marks_place = record { tree = 18; at = 1 ∷ 2 ∷ []; keys = 1 }

abbrev pub steps_place : TableLayout
steps_place = record { tree = 20; at = 1 ∷ 2 ∷ 3 ∷ 4 ∷ 5 ∷ 6 ∷ []; keys = 2 }

abbrev pub seatings_place : TableLayout
seatings_place = record { tree = 22; at = 1 ∷ 2 ∷ 3 ∷ 4 ∷ []; keys = 3 }

abbrev pub sheet_place : TableLayout
sheet_place = record { tree = 24; at = 1 ∷ 2 ∷ 3 ∷ 4 ∷ []; keys = 2 }

abbrev pub exceptions_place : TableLayout
exceptions_place = record { tree = 26; at = 1 ∷ 2 ∷ 3 ∷ 4 ∷ 5 ∷ []; keys = 2 }

abbrev pub versions_place : TableLayout
versions_place = record { tree = 28; at = 1 ∷ []; keys = 1 }

abbrev pub keys_place : TableLayout
keys_place = record { tree = 30; at = 1 ∷ 0 ∷ 3 ∷ 4 ∷ []; keys = 1 }

abbrev pub stays_place : TableLayout
stays_place = record { tree = 32; at = 1 ∷ 2 ∷ 3 ∷ 4 ∷ []; keys = 2 }

abbrev pub withdrawals_place : TableLayout
withdrawals_place = record { tree = 35; at = 1 ∷ 2 ∷ 3 ∷ 4 ∷ 5 ∷ []; keys = 4 }

-- the rows of each table, in the order of their keys: those of the machine's tables, and what is beside them
pub record StoredTables : Type 0 where
  pub rows : machine.Tables
  pub versions : List Version

-- what the trees of a file hold
pub record TreesHold (db : Trees) (t : StoredTables) : Type 0 where
  -- the catalog lists this schema, by which the file is read again
  pub sound : IsSound register_schema db
  pub people : TreeHolds people_place db (map person_row t.rows.people)
  pub trainings : TreeHolds trainings_place db (map training_row t.rows.trainings)
  pub appointments : TreeHolds appointments_place db (map appointment_row t.rows.appointments)
  pub boxes : TreeHolds boxes_place db (map box_row t.rows.boxes)
  pub safes : TreeHolds safes_place db (map safe_row t.rows.safes)
  pub bags : TreeHolds bags_place db (map bag_row t.rows.bags)
  pub items : TreeHolds items_place db (map item_row t.rows.items)
  pub ceremonies : TreeHolds ceremonies_place db (map ceremony_row t.rows.ceremonies)
  pub marks : TreeHolds marks_place db (map mark_row t.rows.marks)
  pub steps : TreeHolds steps_place db (map step_row t.rows.steps)
  pub seatings : TreeHolds seatings_place db (map seating_row t.rows.seatings)
  pub sheet : TreeHolds sheet_place db (map sheet_row t.rows.sheet)
  pub exceptions : TreeHolds exceptions_place db (map exception_row t.rows.exceptions)
  pub versions : TreeHolds versions_place db (map version_row t.versions)
  pub keys : TreeHolds keys_place db (map key_row t.rows.keys)
  pub stays : TreeHolds stays_place db (map stay_row t.rows.stays)
  pub withdrawals : TreeHolds withdrawals_place db (map withdrawal_row t.rows.withdrawals)
  -- what is known of the values that were put, beside their rows
  pub spot : AllByRecursion HasBoxNumber t.rows.bags
  pub seats : AllByRecursion HasSeatsText t.rows.steps

-- the database has the register's schema and these rows, and no others
pub record Holds (db : Database) (t : StoredTables) : Type 0 where
  pub schema : db.schema ≡ register_schema
  pub kept : TreesHold db.trees t

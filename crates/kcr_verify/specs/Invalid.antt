-- An invalid row of a register, by its table and its key.
use Rattle.std.specs.Prelude.{◌≡◌, ℕ, List, length, map, take}
use Rattle.std.specs.{List.range_with_len, Str.Lossy.utf8_lossy}
use Rattle.sqlite.specs.{Order.Row, Order.column, Tree.Trees}
use Rattle.kcr_rows.specs.{Keyed.TableLayout, declared.kinds.Kind.Kind}
use Rattle.kcr_rows.specs.Kinds.{person_kinds, training_kinds, withdrawal_kinds, appointment_kinds, box_kinds}
use Rattle.kcr_rows.specs.Kinds.{safe_kinds, bag_kinds, item_kinds, ceremony_kinds, mark_kinds, step_kinds}
use Rattle.kcr_rows.specs.Kinds.{seating_kinds, sheet_kinds, stay_kinds, exception_kinds, key_kinds}
use Rattle.kcr_tables.specs.Exact.{rows_at}
use Rattle.kcr_tables.specs.StoredTables.{people_place, trainings_place, appointments_place, boxes_place, safes_place}
use Rattle.kcr_tables.specs.StoredTables.{bags_place, items_place, ceremonies_place, marks_place, steps_place, withdrawals_place}
use Rattle.kcr_tables.specs.StoredTables.{seatings_place, sheet_place, exceptions_place, keys_place, stays_place}
use Rattle.kcr_validity.specs.Rows.{IsInvalidOf}
use Rattle.kcr_verify.specs.{Quoted.row_text, declared.compare.TableName.TableName, declared.invalid.InvalidRow.InvalidRow}
use Rattle.kcr_verify.specs.declared.compare.TableName.TheVariants.{People, Trainings, Withdrawals, Appointments, Boxes}
use Rattle.kcr_verify.specs.declared.compare.TableName.TheVariants.{Safes, Bags, Items, Ceremonies, Marks, Steps, Seatings}
use Rattle.kcr_verify.specs.declared.compare.TableName.TheVariants.{Sheet, Stays, Exceptions, Keys}

-- the first cells of a row
abbrev pub first_cells : ℕ → Row → Row
first_cells count row = map (column row) (range_with_len 0 count)

-- the key of a row as sqlite3 prints it, by what the cells of its columns are
abbrev pub key_text : List Kind → Row → List ℕ
key_text kinds row = utf8_lossy (row_text kinds (first_cells (length kinds) row))

-- where a table lies, and what its cells are
pub record Searched : Type 0 where
  pub place : TableLayout
  pub kinds : List Kind

-- what the cells of its key are
abbrev pub kinds_of_key : Searched → List Kind
kinds_of_key table = take table.place.keys table.kinds

-- begin: written by tools/tables.py

-- of each table
abbrev pub searched : TableName → Searched
searched People = record { place = people_place; kinds = person_kinds }
searched Trainings = record { place = trainings_place; kinds = training_kinds }
searched Withdrawals = record { place = withdrawals_place; kinds = withdrawal_kinds }
searched Appointments = record { place = appointments_place; kinds = appointment_kinds }
searched Boxes = record { place = boxes_place; kinds = box_kinds }
searched Safes = record { place = safes_place; kinds = safe_kinds }
searched Bags = record { place = bags_place; kinds = bag_kinds }
searched Items = record { place = items_place; kinds = item_kinds }
searched Ceremonies = record { place = ceremonies_place; kinds = ceremony_kinds }
searched Marks = record { place = marks_place; kinds = mark_kinds }
searched Steps = record { place = steps_place; kinds = step_kinds }
searched Seatings = record { place = seatings_place; kinds = seating_kinds }
searched Sheet = record { place = sheet_place; kinds = sheet_kinds }
searched Stays = record { place = stays_place; kinds = stay_kinds }
searched Exceptions = record { place = exceptions_place; kinds = exception_kinds }
searched Keys = record { place = keys_place; kinds = key_kinds }

-- end: written by tools/tables.py

-- the table has an invalid row with this key
pub record IsInvalidIn (db : Trees) (found : InvalidRow) : Type 0 where
  pub row : Row
  pub is : IsInvalidOf (searched found.table).kinds (rows_at (searched found.table).place db) row
  pub key : found.key ≡ key_text (kinds_of_key (searched found.table)) row

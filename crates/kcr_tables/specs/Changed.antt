-- Written by tools/tables.py from tools/table_list.py: do not edit.
-- What a change makes of the tables.
use Rattle.std.specs.Prelude.{List, fold}
use Rattle.kcr_rows.specs.Keyed.{put_in}
use Rattle.kcr_rows.specs.Rows.{person_row, training_row, appointment_row, box_row, safe_row, bag_row, item_row, stay_row, withdrawal_row}
use Rattle.kcr_rows.specs.Rows.{ceremony_row, mark_row, step_row, seating_row, sheet_row, exception_row, key_row}
use Rattle.kcr_history.specs.Tables as machine
use Rattle.kcr_tables.specs.StoredTables.{StoredTables}
use Rattle.kcr_history.specs.declared.views.Change.{Change}
use Rattle.kcr_history.specs.declared.views.Change.TheVariants.{PutPerson, PutTraining, PutAppointment, PutBox, PutSafe}
use Rattle.kcr_history.specs.declared.views.Change.TheVariants.{PutBag, PutItem, PutCeremony, PutMark, PutStep, PutWithdrawal}
use Rattle.kcr_history.specs.declared.views.Change.TheVariants.{PutSeating, PutSheet, PutException, PutKey, PutStay}

-- the rows after a change: its row is put into its table, under its key
abbrev pub rows_after : Change → machine.Tables → machine.Tables
rows_after (PutPerson x) m = record m { people = put_in 1 person_row x m.people }
rows_after (PutTraining x) m = record m { trainings = put_in 4 training_row x m.trainings }
rows_after (PutAppointment x) m = record m { appointments = put_in 2 appointment_row x m.appointments }
rows_after (PutBox x) m = record m { boxes = put_in 2 box_row x m.boxes }
rows_after (PutSafe x) m = record m { safes = put_in 2 safe_row x m.safes }
rows_after (PutBag x) m = record m { bags = put_in 1 bag_row x m.bags }
rows_after (PutItem x) m = record m { items = put_in 1 item_row x m.items }
rows_after (PutCeremony x) m = record m { ceremonies = put_in 1 ceremony_row x m.ceremonies }
rows_after (PutMark x) m = record m { marks = put_in 1 mark_row x m.marks }
rows_after (PutStep x) m = record m { steps = put_in 2 step_row x m.steps }
rows_after (PutSeating x) m = record m { seatings = put_in 3 seating_row x m.seatings }
rows_after (PutSheet x) m = record m { sheet = put_in 2 sheet_row x m.sheet }
rows_after (PutException x) m = record m { exceptions = put_in 2 exception_row x m.exceptions }
rows_after (PutKey x) m = record m { keys = put_in 1 key_row x m.keys }
rows_after (PutStay x) m = record m { stays = put_in 2 stay_row x m.stays }
rows_after (PutWithdrawal x) m = record m { withdrawals = put_in 4 withdrawal_row x m.withdrawals }

-- the tables after it: what is beside the rows stays
abbrev pub changed : Change → StoredTables → StoredTables
changed change t = record t { rows = rows_after change t.rows }

-- after one change after the other
abbrev pub changed_all : List Change → StoredTables → StoredTables
changed_all changes t = record t { rows = fold (λ rows c. rows_after c rows) t.rows changes }

-- What a change makes of the tables: one whole row is put under its key.
use Rattle.std.specs.Prelude.{◌==◌, Bool, ◌&&◌, List, [], ◌∷◌}
use Rattle.kcr_base.specs.{Rows.put, Same.same_text, Same.same_place, Same.same_facility}
use Rattle.kcr_people.specs.{declared.Person.Person, declared.Appointment.Appointment, People.same_training, Laws.same_withdrawn}
use Rattle.kcr_custody.specs.{declared.SafeRow.SafeRow, Custody.same_safe, Balance.same_box, Balance.same_bag, Balance.same_item}
use Rattle.kcr_room.specs.declared.{SheetRow.SheetRow, Stay.Stay}
use Rattle.kcr_history.specs.declared.{row_types.CeremonyRow.CeremonyRow, row_types.ExceptionRow.ExceptionRow, views.Change.Change}
use Rattle.kcr_history.specs.declared.row_types.{MarkRow.MarkRow, KeyRow.KeyRow, StepRow.StepRow, SeatingRow.SeatingRow}
use Rattle.kcr_history.specs.declared.views.Change.TheVariants.{PutPerson, PutTraining, PutWithdrawal, PutAppointment}
use Rattle.kcr_history.specs.declared.views.Change.TheVariants.{PutBox, PutSafe, PutBag, PutItem, PutCeremony, PutMark}
use Rattle.kcr_history.specs.declared.views.Change.TheVariants.{PutStep, PutSeating, PutSheet, PutStay, PutException, PutKey}
use Rattle.kcr_history.specs.Tables.{Tables}

-- ROWS OF ONE KEY: a new row, and one that was there

abbrev pub same_person : Person → Person → Bool
same_person new old = same_text old.who new.who

abbrev pub same_appointment : Appointment → Appointment → Bool
same_appointment new old = same_place old.place new.place && old.since == new.since

abbrev pub same_safe_row : SafeRow → SafeRow → Bool
same_safe_row new old = same_facility old.facility new.facility && same_safe old.safe new.safe

abbrev pub same_ceremony : CeremonyRow → CeremonyRow → Bool
same_ceremony new old = old.number == new.number

abbrev pub same_mark : MarkRow → MarkRow → Bool
same_mark new old = old.ceremony == new.ceremony

abbrev pub same_step : StepRow → StepRow → Bool
same_step new old = old.ceremony == new.ceremony && old.step == new.step

abbrev pub same_seating : SeatingRow → SeatingRow → Bool
same_seating new old = old.ceremony == new.ceremony && old.step == new.step && old.seat == new.seat

abbrev pub same_sheet_row : SheetRow → SheetRow → Bool
same_sheet_row new old = same_text old.who new.who && old.at == new.at

abbrev pub same_stay : Stay → Stay → Bool
same_stay new old = same_text old.who new.who && old.since == new.since

abbrev pub same_exception : ExceptionRow → ExceptionRow → Bool
same_exception new old = old.ceremony == new.ceremony && old.exception == new.exception

abbrev pub same_key_row : KeyRow → KeyRow → Bool
same_key_row new old = same_text old.key new.key

-- CHANGES

-- begin: written by tools/tables.py

-- the row under its key, new or in place of the old; all other rows and tables stay
abbrev pub changed : Change → Tables → Tables
changed (PutPerson row) t = record t { people = put same_person row t.people }
changed (PutTraining row) t = record t { trainings = put same_training row t.trainings }
changed (PutWithdrawal row) t = record t { withdrawals = put same_withdrawn row t.withdrawals }
changed (PutAppointment row) t = record t { appointments = put same_appointment row t.appointments }
changed (PutBox row) t = record t { boxes = put same_box row t.boxes }
changed (PutSafe row) t = record t { safes = put same_safe_row row t.safes }
changed (PutBag row) t = record t { bags = put same_bag row t.bags }
changed (PutItem row) t = record t { items = put same_item row t.items }
changed (PutCeremony row) t = record t { ceremonies = put same_ceremony row t.ceremonies }
changed (PutMark row) t = record t { marks = put same_mark row t.marks }
changed (PutStep row) t = record t { steps = put same_step row t.steps }
changed (PutSeating row) t = record t { seatings = put same_seating row t.seatings }
changed (PutSheet row) t = record t { sheet = put same_sheet_row row t.sheet }
changed (PutStay row) t = record t { stays = put same_stay row t.stays }
changed (PutException row) t = record t { exceptions = put same_exception row t.exceptions }
changed (PutKey row) t = record t { keys = put same_key_row row t.keys }

-- end: written by tools/tables.py

-- the changes one after the other
abbrev pub all_changed : List Change → Tables → Tables
all_changed [] t = t
all_changed (change ∷ changes) t = all_changed changes (changed change t)

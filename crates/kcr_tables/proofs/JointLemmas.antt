-- Written by tools/tables.py from tools/table_list.py: do not edit.
-- How the rows in the order of their keys meet the machine's rows, which stand in any order.
use Rattle.std.proofs.Common.{rules, ◌≡◌, ◌&&◌, ℕ, List, [], ◌∷◌, map, drop, pos, refl, ◌∙◌, IsPermutation, Less}
use Rattle.std.specs.Ordering.{is_eq}
use Rattle.std.proofs.lemmas.List.Sorted.{IsPermutation-refl, IsPermutation-sym, IsPermutation-trans}
use Rattle.sqlite.specs.declared.types.Value.TheVariants.{Int, Text}
use Rattle.sqlite.specs.{Order.Row, Effect.Database, Tree.Trees, Tree.IsAscending}
use Rattle.kcr_history.specs.declared.{views.Change.Change, row_types.CeremonyRow.CeremonyRow, row_types.ExceptionRow.ExceptionRow}
use Rattle.kcr_history.specs.declared.views.Change.TheVariants.{PutPerson, PutTraining, PutAppointment, PutBox, PutSafe, PutBag, PutItem, PutCeremony, PutMark}
use Rattle.kcr_history.specs.declared.views.Change.TheVariants.{PutStep, PutSeating, PutSheet, PutException, PutKey, PutStay, PutWithdrawal}
use Rattle.kcr_history.specs.Tables as machine
use Rattle.kcr_history.specs.Changes as changes
use Rattle.kcr_history.specs.Changes.{same_person, same_appointment, same_safe_row, same_ceremony, same_mark, same_step, same_seating, same_sheet_row}
use Rattle.kcr_history.specs.Changes.{same_exception, same_key_row, same_stay}
use Rattle.kcr_people.specs.{People.same_training, Laws.same_withdrawn}
use Rattle.kcr_custody.specs.Balance.{same_box, same_bag, same_item}
use Rattle.kcr_base.specs.{Role.role_text, Place.place_text, Facility.facility_text}
use Rattle.kcr_rows.specs.{States.safe_digit, Keyed.by_key}
use Rattle.kcr_rows.proofs.{OrderLemmas.put-stands, OrderLemmas.put_in_rising, SameLemmas.turned, StateLemmas.safe_ties}
use Rattle.kcr_rows.proofs.SameLemmas.{text_ties, number_ties, facility_ties, role_ties, place_ties, one_column, two_columns, three_columns, four_columns}
use Rattle.kcr_rows.specs.Rows.{person_row, training_row, appointment_row, box_row, safe_row, bag_row, item_row, ceremony_row, mark_row, step_row, seating_row}
use Rattle.kcr_rows.specs.Rows.{sheet_row, exception_row, key_row, stay_row, withdrawal_row}
use Rattle.kcr_people.specs.declared.{Person.Person, Training.Training, Appointment.Appointment, Withdrawal.Withdrawal}
use Rattle.kcr_custody.specs.declared.{BoxRow.BoxRow, SafeRow.SafeRow, Bag.Bag, Item.Item}
use Rattle.kcr_history.specs.declared.row_types.{MarkRow.MarkRow, KeyRow.KeyRow, StepRow.StepRow, SeatingRow.SeatingRow}
use Rattle.kcr_room.specs.declared.{SheetRow.SheetRow, Stay.Stay}
use Rattle.kcr_tables.specs.StoredTables.{StoredTables, TreesHold, Holds}
use Rattle.kcr_tables.specs.{NewTables.new_tables, Changed.rows_after, Changed.changed, Changed.changed_all}
use Rattle.kcr_tables.specs.MachineTables.{SameRows, TreesHoldTables, HoldsTables}
use Rattle.kcr_tables.proofs.HoldLemmas.{tables_of}

-- ---- two rows of one key, by the machine's tests

-- the machine's test of two rows of `people` is a tie of their keys
pub key_of_people : (new old : Person) → same_person new old ≡ is_eq (by_key 1 (person_row old) (person_row new))
key_of_people new old = text_ties old.who new.who ∙ one_column (Text old.who) (Text new.who) (drop 1 (person_row old)) (drop 1 (person_row new))

-- the machine's test of two rows of `trainings` is a tie of their keys
pub key_of_trainings : (new old : Training) → same_training new old ≡ is_eq (by_key 4 (training_row old) (training_row new))
key_of_trainings new old =
    (λ i. text_ties new.who old.who i && role_ties new.role old.role i && number_ties new.since old.since i && number_ties new.until old.until i)
    ∙ four_columns (Text new.who) (Text (role_text new.role)) (Int (pos new.since)) (Int (pos new.until)) (Text old.who) (Text (role_text old.role))
    (Int (pos old.since)) (Int (pos old.until)) (drop 4 (training_row new)) (drop 4 (training_row old)) ∙ turned 4 (training_row new) (training_row old)

-- the machine's test of two rows of `appointments` is a tie of their keys
pub key_of_appointments : (new old : Appointment) → same_appointment new old ≡ is_eq (by_key 2 (appointment_row old) (appointment_row new))
key_of_appointments new old = (λ i. place_ties old.place new.place i && number_ties old.since new.since i)
    ∙ two_columns (Text (place_text old.place)) (Int (pos old.since)) (Text (place_text new.place)) (Int (pos new.since)) (drop 2 (appointment_row old))
    (drop 2 (appointment_row new))

-- the machine's test of two rows of `boxes` is a tie of their keys
pub key_of_boxes : (new old : BoxRow) → same_box new old ≡ is_eq (by_key 2 (box_row old) (box_row new))
key_of_boxes new old = (λ i. facility_ties old.facility new.facility i && number_ties old.number new.number i)
    ∙ two_columns (Text (facility_text old.facility)) (Int (pos old.number)) (Text (facility_text new.facility)) (Int (pos new.number)) (drop 2 (box_row old))
    (drop 2 (box_row new))

-- the machine's test of two rows of `safes` is a tie of their keys
pub key_of_safes : (new old : SafeRow) → same_safe_row new old ≡ is_eq (by_key 2 (safe_row old) (safe_row new))
key_of_safes new old = (λ i. facility_ties old.facility new.facility i && safe_ties old.safe new.safe i)
    ∙ two_columns (Text (facility_text old.facility)) (Int (pos (safe_digit old.safe))) (Text (facility_text new.facility)) (Int (pos (safe_digit new.safe)))
    (drop 2 (safe_row old)) (drop 2 (safe_row new))

-- the machine's test of two rows of `bags` is a tie of their keys
pub key_of_bags : (new old : Bag) → same_bag new old ≡ is_eq (by_key 1 (bag_row old) (bag_row new))
key_of_bags new old = text_ties old.serial new.serial ∙ one_column (Text old.serial) (Text new.serial) (drop 1 (bag_row old)) (drop 1 (bag_row new))

-- the machine's test of two rows of `items` is a tie of their keys
pub key_of_items : (new old : Item) → same_item new old ≡ is_eq (by_key 1 (item_row old) (item_row new))
key_of_items new old = text_ties old.code new.code ∙ one_column (Text old.code) (Text new.code) (drop 1 (item_row old)) (drop 1 (item_row new))

-- the machine's test of two rows of `ceremonies` is a tie of their keys
pub key_of_ceremonies : (new old : CeremonyRow) → same_ceremony new old ≡ is_eq (by_key 1 (ceremony_row old) (ceremony_row new))
key_of_ceremonies new old = number_ties old.number new.number
    ∙ one_column (Int (pos old.number)) (Int (pos new.number)) (drop 1 (ceremony_row old)) (drop 1 (ceremony_row new))

-- the machine's test of two rows of `marks` is a tie of their keys
pub key_of_marks : (new old : MarkRow) → same_mark new old ≡ is_eq (by_key 1 (mark_row old) (mark_row new))
key_of_marks new old = number_ties old.ceremony new.ceremony
    ∙ one_column (Int (pos old.ceremony)) (Int (pos new.ceremony)) (drop 1 (mark_row old)) (drop 1 (mark_row new))

-- the machine's test of two rows of `steps` is a tie of their keys
pub key_of_steps : (new old : StepRow) → same_step new old ≡ is_eq (by_key 2 (step_row old) (step_row new))
key_of_steps new old = (λ i. number_ties old.ceremony new.ceremony i && number_ties old.step new.step i)
    ∙ two_columns (Int (pos old.ceremony)) (Int (pos old.step)) (Int (pos new.ceremony)) (Int (pos new.step)) (drop 2 (step_row old)) (drop 2 (step_row new))

-- the machine's test of two rows of `seatings` is a tie of their keys
pub key_of_seatings : (new old : SeatingRow) → same_seating new old ≡ is_eq (by_key 3 (seating_row old) (seating_row new))
key_of_seatings new old = (λ i. number_ties old.ceremony new.ceremony i && number_ties old.step new.step i && number_ties old.seat new.seat i)
    ∙ three_columns (Int (pos old.ceremony)) (Int (pos old.step)) (Int (pos old.seat)) (Int (pos new.ceremony)) (Int (pos new.step)) (Int (pos new.seat))
    (drop 3 (seating_row old)) (drop 3 (seating_row new))

-- the machine's test of two rows of `sheet` is a tie of their keys
pub key_of_sheet : (new old : SheetRow) → same_sheet_row new old ≡ is_eq (by_key 2 (sheet_row old) (sheet_row new))
key_of_sheet new old = (λ i. text_ties old.who new.who i && number_ties old.at new.at i)
    ∙ two_columns (Text old.who) (Int (pos old.at)) (Text new.who) (Int (pos new.at)) (drop 2 (sheet_row old)) (drop 2 (sheet_row new))

-- the machine's test of two rows of `exceptions` is a tie of their keys
pub key_of_exceptions : (new old : ExceptionRow) → same_exception new old ≡ is_eq (by_key 2 (exception_row old) (exception_row new))
key_of_exceptions new old = (λ i. number_ties old.ceremony new.ceremony i && number_ties old.exception new.exception i)
    ∙ two_columns (Int (pos old.ceremony)) (Int (pos old.exception)) (Int (pos new.ceremony)) (Int (pos new.exception)) (drop 2 (exception_row old))
    (drop 2 (exception_row new))

-- the machine's test of two rows of `keys` is a tie of their keys
pub key_of_keys : (new old : KeyRow) → same_key_row new old ≡ is_eq (by_key 1 (key_row old) (key_row new))
key_of_keys new old = text_ties old.key new.key ∙ one_column (Text old.key) (Text new.key) (drop 1 (key_row old)) (drop 1 (key_row new))

-- the machine's test of two rows of `stays` is a tie of their keys
pub key_of_stays : (new old : Stay) → same_stay new old ≡ is_eq (by_key 2 (stay_row old) (stay_row new))
key_of_stays new old = (λ i. text_ties old.who new.who i && number_ties old.since new.since i)
    ∙ two_columns (Text old.who) (Int (pos old.since)) (Text new.who) (Int (pos new.since)) (drop 2 (stay_row old)) (drop 2 (stay_row new))

-- the machine's test of two rows of `withdrawals` is a tie of their keys
pub key_of_withdrawals : (new old : Withdrawal) → same_withdrawn new old ≡ is_eq (by_key 4 (withdrawal_row old) (withdrawal_row new))
key_of_withdrawals new old =
    (λ i. text_ties old.who new.who i && role_ties old.role new.role i && number_ties old.since new.since i && number_ties old.until new.until i)
    ∙ four_columns (Text old.who) (Text (role_text old.role)) (Int (pos old.since)) (Int (pos old.until)) (Text new.who) (Text (role_text new.role))
    (Int (pos new.since)) (Int (pos new.until)) (drop 4 (withdrawal_row old)) (drop 4 (withdrawal_row new))

-- ---- changes

-- the rows of values rise by the first N columns
abbrev pub Rise : {X : Type 0} → ℕ → (X → Row) → List X → Type 0
Rise keys row_of xs = IsAscending (λ a b. by_key keys a b ≡ Less) (map row_of xs)

-- those of each table do
pub record Rises (t : machine.Tables) : Type 0 where
  pub people : Rise 1 person_row t.people
  pub trainings : Rise 4 training_row t.trainings
  pub appointments : Rise 2 appointment_row t.appointments
  pub boxes : Rise 2 box_row t.boxes
  pub safes : Rise 2 safe_row t.safes
  pub bags : Rise 1 bag_row t.bags
  pub items : Rise 1 item_row t.items
  pub ceremonies : Rise 1 ceremony_row t.ceremonies
  pub marks : Rise 1 mark_row t.marks
  pub steps : Rise 2 step_row t.steps
  pub seatings : Rise 3 seating_row t.seatings
  pub sheet : Rise 2 sheet_row t.sheet
  pub exceptions : Rise 2 exception_row t.exceptions
  pub keys : Rise 1 key_row t.keys
  pub stays : Rise 2 stay_row t.stays
  pub withdrawals : Rise 4 withdrawal_row t.withdrawals

-- the rows that trees hold rise by their keys
pub kept_rises : (db : Trees) (t : StoredTables) → TreesHold db t → Rises t.rows
kept_rises db t k = search rules

after_rises : (c : Change) (t : machine.Tables) → Rises t → Rises (rows_after c t)
after_rises (PutPerson row) t r = search (rules, put_in_rising 1 person_row row t.people r.people)
after_rises (PutTraining row) t r = search (rules, put_in_rising 4 training_row row t.trainings r.trainings)
after_rises (PutAppointment row) t r = search (rules, put_in_rising 2 appointment_row row t.appointments r.appointments)
after_rises (PutBox row) t r = search (rules, put_in_rising 2 box_row row t.boxes r.boxes)
after_rises (PutSafe row) t r = search (rules, put_in_rising 2 safe_row row t.safes r.safes)
after_rises (PutBag row) t r = search (rules, put_in_rising 1 bag_row row t.bags r.bags)
after_rises (PutItem row) t r = search (rules, put_in_rising 1 item_row row t.items r.items)
after_rises (PutCeremony row) t r = search (rules, put_in_rising 1 ceremony_row row t.ceremonies r.ceremonies)
after_rises (PutMark row) t r = search (rules, put_in_rising 1 mark_row row t.marks r.marks)
after_rises (PutStep row) t r = search (rules, put_in_rising 2 step_row row t.steps r.steps)
after_rises (PutSeating row) t r = search (rules, put_in_rising 3 seating_row row t.seatings r.seatings)
after_rises (PutSheet row) t r = search (rules, put_in_rising 2 sheet_row row t.sheet r.sheet)
after_rises (PutException row) t r = search (rules, put_in_rising 2 exception_row row t.exceptions r.exceptions)
after_rises (PutKey row) t r = search (rules, put_in_rising 1 key_row row t.keys r.keys)
after_rises (PutStay row) t r = search (rules, put_in_rising 2 stay_row row t.stays r.stays)
after_rises (PutWithdrawal row) t r = search (rules, put_in_rising 4 withdrawal_row row t.withdrawals r.withdrawals)

-- one change: its table's rows are those of the machine, in another order
after_same : (c : Change) (m t : machine.Tables) → Rises t → machine.SameTables m t → machine.SameTables (changes.changed c m) (rows_after c t)
after_same (PutPerson row) m t r s = search (rules, put-stands 1 person_row same_person key_of_people row m.people t.people r.people s.people)
after_same (PutTraining row) m t r s = search
    (rules, put-stands 4 training_row same_training key_of_trainings row m.trainings t.trainings r.trainings s.trainings)
after_same (PutAppointment row) m t r s = search
    (rules, put-stands 2 appointment_row same_appointment key_of_appointments row m.appointments t.appointments r.appointments s.appointments)
after_same (PutBox row) m t r s = search (rules, put-stands 2 box_row same_box key_of_boxes row m.boxes t.boxes r.boxes s.boxes)
after_same (PutSafe row) m t r s = search (rules, put-stands 2 safe_row same_safe_row key_of_safes row m.safes t.safes r.safes s.safes)
after_same (PutBag row) m t r s = search (rules, put-stands 1 bag_row same_bag key_of_bags row m.bags t.bags r.bags s.bags)
after_same (PutItem row) m t r s = search (rules, put-stands 1 item_row same_item key_of_items row m.items t.items r.items s.items)
after_same (PutCeremony row) m t r s = search
    (rules, put-stands 1 ceremony_row same_ceremony key_of_ceremonies row m.ceremonies t.ceremonies r.ceremonies s.ceremonies)
after_same (PutMark row) m t r s = search (rules, put-stands 1 mark_row same_mark key_of_marks row m.marks t.marks r.marks s.marks)
after_same (PutStep row) m t r s = search (rules, put-stands 2 step_row same_step key_of_steps row m.steps t.steps r.steps s.steps)
after_same (PutSeating row) m t r s = search (rules, put-stands 3 seating_row same_seating key_of_seatings row m.seatings t.seatings r.seatings s.seatings)
after_same (PutSheet row) m t r s = search (rules, put-stands 2 sheet_row same_sheet_row key_of_sheet row m.sheet t.sheet r.sheet s.sheet)
after_same (PutException row) m t r s = search
    (rules, put-stands 2 exception_row same_exception key_of_exceptions row m.exceptions t.exceptions r.exceptions s.exceptions)
after_same (PutKey row) m t r s = search (rules, put-stands 1 key_row same_key_row key_of_keys row m.keys t.keys r.keys s.keys)
after_same (PutStay row) m t r s = search (rules, put-stands 2 stay_row same_stay key_of_stays row m.stays t.stays r.stays s.stays)
after_same (PutWithdrawal row) m t r s = search
    (rules, put-stands 4 withdrawal_row same_withdrawn key_of_withdrawals row m.withdrawals t.withdrawals r.withdrawals s.withdrawals)

-- the changes one after the other
pub all_stand : (list : List Change) (m : machine.Tables) (t : StoredTables) → Rises t.rows → SameRows m t
    → SameRows (changes.all_changed list m) (changed_all list t)
all_stand [] m t r s = s
all_stand (c ∷ more) m t r s =
    all_stand more (changes.changed c m) (changed c t) (after_rises c t.rows r) (record { rows = after_same c m t.rows r s.rows; versions = s.versions })

-- ---- what the store holds

-- a database that holds the rows after some changes holds the tables after them
pub changes_hold : (list : List Change) (m : machine.Tables) (old new : Database) (h : HoldsTables m old) → Holds new (changed_all list h.tables.t)
    → HoldsTables (changes.all_changed list m) new
changes_hold list m old new h held =
    tables_of (changes.all_changed list m) new (changed_all list h.tables.t)
    (all_stand list m h.tables.t (kept_rises old.trees h.tables.t h.tables.kept) h.tables.stands) held

same_itself : (t : machine.Tables) → machine.SameTables t t
same_itself t = search (rules, IsPermutation-refl)

-- a database of the new tables holds those of an empty history
pub first_holds : (db : Database) → Holds db new_tables → HoldsTables (machine.tables []) db
first_holds db held = tables_of (machine.tables []) db new_tables (record { rows = same_itself (machine.tables []); versions = refl }) held

-- ---- the same rows in another order

of_both : {X : Type 0} {xs ys zs : List X} → IsPermutation xs ys → IsPermutation xs zs → IsPermutation ys zs
of_both p q = IsPermutation-trans _ _ _ (IsPermutation-sym _ _ p) q

-- stored rows are those of any tables with the same rows
pub same_stands : (m n : machine.Tables) (t : StoredTables) → machine.SameTables m n → SameRows m t → SameRows n t
same_stands m n t same s = search (rules, of_both)

-- trees that hold some tables hold any with the same rows
pub same_keeps : (m n : machine.Tables) (db : Trees) → machine.SameTables m n → TreesHoldTables m db → TreesHoldTables n db
same_keeps m n db same h = record { t = h.t; kept = h.kept; stands = same_stands m n h.t same h.stands }

-- a database that holds some tables holds any with the same rows
pub same_holds : (m n : machine.Tables) (db : Database) → machine.SameTables m n → HoldsTables m db → HoldsTables n db
same_holds m n db same h = record { schema = h.schema; tables = same_keeps m n db.trees same h.tables }

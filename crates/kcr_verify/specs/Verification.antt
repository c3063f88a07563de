-- What a verification of a register's tables says.
use Rattle.std.specs.Prelude.{◌≡◌, ◌≢◌, ◌⊎◌, ℕ, ◌+◌, List, [], ◌∷◌, ◌++◌, Result, false, Option, None, Some, IfOk, IfErr}
use Rattle.std.specs.Prelude.{IsPermutation, MatchOption, length, map, reverse, codes}
use Rattle.std.specs.{declared.cmp.Ordering.Ordering, Ordering.nat_cmp, List.AllByRecursion, List.Sorted.IsSorted}
use Rattle.sqlite.specs.{Held.state, Store.Ghosts, State.HasCleanDisk}
use Rattle.kcr_forms.specs.Acts.{IsAct}
pub use Rattle.kcr_forms.specs.Values.{AreValues}
use Rattle.kcr_base.specs.{Rows.IsIn, declared.refusal.Refusal.Refusal}
use Rattle.kcr_history.specs.{History.History, Texts.reply_text, Texts.command_text}
use Rattle.kcr_history.specs.{Laws.IsSeatedFirst, Laws.HasFirstSeatings, Tables.Tables, Tables.tables, Tables.key_row}
use Rattle.kcr_history.specs.Machine.{machine, Accepts, Refuses, IsOfMachine, IsRegister, seat_request}
use Rattle.kcr_history.specs.declared.commands.{Act.Act, Entry.Entry, ReplyData.ReplyData, Command.Command}
use Rattle.kcr_history.specs.declared.{row_types.KeyRow.KeyRow, views.FullView.FullView}
use Rattle.kcr_store.specs.{Calls.left_at, FullView.AreRows, FullView.IsListed}
use Rattle.kcr_store.specs.Register.{RegisterHistory, RegisterState, IsConsistent, StandsAt, whole}
use Rattle.kcr_tables.specs.Refusals.{IsFault}
use Rattle.kcr_rows.specs.Kinds as kinds
use Rattle.kcr_rows.specs.Rows as stored
use Rattle.kcr_verify.specs.{FirstRow.DiffersAt, FirstRow.IsFirstRow, Seated.TellsSeating}
use Rattle.kcr_verify.specs.declared.{compare.RowDifference.RowDifference, compare.TableName.TableName, verification.Difference.Difference}
use Rattle.kcr_verify.specs.declared.compare.TableName.TheVariants.{People, Trainings, Withdrawals, Appointments, Boxes}
use Rattle.kcr_verify.specs.declared.compare.TableName.TheVariants.{Safes, Bags, Items, Ceremonies, Marks, Steps, Seatings}
use Rattle.kcr_verify.specs.declared.compare.TableName.TheVariants.{Sheet, Stays, Exceptions, Keys}
use Rattle.kcr_verify.specs.declared.verification.Difference.TheVariants as Differences
use Rattle.kcr_verify.specs.declared.verification.Verification.{Verification, TheVariants.Verified, TheVariants.Differs}

-- begin: written by tools/tables.py

-- the table's name in the database
abbrev pub name_of : TableName → List ℕ
name_of People = codes "people"
name_of Trainings = codes "trainings"
name_of Withdrawals = codes "withdrawals"
name_of Appointments = codes "appointments"
name_of Boxes = codes "boxes"
name_of Safes = codes "safes"
name_of Bags = codes "bags"
name_of Items = codes "items"
name_of Ceremonies = codes "ceremonies"
name_of Marks = codes "marks"
name_of Steps = codes "steps"
name_of Seatings = codes "seatings"
name_of Sheet = codes "sheet"
name_of Stays = codes "stays"
name_of Exceptions = codes "exceptions"
name_of Keys = codes "keys"

-- the view has the machine's rows of this table, in the order in which a database keeps them; the accepted commands in
-- any order
abbrev pub HasRows : TableName → Tables → FullView → Type 0
HasRows People m view = AreRows (λ t. t.rows.people) m view.view.people.items
HasRows Trainings m view = AreRows (λ t. t.rows.trainings) m view.view.trainings.items
HasRows Withdrawals m view = AreRows (λ t. t.rows.withdrawals) m view.view.withdrawals.items
HasRows Appointments m view = AreRows (λ t. t.rows.appointments) m view.view.appointments.items
HasRows Boxes m view = AreRows (λ t. t.rows.boxes) m view.view.boxes.items
HasRows Safes m view = AreRows (λ t. t.rows.safes) m view.view.safes.items
HasRows Bags m view = AreRows (λ t. t.rows.bags) m view.view.bags.items
HasRows Items m view = AreRows (λ t. t.rows.items) m view.view.items.items
HasRows Ceremonies m view = AreRows (λ t. t.rows.ceremonies) m view.view.ceremonies.items
HasRows Marks m view = AreRows (λ t. t.rows.marks) m view.view.marks.items
HasRows Steps m view = AreRows (λ t. t.rows.steps) m view.view.steps.items
HasRows Seatings m view = AreRows (λ t. t.rows.seatings) m view.view.seatings.items
HasRows Sheet m view = AreRows (λ t. t.rows.sheet) m view.sheet.items
HasRows Stays m view = AreRows (λ t. t.rows.stays) m view.view.stays.items
HasRows Exceptions m view = AreRows (λ t. t.rows.exceptions) m view.view.exceptions.items
HasRows Keys m view = IsPermutation m.keys view.keys.items

-- end: written by tools/tables.py

-- a register that no fault has broken
pub record IsIntact {S : Type 0} (g : Ghosts S) (register : RegisterState S) : Type 0 where
  pub unbroken : register.is_broken ≡ false
  pub kept : IsConsistent g register

-- one that stands at no command
pub record IsFresh {S : Type 0} (g : Ghosts S) (register : RegisterState S) : Type 0 where
  pub stands : StandsAt g (whole []) register
  pub kept : IsConsistent g register

-- what a call that may write leaves of an intact register: only a fault breaks it
pub record StaysIntact {A S : Type 0} (g : Ghosts S) (old new : RegisterState S) (result : Result A Refusal) : Type 0 where
  pub unbroken : IfOk result (λ _. new.is_broken ≡ false)
  pub cause : IfErr result IsFault
  pub clean : HasCleanDisk (state g new.conn) → HasCleanDisk (state g old.conn)
  pub kept : IsConsistent g new

-- what a call that only reads leaves of such a register, whatever it answers
pub record OnlyLooks {A S : Type 0} (g : Ghosts S) (old new : RegisterState S) (result : Result A Refusal) : Type 0 where
  pub unbroken : IfOk result (λ _. new.is_broken ≡ false)
  pub stands : (s : RegisterHistory) → StandsAt g s old → StandsAt g (left_at new.is_broken s) new
  pub cause : IfErr result IsFault
  pub clean : HasCleanDisk (state g new.conn) → HasCleanDisk (state g old.conn)
  pub kept : IsConsistent g new

-- if its disk returned what was written, a register stands somewhere, and this is said of what it accepted
abbrev pub EndsAt : {S : Type 0} → Ghosts S → RegisterState S → (History → Type 0) → Type 0
EndsAt g register Says =
    HasCleanDisk (state g register.conn) → (after : RegisterHistory) × StandsAt g after register × Says after.accepted

-- COMMANDS IN ORDER

-- the order of accepted commands by their numbers
abbrev pub by_number : KeyRow → KeyRow → Ordering
by_number a b = nat_cmp a.accepted b.accepted

-- the rows of the accepted commands of a history, in that order
abbrev pub rows_by_number : History → List KeyRow
rows_by_number A = reverse (map key_row A)

-- the same rows, in that order
pub record AreInOrder (rows sorted : List KeyRow) : Type 0 where
  pub same : IsPermutation rows sorted
  pub order : IsSorted by_number sorted

-- the first row in which accepted commands differ from the machine's, both in that order
pub record IsFirstCommand (own rows : List KeyRow) (row : RowDifference) : Type 0 where
  pub own_sorted : List KeyRow
  pub sorted : List KeyRow
  pub own_order : AreInOrder own own_sorted
  pub order : AreInOrder rows sorted
  pub differs : DiffersAt kinds.key_kinds stored.key_row own_sorted sorted row

-- each row has a key of its own, as it has in every database
abbrev pub HaveOwnKeys : List KeyRow → Type 0
HaveOwnKeys rows = (a b : KeyRow) → IsIn a rows → IsIn b rows → a.key ≡ b.key → a ≡ b

-- WHAT BECOMES OF A ROW'S COMMAND

-- the command has the key and the text of the row
pub record IsToldBy (row : KeyRow) (command : Command) : Type 0 where
  pub key : command.key ≡ row.key
  pub text : command_text command.act ≡ row.command

-- the text of the row is no command's
abbrev pub TellsNothing : KeyRow → Type 0
TellsNothing row = (act : Act) → IsAct act → command_text act ≢ row.command

-- the machine accepts the row's command and goes from A to B; this is so of the text of its reply
pub record TakesWith (Is : List ℕ → Type 0) (row : KeyRow) (A B : History) : Type 0 where
  pub command : Command
  pub told : IsToldBy row command
  pub reply : ReplyData
  pub step : machine A command (Accepts reply) B
  pub text : Is (reply_text reply)

-- and answers as the row says, or this in its place
abbrev pub Takes : KeyRow → History → History → Type 0
Takes row A B = TakesWith (λ text. text ≡ row.reply) row A B

abbrev pub AnswersElse : KeyRow → List ℕ → History → History → Type 0
AnswersElse row expected A B = TakesWith (λ text. (text ≡ expected) × (text ≢ row.reply)) row A B

-- the machine refuses the row's command so
pub record RefusesRow (row : KeyRow) (refusal : Refusal) (A : History) : Type 0 where
  pub command : Command
  pub told : IsToldBy row command
  pub step : machine A command (Refuses refusal) A

-- the row's command is not taken as the row says, for this reason, and this is what the row says; the history was A and
-- is B
abbrev pub Declines : Difference → KeyRow → History → History → Type 0
Declines (Differences.Command number found) row A B =
    (number ≡ row.accepted) × (found ≡ row.command) × TellsNothing row × (B ≡ A)
Declines (Differences.Refused number refusal found) row A B =
    (number ≡ row.accepted) × (found ≡ row.reply) × RefusesRow row refusal A × (B ≡ A)
Declines (Differences.Reply number expected found is_seating) row A B =
    (number ≡ row.accepted) × (found ≡ row.reply)
    × (answer : AnswersElse row expected A B) × TellsSeating B answer.command.act expected found is_seating
Declines difference row A B = ⊥

-- after A the row is not the next: its number is not, or it is and the row's command is not taken as the row says
abbrev pub IsNotNext : Difference → KeyRow → History → History → Type 0
IsNotNext (Differences.Number place found) row A B =
    (place ≡ length A + 1) × (found ≡ row.accepted) × (found ≢ place) × (B ≡ A)
IsNotNext difference row A B = (row.accepted ≡ length A + 1) × Declines difference row A B

-- rows in the order of their numbers: first those of the commands that were taken, then one that is not the next, and
-- others
pub record StopsIn (difference : Difference) (sorted : List KeyRow) (B : History) : Type 0 where
  pub taken : History
  pub row : KeyRow
  pub later : List KeyRow
  pub rows : sorted ≡ rows_by_number taken ++ row ∷ later
  pub why : IsNotNext difference row taken B

-- no table is such a row; and of rows that have keys of their own it stops at one
abbrev pub StopsFor : Difference → List KeyRow → History → Type 0
StopsFor (Differences.Rows table row) sorted B = ⊥
StopsFor difference sorted B = HaveOwnKeys sorted → StopsIn difference sorted B

-- WHAT IS SAID

-- begin: written by tools/tables.py

-- the order in which tables are compared
abbrev pub compared : List TableName
compared =
    Keys ∷ People ∷ Trainings ∷ Withdrawals ∷ Appointments ∷ Boxes ∷ Safes ∷ Bags ∷ Items ∷ Ceremonies ∷ Marks ∷ Steps
    ∷ Seatings ∷ Sheet ∷ Stays ∷ Exceptions ∷ []

-- end: written by tools/tables.py

-- in this list the table is the first whose rows are not those of the history
pub record IsFirstTable (tables_in : List TableName) (A : History) (view : FullView) (table : TableName) : Type 0 where
  pub before : List TableName
  pub behind : List TableName
  pub listed : tables_in ≡ before ++ table ∷ behind
  pub same : AllByRecursion (λ one. HasRows one (tables A) view) before
  pub other : ¬ HasRows table (tables A) view

-- begin: written by tools/tables.py

-- of this table, this is the first row in which the view differs from the machine
abbrev pub DiffersIn : TableName → Tables → FullView → RowDifference → Type 0
DiffersIn People m view row =
    IsFirstRow (λ t. t.rows.people) kinds.person_kinds stored.person_row m view.view.people.items row
DiffersIn Trainings m view row =
    IsFirstRow (λ t. t.rows.trainings) kinds.training_kinds stored.training_row m view.view.trainings.items row
DiffersIn Withdrawals m view row =
    IsFirstRow (λ t. t.rows.withdrawals) kinds.withdrawal_kinds stored.withdrawal_row m view.view.withdrawals.items row
DiffersIn Appointments m view row =
    IsFirstRow (λ t. t.rows.appointments) kinds.appointment_kinds stored.appointment_row m view.view.appointments.items row
DiffersIn Boxes m view row = IsFirstRow (λ t. t.rows.boxes) kinds.box_kinds stored.box_row m view.view.boxes.items row
DiffersIn Safes m view row = IsFirstRow (λ t. t.rows.safes) kinds.safe_kinds stored.safe_row m view.view.safes.items row
DiffersIn Bags m view row = IsFirstRow (λ t. t.rows.bags) kinds.bag_kinds stored.bag_row m view.view.bags.items row
DiffersIn Items m view row = IsFirstRow (λ t. t.rows.items) kinds.item_kinds stored.item_row m view.view.items.items row
DiffersIn Ceremonies m view row =
    IsFirstRow (λ t. t.rows.ceremonies) kinds.ceremony_kinds stored.ceremony_row m view.view.ceremonies.items row
DiffersIn Marks m view row = IsFirstRow (λ t. t.rows.marks) kinds.mark_kinds stored.mark_row m view.view.marks.items row
DiffersIn Steps m view row = IsFirstRow (λ t. t.rows.steps) kinds.step_kinds stored.step_row m view.view.steps.items row
DiffersIn Seatings m view row =
    IsFirstRow (λ t. t.rows.seatings) kinds.seating_kinds stored.seating_row m view.view.seatings.items row
DiffersIn Sheet m view row = IsFirstRow (λ t. t.rows.sheet) kinds.sheet_kinds stored.sheet_row m view.sheet.items row
DiffersIn Stays m view row = IsFirstRow (λ t. t.rows.stays) kinds.stay_kinds stored.stay_row m view.view.stays.items row
DiffersIn Exceptions m view row =
    IsFirstRow (λ t. t.rows.exceptions) kinds.exception_kinds stored.exception_row m view.view.exceptions.items row
DiffersIn Keys m view row = IsFirstCommand m.keys view.keys.items row

-- end: written by tools/tables.py

-- the view has the machine's rows of this table; or it has not, and this is the first row that differs
abbrev pub IsCompared : TableName → Tables → FullView → Option RowDifference → Type 0
IsCompared table m view found =
    MatchOption found (HasRows table m view) (λ row. (¬ HasRows table m view) × DiffersIn table m view row)

-- in this list the table is the first whose rows are not those of the history, and this is its first row that differs
abbrev pub IsFirst : List TableName → History → FullView → TableName × RowDifference → Type 0
IsFirst tables_in A view it = IsFirstTable tables_in A view it.0 × DiffersIn it.0 (tables A) view it.1

-- the history has all commands of the view
abbrev pub HasCommands : History → FullView → Type 0
HasCommands A view = AreInOrder view.keys.items (rows_by_number A)

-- the first thing that is not as the commands of the view say, if they led to the history B
abbrev pub IsDifference : FullView → History → Difference → Type 0
IsDifference view B (Differences.Rows table row) =
    IsFirst compared B view (table, row) × (HaveOwnKeys view.keys.items → HasCommands B view)
IsDifference view B difference =
    HaveOwnKeys view.keys.items
    → (sorted : List KeyRow) × AreInOrder view.keys.items sorted × StopsIn difference sorted B

-- what a verification says of the rows of the view, if their commands led to the history A: that they are its
-- tables, or what the first difference is
abbrev pub Says : FullView → History → Verification → Type 0
Says view A (Verified count) = ((table : TableName) → HasRows table (tables A) view) × (length A ≡ count)
Says view A (Differs difference) = IsDifference view A difference

-- it is so, whoever wrote the rows, and the machine leads to the history
pub record IsVerification (view : FullView) (A : History) (told : Verification) : Type 0 where
  pub of_machine : IsOfMachine A
  pub says : Says view A told

-- OTHER SEATINGS

-- the entry was accepted after A with people who are not the first seating
abbrev pub IsOther : History → Entry → Type 0
IsOther A entry = ¬ IsSeatedFirst A (seat_request A entry.command.act) entry.reply.seating

-- of the commands of A whose recorded seating is not the first one, the first has this number
pub record IsFirstOther (A : History) (number : ℕ) : Type 0 where
  pub later : History
  pub entry : Entry
  pub before : History
  pub whole : A ≡ later ++ entry ∷ before
  pub counted : number ≡ length (entry ∷ before)
  pub first : HasFirstSeatings before
  pub other : IsOther before entry

-- the reply to the command with this number differs
abbrev pub IsReply : Difference → ℕ → Type 0
IsReply (Differences.Reply number expected found is_seating) of = number ≡ of
IsReply other of = ⊥

-- the entry's command was given to a register of A: it has the entry now, or the reply differs, since another seating
-- comes before the recorded one
abbrev pub HasNext : History → Entry → History → Option Difference → Type 0
HasNext A entry A' None = A' ≡ entry ∷ A
HasNext A entry A' (Some difference) = IsReply difference entry.reply.accepted × IsOther A entry

-- so with all commands of A, which were given to an empty register
abbrev pub HasAll : History → History → Option Difference → Type 0
HasAll A A' None = A' ≡ A
HasAll A A' (Some difference) = (number : ℕ) × IsReply difference number × IsFirstOther A number

-- what is said of a register's tables: that they are those of its own commands, which is so if the machine leads to
-- its history; or that the reply of the first command with another seating differs
abbrev pub IsToldOf : History → Verification → Type 0
IsToldOf A told =
    ((told ≡ Verified (length A)) × IsOfMachine A)
    ⊎ ((number : ℕ) × (difference : Difference) × (told ≡ Differs difference) × IsReply difference number
    × IsFirstOther A number)

-- WHAT A FRESH REGISTER IS LED TO

-- what giving a row's command says of the history before it and the one after it
pub record GivesRow (row : KeyRow) (A B : History) (result : Result (Option Difference) Refusal) : Type 0 where
  -- whatever the row says, the machine leads to the register's history
  pub of_machine : IsOfMachine A → IsOfMachine B
  -- the machine takes the command as the row says, or does not for the reason that is told
  pub told : IfOk result (λ difference. MatchOption difference (Takes row A B) (λ why. Declines why row A B))
  -- where it is the row of the next entry of a history, the register then has the entry, or its reply differs since its
  -- recorded seating is not the first one
  pub own : (entry : Entry) → IsRegister (entry ∷ A) → AreValues (entry ∷ A) → row ≡ key_row entry
      → IfOk result (HasNext A entry B)

-- what giving the commands of these rows, one after the other, says of the history that an empty register then has
pub record GivesRows (rows : List KeyRow) (B : History) (result : Result (Option Difference) Refusal) : Type 0 where
  pub of_machine : IsOfMachine B
  -- it has the commands of all rows, or of those before the one that is not the next, as told
  pub told : IfOk result (λ difference. MatchOption difference (HaveOwnKeys rows → rows ≡ rows_by_number B)
      (λ why. StopsFor why rows B))
  pub own : (A : History) → IsRegister A → AreValues A → rows ≡ rows_by_number A → IfOk result (HasAll A B)

-- what a rebuilding from all rows of a database says of that history
pub record Rebuilds (rows : FullView) (B : History) (result : Result Verification Refusal) : Type 0 where
  -- whatever the rows say, the machine leads to it
  pub of_machine : IsOfMachine B
  -- what is told of the rows is so, whoever wrote them, and the fresh register has the commands that it says
  pub told : IfOk result (λ told. IsVerification rows B told)
  -- of a history that the machine leads to nothing differs
  pub own : (A : History) → IsOfMachine A → AreValues A → IsListed (tables A) rows
      → IfOk result (λ told. (told ≡ Verified (length A)) × (B ≡ A))
  -- of a register's history the reply of the first command differs whose recorded seating is not the first one; if
  -- there is none, nothing does
  pub register : (A : History) → IsRegister A → AreValues A → IsListed (tables A) rows → IfOk result (IsToldOf A)

-- Where the changes of an act lead: what they make of the tables of a history, and when these are the tables of the history with its command.
use Rattle.kcr_machine.proofs.Common.{◌≡◌, ℕ, List, [], ◌∷◌, ◌++◌, map, None, Option, option_map, refl, ap, ◌∙◌, arith, rules, IsPermutation-refl}
use Rattle.kcr_machine.proofs.Common.{first_of, put, put_all, none-find, Act, ReplyData, Command, Entry, Change, PutKey, View, History, entry_of}
use Rattle.kcr_machine.proofs.Common.{Tables, SameTables, keys, key_row, tables, changed, all_changed, same_key_row, with_command, reply_to}
use Rattle.kcr_machine.proofs.Common.{is_of_key, IsViewOf, asks_of_act, early_asks, fault, is_full, by_history, early_conditions, late_conditions}
use Rattle.kcr_machine.proofs.Common.{row_of_key-keys, changes_by, early_refusal_by, late_refusal_by, all_changes_by, new_key_row}
use Rattle.std.specs.Prelude.{Bool}
use Rattle.kcr_history.specs.declared.views.Asks.{Asks}
use Rattle.kcr_machine.proofs.Keyed.{put-new}

-- THE COMMAND

abbrev pub command_of : List ℕ → Act → Command
command_of key act = record { key = key; act = act }

abbrev pub entry_as : List ℕ → Act → ReplyData → Entry
entry_as key act answer = record { command = command_of key act; reply = answer }

-- the tables with the changes, and with the row of the command's key
abbrev pub changed_with : List Change → Command → ReplyData → Tables → Tables
changed_with changes x answer t = all_changed (changes ++ PutKey (new_key_row x answer) ∷ []) t

-- the changes of the act and its row of a key, made in the tables, give those of the history with the command
abbrev pub Leads : History → View → Command → ReplyData → Type 0
Leads A view x answer = changed_with (changes_by view x.act) x answer (tables A) ≡ tables (with_command A x answer)

-- a view of what is asked for is one of the part that is read first
pub front-of : (asks : Asks) (t : Tables) (view : View) → IsViewOf asks t view → IsViewOf (early_asks asks) t view
front-of asks t view v = grind arith

-- by the rows of that part alone the first of the act's early refusals is the history's
abbrev pub EarlyShown : History → Act → Type 0
EarlyShown A act =
    (view : View) → IsViewOf (early_asks (asks_of_act act)) (tables A) view → early_refusal_by view (is_full A) act ≡ first_of (early_conditions (by_history A) act)

-- by the rows of any view of what the act asks for so is the first of the others
abbrev pub LateShown : History → Act → Type 0
LateShown A act = (view : View) → IsViewOf (asks_of_act act) (tables A) view → late_refusal_by view (is_full A) act ≡ first_of (late_conditions (by_history A) act)

-- and if it has none, its changes lead on
abbrev pub LeadsOn : History → Act → Type 0
LeadsOn A act =
    (key : List ℕ) (view : View) (answer : ReplyData) → IsViewOf (asks_of_act act) (tables A) view → entry_of A key ≡ None → fault A act ≡ None
    → Leads A view (command_of key act) answer

-- the same of an act with those who fill its seats
abbrev pub SeatsLeadOn : History → Act → Option (List (List ℕ)) → Type 0
SeatsLeadOn A act people =
    (key : List ℕ) (view : View) (answer : ReplyData) → IsViewOf (asks_of_act act) (tables A) view → entry_of A key ≡ None → fault A act ≡ None
    → answer ≡ reply_to A act people
    → changed_with (all_changes_by view act people) (command_of key act) answer (tables A) ≡ tables (with_command A (command_of key act) answer)

-- the row of a command whose key is new is put in front
pub new_key : (A : History) (x : Command) (answer : ReplyData) → entry_of A x.key ≡ None
    → put same_key_row (new_key_row x answer) (keys A) ≡ new_key_row x answer ∷ keys A
new_key A x answer k =
    put-new same_key_row (new_key_row x answer) (keys A) (none-find (is_of_key x.key) (keys A) (row_of_key-keys A x.key ∙ ap (option_map key_row) k))

-- CHANGES ONE AFTER THE OTHER

-- the changes of two lists together are those of the first, then those of the second
pub changed-append : (xs ys : List Change) (t : Tables) → all_changed (xs ++ ys) t ≡ all_changed ys (all_changed xs t)
changed-append [] ys t = refl
changed-append (x ∷ xs) ys t = changed-append xs ys (changed x t)

-- rows of one table, if `to` is the change that puts one and `with_rows` gives the table other rows
pub all_changed-rows : {X : Type 0} (to : X → Change) (same : X → X → Bool) (with_rows : List X → Tables → Tables)
    → ((row : X) (rows : List X) (t : Tables) → changed (to row) (with_rows rows t) ≡ with_rows (put same row rows) t)
    → (xs rows : List X) (rest : List Change) (t : Tables)
    → all_changed (map to xs ++ rest) (with_rows rows t) ≡ all_changed rest (with_rows (put_all same xs rows) t)
all_changed-rows to same with_rows one [] rows rest t = refl
all_changed-rows to same with_rows one (x ∷ xs) rows rest t = grind (arith, all_changed-rows to same with_rows one xs (put same x rows) rest t)

-- THE SAME ROWS IN ANOTHER ORDER

-- equal tables have the same rows
pub same-tables : (t u : Tables) → t ≡ u → SameTables t u
same-tables t u e = rw e (search (rules, IsPermutation-refl))

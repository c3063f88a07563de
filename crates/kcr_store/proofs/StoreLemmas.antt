-- What a decision makes of the tables, and what a reading of them shows.
use Rattle.kcr_store.proofs.Common.{arith, ◌≡◌, ℕ, List, [], ◌∷◌, map, Option, Some, None, Ok, Err, Less, IsTrue, sym, ap, subst, ◌∙◌}
use Rattle.kcr_store.proofs.Common.{MatchOption, AllPairs, is_lt, Database, IsAscending, Trees, ascending-get_or}
use Rattle.kcr_store.proofs.Common.{ascending_from_map, ascending_weaker, is_before, Refusal, Person, Command, Verdict, FullView, History, Tables}
use Rattle.kcr_store.proofs.Common.{SameTables, tables, all_changed, IsRegister, IsAcceptance, IsRepeat, follows, numbers, person_row}
use Rattle.kcr_store.proofs.Common.{item_row, HoldsTables, SameRows, same_holds, IsFault, IsByInitials, AppliesCommand, with_reply}
use Rattle.kcr_store.proofs.Common.{number_after, Stores, AreRows, IsListed, Lists}
use Rattle.kcr_history.specs.{Machine.with_command, Audit.IsAudit}
use Rattle.std.specs.Prelude.{IsPermutation, length}
use Rattle.sqlite.specs.{declared.types.Value.TheVariants.Text, Order.Row, Order.value_cmp}
use Rattle.sqlite_value.proofs.OrderLemmas.{value_cmp-Text, then-Equal}
use Rattle.kcr_custody.specs.declared.Item.{Item}
use Rattle.kcr_history.specs.declared.{commands.ReplyData.ReplyData, commands.Entry.Entry, views.Finding.Finding}
use Rattle.kcr_tables.specs.{Keyed.by_key, Table.TableSpec, Table.machine_rows}
use Rattle.kcr_rows.specs.States.{loose_value, within_value}
use Rattle.kcr_tables.specs.StoredTables as held

-- a database that stores a history holds the tables of the history
pub held_in : (A : History) (db : Database) → Stores A db → HoldsTables (tables A) db
held_in A db s = record { schema = s.schema; tables = s.tables.kept }

-- the tables of a history, in the database of a register
pub brought_stores : (A : History) (db : Database) → IsRegister A → HoldsTables (tables A) db → Stores A db
brought_stores A db register h = record { schema = h.schema; tables = record { register = register; kept = h.tables } }

-- a decision that answers, by its answer
abbrev Decides : History → Command → Verdict → Option ReplyData → Type 0
Decides A x v answer = MatchOption answer ((kept : Entry) × IsRepeat A x v kept) (IsAcceptance A x v)

module _ (A : History) (x : Command) (v : Verdict) where
  -- a decision with this reply applies the command
  pub steps : (answer : Option ReplyData) → Decides A x v answer → AppliesCommand A x (Ok v.reply) (with_reply A x answer)
  steps answer d = grind arith

  -- a database with the changed tables stores the history after the command
  pub next_stores : (answer : Option ReplyData) (old new : Database) → Stores A old → Decides A x v answer
      → HoldsTables (all_changed v.changes.items (tables A)) new → Stores (with_reply A x answer) new
  next_stores (Some a) old new s d h =
      brought_stores (with_command A x a) new (follows A x a d.step, s.tables.register)
      (same_holds (all_changed v.changes.items (tables A)) (tables (with_command A x a)) new d.tables h)
  next_stores None old new s d h = brought_stores A new s.tables.register (rw d.1.changes at h)

-- the number of the last command after a decision is that of the history after it
pub counts_after : (A : History) (x : Command) (answer : Option ReplyData) (count : ℕ) → count ≡ length A → IsRegister (with_reply A x answer)
    → number_after count answer ≡ length (with_reply A x answer)
counts_after A x answer count is h = grind (arith, numbers)

-- out of memory and an I/O error leave the history
pub fault_steps : (A : History) (x : Command) (e : Refusal) → IsFault e → AppliesCommand A x (Err e) A
fault_steps A x e fault = grind arith

-- ---- what a command may get, whatever the tables hold

-- a new register's tables
pub first_stores : (db : Database) → HoldsTables (tables []) db → Stores [] db
first_stores db h = brought_stores [] db tt h

-- ---- rows as a database has them

-- if nothing is to be found, nothing is found
pub none_found : (view : FullView) (found : Option Finding) → IsAudit view None → IsAudit view found → found ≡ None
none_found view found none is = grind arith

-- rows of one table as a database has them are the machine's, in the order of their keys
pub in_table : {X : Type 0} (table : TableSpec X) {m : Tables} {db : Trees} {t : held.StoredTables} {rows : List X} → held.TreesHold db t → rows ≡ table.rows_in t
    → IsPermutation (machine_rows table m) rows → AreRows table.rows_in m rows
in_table table kept is same = record { same = same; db = _; t = _; kept = kept; lists = is }

-- rows as a database has them are the machine's, in the order of their keys
pub listed : {m : Tables} {db : Trees} {t : held.StoredTables} {view : FullView} → held.TreesHold db t → SameRows m t → Lists t view → IsListed m view
listed kept s l = record { same = subst (SameTables _) (sym l) s.rows; db = _; t = _; kept = kept; lists = l }

-- ---- rows in the order of their keys

-- what holds of each row and each later one holds of any two
pub all_pairs : {X : Type 0} (R : X → X → Type 0) (xs : List X) → IsAscending R xs → AllPairs R xs
all_pairs R xs up i j d lt below = ascending-get_or R xs i j d up lt below

-- of rows whose key is a text two stand in the order of its bytes
by_text : {X : Type 0} (text : X → List ℕ) (rest : X → Row) (xs : List X) → IsAscending (λ a b. by_key 1 a b ≡ Less) (map (λ x. Text (text x) ∷ rest x) xs)
    → IsAscending (λ a b. IsTrue (is_before (text a) (text b))) xs
by_text text rest xs up =
    ascending_weaker _ _ (λ a b e. ap is_lt (sym (value_cmp-Text (text a) (text b)) ∙ sym (then-Equal (value_cmp (Text (text a)) (Text (text b)))) ∙ e)) xs
    (ascending_from_map (λ a b. by_key 1 a b ≡ Less) (λ x. Text (text x) ∷ rest x) xs up)

-- people in the order of their keys stand by initials
pub by_initials : (people : List Person) → IsAscending (λ a b. by_key 1 a b ≡ Less) (map person_row people) → IsByInitials people
by_initials people up = all_pairs _ people (by_text (λ person. person.who) (λ person. Text person.name ∷ []) people up)

-- items in the order of their keys stand by code
pub by_code : (items : List Item) → IsAscending (λ a b. by_key 1 a b ≡ Less) (map item_row items) → IsAscending (λ a b. IsTrue (is_before a.code b.code)) items
by_code items up = by_text (λ item. item.code) (λ item. loose_value item.rest ∷ within_value item.rest ∷ []) items up

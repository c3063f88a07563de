-- What a register is between two calls.
use Rattle.std.specs.Prelude.{◌≡◌, ◌⊎◌, ℕ, Bool, false, length, Option, None, IsTrue, is_some, unwrap_or, refl}
use Rattle.std.specs.Coded.{Coded, code_by, coded×, coded_ℕ, coded_bool}
use Rattle.sqlite.specs.{Store.Ghosts, Tree.Trees, State.State, State.HasCleanDisk, Held.Held, Held.held_code, Held.state}
use Rattle.kcr_history.specs.{History.History, Tables.Tables}
use Rattle.kcr_tables.specs.MachineTables.{HoldsTables}
use Rattle.kcr_store.specs.Stored.{IsTables, Stores}

-- the connection shows the tables of the history, and nothing waits
pub record IsSynced (accepted : History) (s : State) : Type 0 where
  pub now : Stores accepted s.now
  pub committed : Stores accepted s.committed

-- each crash leaves the tables of the one history or of the other
abbrev pub AfterCrash : History → History → State → Type 0
AfterCrash accepted tried s =
    HasCleanDisk s → (db : Trees) → s.may_leave db → IsTables accepted db ⊎ IsTables tried db

-- each crash leaves the tables of the history
abbrev pub CrashKeeps : History → State → Type 0
CrashKeeps accepted s = HasCleanDisk s → (db : Trees) → s.may_leave db → IsTables accepted db

-- the register is whole
pub record IsDurable (accepted : History) (s : State) : Type 0 where
  pub shows : HasCleanDisk s → IsTrue s.is_open → IsSynced accepted s
  pub crash : CrashKeeps accepted s

-- the register is whole, and the number is that of its last command
pub record IsDurableWith (count : ℕ) (accepted : History) (s : State) : Type 0 where
  pub whole : IsDurable accepted s
  pub counts : HasCleanDisk s → count ≡ length accepted

-- what contracts see of a register: its connection, whether an I/O error has broken it, and the number that it keeps of
-- its last command. Of its history they see nothing: that is what its database holds
pub record RegisterState (S : Type 0) : Type 0 where
  pub conn : Held S
  pub is_broken : Bool
  pub last_number : ℕ

abbrev pub register_state_code : {S : Type 0} → Coded S → Coded (RegisterState S)
register_state_code {S} store =
    code_by (Held S × (Bool × ℕ))
    (coded× (held_code store) (coded× coded_bool coded_ℕ))
    (λ s. (s.conn, (s.is_broken, s.last_number)))
    (λ p. let (conn, (is_broken, last_number)) = p in
    record { conn = conn; is_broken = is_broken; last_number = last_number })
    (λ _. refl)

-- a fact of every register
pub record IsConsistent {S : Type 0} (g : Ghosts S) (r : RegisterState S) : Type 0 where
  pub autocommit : r.conn.in_transaction ≡ false

-- WHERE A REGISTER STANDS

-- what was accepted and, once the register is broken, the history that a crash may leave in place of that
pub record RegisterHistory : Type 0 where
  pub accepted : History
  pub in_doubt : Option History

-- this history, of a register that nothing has broken
abbrev pub whole : History → RegisterHistory
whole A = record { accepted = A; in_doubt = None }

-- the register stands at this history: its database holds its tables, if its disk returns what was written
pub record StandsAt {S : Type 0} (g : Ghosts S) (s : RegisterHistory) (r : RegisterState S) : Type 0 where
  pub broken : r.is_broken ≡ is_some s.in_doubt
  pub shows : s.in_doubt ≡ None → IsDurableWith r.last_number s.accepted (state g r.conn)
  -- broken or not, a crash leaves the tables of the one history or of the other
  pub crash : AfterCrash s.accepted (unwrap_or s.in_doubt s.accepted) (state g r.conn)

-- WHAT IT SHOWS

-- the connection shows these rows, whoever wrote them, and nothing waits
pub record ShowsRows (m : Tables) (s : State) : Type 0 where
  pub now : HoldsTables m s.now
  pub committed : HoldsTables m s.committed

-- so it does as long as it is open and its disk returns what was written
abbrev pub HasRows : Tables → State → Type 0
HasRows m s = HasCleanDisk s → IsTrue s.is_open → ShowsRows m s

-- rows, the number of the last command, and whether the register with them is broken
pub record RegisterRows : Type 0 where
  pub rows : Tables
  pub last_number : ℕ
  pub is_broken : Bool

-- the register shows these rows, whoever wrote them; of a broken one nothing is said of them
pub record ShowsAt {S : Type 0} (g : Ghosts S) (t : RegisterRows) (r : RegisterState S) : Type 0 where
  pub broken : r.is_broken ≡ t.is_broken
  pub number : r.last_number ≡ t.last_number
  pub shows : t.is_broken ≡ false → HasRows t.rows (state g r.conn)

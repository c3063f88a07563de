-- What the database holds, by the rows in the order of their keys and by the machine's.
use Rattle.kcr_tables.proofs.Common.{Database, StoredTables, Holds, SameRows, HoldsTables}
use Rattle.kcr_history.specs.Tables as machine

-- a database that holds the machine's tables holds their rows in the order of their keys
pub held_of : (m : machine.Tables) (db : Database) (h : HoldsTables m db) → Holds db h.tables.t
held_of m db h = record { schema = h.schema; kept = h.tables.kept }

-- a database that holds rows in the order of their keys holds the machine's tables that have the same
pub tables_of : (m : machine.Tables) (db : Database) (t : StoredTables) → SameRows m t → Holds db t → HoldsTables m db
tables_of m db t stands held = record { schema = held.schema; tables = record { t = t; kept = held.kept; stands = stands } }

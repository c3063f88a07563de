-- The bytes of two files.
use Rattle.std.specs.Prelude.{ℕ, List}
use Rattle.sqlite_wal.specs.Recovery.{Image}

-- a log and its database file
abbrev pub image : List ℕ → List ℕ → Image
image log file = record { log = log; db = file }

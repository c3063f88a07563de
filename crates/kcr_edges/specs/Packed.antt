-- One file with everything.
use Rattle.std.specs.Prelude.{◌≡◌, ℕ, List, []}
use Rattle.sqlite.specs.{Files.HoldsDatabase, Tree.Trees}
use Rattle.sqlite_disk.specs.declared.{Disk.Ghosts, Files.Files}
use Rattle.sqlite_wal.specs.Recovery.{Image}
use Rattle.kcr_edges.specs.Image.{image}

-- whichever database a log and its file are, this file is it alone, with no log beside it
abbrev pub IsPacked : Image → List ℕ → Type 0
IsPacked whole file = (db : Trees) → HoldsDatabase whole db → ∥ HoldsDatabase (image [] file) db ∥₁

-- a crash leaves these bytes of the two files and no others
abbrev pub LeavesOnly : (Image → Type 0) → Image → Type 0
LeavesOnly outcomes whole = (left : Image) → outcomes left → left ≡ whole

-- neither file has a byte
abbrev pub IsEmptied : {D : Type 0} → Ghosts D → Files D → Type 0
IsEmptied g files = (g.seen files.log ≡ []) × (g.seen files.db ≡ [])

-- both files have the bytes that they had, and a crash leaves nothing new
pub record Stays {D : Type 0} (g : Ghosts D) (old new : Files D) : Type 0 where
  pub log : g.seen new.log ≡ g.seen old.log
  pub file : g.seen new.db ≡ g.seen old.db
  pub log_left : (left : List ℕ) → g.may_leave new.log left → g.may_leave old.log left
  pub file_left : (left : List ℕ) → g.may_leave new.db left → g.may_leave old.db left

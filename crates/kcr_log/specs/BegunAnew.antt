-- The head of a log: which one follows another when a register begins the log anew.
use Rattle.std.specs.Prelude.{◌+◌, ◌%◌, ◌==◌, ◌&&◌, ◌||◌, ℕ, Bool, zero, suc, false, List, max}
use Rattle.sqlite_wal.specs.Format.{be32}
use Rattle.kcr_log.specs.declared.begun_anew.{Count.Count, TheConstants.MAX_CHECKPOINTS}

-- what a checkpoint changes of a head: the number of checkpoints, and the first salt
abbrev pub count_of : List ℕ → Count
count_of head = record { checkpoints = be32 head 12; salt = be32 head 16 }

-- what it is after one more checkpoint, which counts both up. The first has no number, and the first salt no first byte
-- that is 0
abbrev pub next : Count → Count
next c = record {
  checkpoints = (c.checkpoints + 1) % 0x1_0000_0000 % 0xffff_ffff;
  salt = max ((c.salt + 1) % 0x1_0000_0000) 0x100_0000;
}

-- two counts are equal
abbrev pub same : Count → Count → Bool
same a b = (a.checkpoints == b.checkpoints) && (a.salt == b.salt)

-- one of the next `k` checkpoints leads from the first count to the second
unfoldable pub is_later : ℕ → Count → Count → Bool
is_later zero first second = false
is_later (suc k) first second = same (next first) second || is_later k (next first) second

-- the version and the size of a page stay, and the register has begun its log anew, at most `MAX_CHECKPOINTS` times
abbrev pub is_begun_anew : List ℕ → List ℕ → Bool
is_begun_anew seen now =
    (be32 seen 4 == be32 now 4) && ((be32 seen 8 == be32 now 8) && is_later MAX_CHECKPOINTS (count_of seen) (count_of now))

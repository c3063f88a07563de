-- What a stop can leave of a log.
use Rattle.std.specs.Prelude.{◌≡◌, ℕ, ◌+◌, ◌-◌, ◌<◌, ◌≤◌, ◌⊎◌, true, false, List, length}
use Rattle.sqlite_wal.specs.Format.{be32, count_page}
use Rattle.kcr_log.specs.{declared.frames.Header.Header, Damage.is_shut}
use Rattle.kcr_log.specs.Frames.{header_of, is_signed, frame_of, carries, checks, commits, start_of, begins}
use Rattle.kcr_log.specs.Pages.{second_header, IsRun, IsNewest, HasPage}

-- frame i has the page number of a count, or has lost it
abbrev pub MayCount : Header → List ℕ → ℕ → Type 0
MayCount header log i = ((frame_of header log i).page ≡ 0) ⊎ ((frame_of header log i).page ≡ count_page)

-- Transactions that are whole, and then the frames of one more, as far as they came: none but its last commits, and
-- none but its first counts. Behind it is a frame that is not to be read yet, if none of its frames is read or the
-- first counts; or there are nothing but frames of other salts.
pub record IsCutShort (header : Header) (log : List ℕ) : Type 0 where
  pub done : ℕ
  pub end : ℕ
  pub forward : done ≤ end
  pub ended : start_of header log done ≡ done
  pub whole : (i : ℕ) → i < done → checks header log i ≡ true
  pub inner : (i : ℕ) → done ≤ i → i + 1 < end → commits header log i ≡ false
  pub alone : (i : ℕ) → done < i → begins header log i ≡ false
  pub rest : ((is_shut header log end ≡ true) × ((done ≡ end) ⊎ MayCount header log done))
      ⊎ ((i : ℕ) → end ≤ i → carries header log i ≡ false)

-- The log is being emptied: its head is written anew behind a first byte of 0, and the file has the pages of all its
-- transactions.
pub record IsEmptied (file log : List ℕ) : Type 0 where
  pub begun : be32 log 0 < 0x100_0000
  pub end : ℕ
  pub run : IsRun (second_header file log) log end
  pub moved : commits (second_header file log) log (end - 1) ≡ true → (i : ℕ) → 1 ≤ i → i < end
      → IsNewest (second_header file log) log end i
      → (frame_of (second_header file log) log i).page ≤ (frame_of (second_header file log) log (end - 1)).size
      → HasPage (second_header file log) file log i

-- The log is too short for a frame, or is being emptied, or is cut short beside a file that was made before it.
abbrev pub IsLeftByStop : List ℕ → List ℕ → Type 0
IsLeftByStop file log =
    (length log < 56) ⊎ (IsEmptied file log
    ⊎ ((is_signed log ≡ true) × (0 < length file) × IsCutShort (header_of log) log))

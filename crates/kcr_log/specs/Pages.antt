-- What the frames of a log tell without its head, and which of their pages a file has.
use Rattle.std.specs.Prelude.{◌≡◌, ◌≢◌, ℕ, ◌+◌, ◌-◌, ◌*◌, ◌<◌, ◌≤◌, ◌==◌, ◌||◌, nat_lt, Bool, true, false, not, if◌then◌else◌, List, length, slice_index}
use Rattle.sqlite_wal.specs.Format.{be32}
use Rattle.kcr_log.specs.declared.frames.Header.{Header}
use Rattle.kcr_log.specs.Frames.{frame_at, frame_of, frame_count, carries, checks, commits, commits_from}

-- the size of a page by the head of the file, or by the log's if the file is too short
abbrev pub page_size_of : List ℕ → List ℕ → ℕ
page_size_of file log =
    let named = slice_index file 16 * 256 + slice_index file 17 in
    if nat_lt (length file) 18 then be32 log 8 else (if named == 1 then 65536 else named)

-- a head as the first frame tells it
abbrev pub told_header : Bool → ℕ → List ℕ → Header
told_header big size log = record { big = big; page_size = size; salt = be32 log 40; second_salt = be32 log 44 }

-- the same head, but for the salts, which are those of the second frame
abbrev pub by_second : Header → List ℕ → Header
by_second header log =
    let frame = frame_of header log 1 in
    record { big = header.big; page_size = header.page_size; salt = frame.salt; second_salt = frame.second_salt }

-- a head as the second frame tells it
abbrev pub second_header : List ℕ → List ℕ → Header
second_header file log = by_second (told_header false (page_size_of file log) log) log

-- the same head, but for the order of the bytes in a word
abbrev pub turned : Header → Header
turned header =
    record { big = not header.big; page_size = header.page_size; salt = header.salt; second_salt = header.second_salt }

-- the frames from the second on have the salts up to this one, which does not
pub record IsRun (header : Header) (log : List ℕ) (end : ℕ) : Type 0 where
  pub some : 1 ≤ end
  pub carried : (i : ℕ) → 1 ≤ i → i < end → carries header log i ≡ true
  pub stop : carries header log end ≡ false

-- no later frame of the run has this page
abbrev pub IsNewest : Header → List ℕ → ℕ → ℕ → Type 0
IsNewest header log end i = (j : ℕ) → i < j → j < end → (frame_of header log j).page ≢ (frame_of header log i).page

-- where the page of frame i lies in the file
abbrev pub page_at : Header → List ℕ → ℕ → ℕ
page_at header log i = ((frame_of header log i).page - 1) * header.page_size

-- the file has the page of frame i as the frame has it
pub record HasPage (header : Header) (file log : List ℕ) (i : ℕ) : Type 0 where
  pub within : page_at header log i + header.page_size ≤ length file
  pub same : (x : ℕ) → x < header.page_size
      → slice_index file (page_at header log i + x) ≡ slice_index log (frame_at header i + 24 + x)

-- A page of a run that ends with a transaction is lost: frame i checks and has the newest form of a page that the
-- database has after that transaction, and the file does not have it so.
pub record IsLost (header : Header) (file log : List ℕ) (end i : ℕ) : Type 0 where
  pub behind : 1 ≤ i
  pub within : i < end
  pub checked : (checks header log i || checks (turned header) log i) ≡ true
  pub newest : IsNewest header log end i
  pub kept : (frame_of header log i).page ≤ (frame_of header log (end - 1)).size
  pub lost : ¬ HasPage header file log i

-- After the first frame `ended` transactions end, and not all of them are in the file: a page is lost.
pub record HasLost (header : Header) (file log : List ℕ) (ended : ℕ) : Type 0 where
  pub end : ℕ
  pub run : IsRun header log end
  pub ends : commits header log (end - 1) ≡ true
  pub frame : ℕ
  pub lost : IsLost header file log end frame
  pub ended_is : ended ≡ commits_from header log 1 (frame_count header log - 1)

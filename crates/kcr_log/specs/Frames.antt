-- A write-ahead log as bytes: a head of 32 bytes, and then frames, each of 24 bytes and a page.
use Rattle.std.specs.Prelude.{ℕ, zero, suc, ◌+◌, ◌-◌, ◌*◌, ◌/◌, ◌==◌, ◌&&◌, ◌||◌, not, nat_lt, Bool, false, if◌then◌else◌, List, length, slice_range}
use Rattle.sqlite_wal.specs.Format.{be32, checksum, count_page}
use Rattle.kcr_log.specs.declared.frames.{Header.Header, Frame.Frame}

-- what the head says
abbrev pub header_of : List ℕ → Header
header_of log = record {
  big = be32 log 0 == 0x377f_0683;
  page_size = be32 log 8;
  salt = be32 log 16;
  second_salt = be32 log 20;
}

-- the head begins with one of the two magic numbers and ends with its own checksum
abbrev pub is_signed : List ℕ → Bool
is_signed log =
    let sum = checksum (be32 log 0 == 0x377f_0683) (0, 0) (slice_range log 0 24) in
    (be32 log 0 / 2 == 0x377f_0682 / 2) && (sum.0 == be32 log 24) && (sum.1 == be32 log 28)

-- where frame i begins, from 0
abbrev pub frame_at : Header → ℕ → ℕ
frame_at header i = 32 + i * (24 + header.page_size)

-- how many whole frames the log has
abbrev pub frame_count : Header → List ℕ → ℕ
frame_count header log = (length log - 32) / (24 + header.page_size)

-- the numbers that stand at the head of frame i
unfoldable pub frame_of : Header → List ℕ → ℕ → Frame
frame_of header log i =
    let at = frame_at header i in
    record {
      page = be32 log at;
      size = be32 log (at + 4);
      salt = be32 log (at + 8);
      second_salt = be32 log (at + 12);
      sum = (be32 log (at + 16), be32 log (at + 20));
    }

-- frame i is whole, and has the salts
unfoldable pub carries : Header → List ℕ → ℕ → Bool
carries header log i =
    let frame = frame_of header log i in
    nat_lt i (frame_count header log) && (frame.salt == header.salt) && (frame.second_salt == header.second_salt)

-- the checksum that frame i continues
unfoldable pub sum_before : Header → List ℕ → ℕ → ℕ × ℕ
sum_before header log zero = (be32 log 24, be32 log 28)
sum_before header log (suc i) = (frame_of header log i).sum

-- the checksum after frame i, over its page number, its size and its page
unfoldable pub sum_after : Header → List ℕ → ℕ → ℕ × ℕ
sum_after header log i =
    let at = frame_at header i in
    let numbers = checksum header.big (sum_before header log i) (slice_range log at (at + 8)) in
    checksum header.big numbers (slice_range log (at + 24) (at + 24 + header.page_size))

-- frame i checks: it has the salts, the number of a page, and the checksum that follows from the frame before it
unfoldable pub checks : Header → List ℕ → ℕ → Bool
checks header log i =
    let frame = frame_of header log i in
    let sum = sum_after header log i in
    carries header log i && not (frame.page == 0) && (sum.0 == frame.sum.0) && (sum.1 == frame.sum.1)

-- frame i has the salts and ends a transaction
unfoldable pub commits : Header → List ℕ → ℕ → Bool
commits header log i = carries header log i && not ((frame_of header log i).size == 0)

-- how many of the next n frames end a transaction, up to the first that does not have the salts
unfoldable pub commits_from : Header → List ℕ → ℕ → ℕ → ℕ
commits_from header log i zero = 0
commits_from header log i (suc n) =
    if carries header log i then (if commits header log i then 1 else 0) + commits_from header log (i + 1) n else 0

-- how many of the next n frames end a transaction, whatever lies between them
unfoldable pub ends_in : Header → List ℕ → ℕ → ℕ → ℕ
ends_in header log i zero = 0
ends_in header log i (suc n) = (if commits header log i then 1 else 0) + ends_in header log (i + 1) n

-- where the transaction of frame i begins: behind the last frame before it that ends one
unfoldable pub start_of : Header → List ℕ → ℕ → ℕ
start_of header log zero = 0
start_of header log (suc i) = if commits header log i then i + 1 else start_of header log i

-- Frame i has the salts, and counts the bytes of the transaction that it begins. The engine writes such a frame only
-- over zeros, and once all before it is safe.
unfoldable pub begins : Header → List ℕ → ℕ → Bool
begins header log i = carries header log i && ((frame_of header log i).page == count_page)

-- one of the next n frames begins a counted transaction
unfoldable pub begins_in : Header → List ℕ → ℕ → ℕ → Bool
begins_in header log i zero = false
begins_in header log i (suc n) = begins header log i || begins_in header log (i + 1) n

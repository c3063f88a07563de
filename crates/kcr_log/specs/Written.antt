-- How a transaction is written behind those that are there, and how a log is emptied, byte by byte.
use Rattle.std.specs.Prelude.{◌≡◌, ◌≢◌, ℕ, ◌+◌, ◌-◌, ◌<◌, ◌≤◌, ◌⊎◌, true, false, List, length, slice_index}
use Rattle.sqlite_wal.specs.Format.{count_page}
use Rattle.kcr_log.specs.{declared.frames.Header.Header, Damage.is_shut, Stop.IsCutShort, Stop.IsEmptied}
use Rattle.kcr_log.specs.Frames.{header_of, frame_at, frame_of, carries, checks, start_of, begins}
use Rattle.kcr_log.specs.Pages.{page_size_of, IsNewest, HasPage}

-- The frames from `done` to `end` of the log `new` are one transaction, which its last frame ends, and of which only
-- the first may count; those before it check in the log that was left, and the last of them ends a transaction.
pub record IsOneMore (header : Header) (new log : List ℕ) (done end : ℕ) : Type 0 where
  pub forward : done ≤ end
  pub ended : start_of header log done ≡ done
  pub whole : (i : ℕ) → i < done → checks header log i ≡ true
  pub one : (i : ℕ) → done ≤ i → i + 1 < end → (frame_of header new i).size ≡ 0
  pub pages : (i : ℕ) → done < i → i < end → (frame_of header new i).page < count_page

-- It is written behind a frame that is shut until all of it is safe, in parts that each end with a frame as a
-- transaction does, if it is large. What lies there is anything at all, but that no counted transaction begins there.
pub record IsBehindShut (header : Header) (log : List ℕ) (done : ℕ) : Type 0 where
  pub ended : start_of header log done ≡ done
  pub whole : (i : ℕ) → i < done → checks header log i ≡ true
  pub shut : is_shut header log done ≡ true
  pub alone : (i : ℕ) → done < i → begins header log i ≡ false

-- It is written over zeros, before a frame that is shut, and its first frame counts: each byte is 0 still or the new
-- one, in any order. No counted transaction begins behind the zeros.
pub record IsOverZeros (header : Header) (new log : List ℕ) (done end : ℕ) : Type 0 where
  pub more : IsOneMore header new log done end
  pub bytes : (x : ℕ) → slice_index new x < 256
  pub counts : (frame_of header new done).page ≡ count_page
  pub each : (x : ℕ) → frame_at header done ≤ x → x < frame_at header end
      → (slice_index log x ≡ 0) ⊎ (slice_index log x ≡ slice_index new x)
  pub shut : is_shut header log end ≡ true
  pub alone : (i : ℕ) → end < i → begins header log i ≡ false

-- It is written from its front on over an older log, of other salts: the bytes below `reached` are new, and all others
-- those of the older log.
pub record IsOverOlder (header : Header) (old new log : List ℕ) (done end reached : ℕ) : Type 0 where
  pub more : IsOneMore header new log done end
  pub front : (x : ℕ) → x < reached → slice_index log x ≡ slice_index new x
  pub back : (x : ℕ) → reached ≤ x → slice_index log x ≡ slice_index old x
  pub older : (i : ℕ) → done ≤ i
      → ((frame_of header old i).salt ≢ header.salt) ⊎ ((frame_of header old i).second_salt ≢ header.second_salt)
  pub within : reached ≤ frame_at header end

-- whichever way it is written, and whenever that stops, the log is cut short
abbrev pub StopsCutShort : Type 0
StopsCutShort =
    (header : Header) (log : List ℕ) (done : ℕ)
    → (IsBehindShut header log done → IsCutShort header log)
    × ((new : List ℕ) (end : ℕ) → IsOverZeros header new log done end → IsCutShort header log)
    × ((old new : List ℕ) (end reached : ℕ) → IsOverOlder header old new log done end reached → IsCutShort header log)

-- The log `old` of `count` frames, whose pages are all in the file, is emptied: its first 41 bytes, the head and the
-- next frame up to the byte that shuts it, are written anew in any order, but the first of all is 0 still.
pub record IsOverHead (file old log : List ℕ) (count : ℕ) : Type 0 where
  pub sized : page_size_of file log ≡ (header_of old).page_size
  pub some : 2 ≤ count
  pub carried : (i : ℕ) → i < count → carries (header_of old) old i ≡ true
  pub stop : carries (header_of old) old count ≡ false
  pub moved : (i : ℕ) → i < count → IsNewest (header_of old) old count i
      → (frame_of (header_of old) old i).page ≤ (frame_of (header_of old) old (count - 1)).size
      → HasPage (header_of old) file old i
  pub long : length log ≡ length old
  pub gate : slice_index log 0 ≡ 0
  pub bytes : (x : ℕ) → slice_index log x < 256
  pub rest : (x : ℕ) → 41 ≤ x → slice_index log x ≡ slice_index old x

-- whenever that stops, the log is one that is being emptied
abbrev pub StopsEmptied : Type 0
StopsEmptied = (file old log : List ℕ) (count : ℕ) → IsOverHead file old log count → IsEmptied file log

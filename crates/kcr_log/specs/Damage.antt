-- When a log was damaged after it was safe.
use Rattle.std.specs.Prelude.{◌≡◌, ℕ, ◌+◌, ◌-◌, ◌/◌, ◌<◌, ◌≤◌, ◌⊎◌, ◌==◌, ◌&&◌, ◌||◌, not, nat_lt, Bool, true, false, if◌then◌else◌, List, length}
use Rattle.sqlite_wal.specs.Format.{be32, count_page}
use Rattle.kcr_log.specs.declared.{frames.Header.Header, judgement.Log.Log}
use Rattle.kcr_log.specs.declared.judgement.Log.TheVariants.{Sound, WrongHead, WrongFrame, NoFile}
use Rattle.kcr_log.specs.Frames.{header_of, is_signed, frame_count, frame_of, checks, commits, commits_from, ends_in, start_of, begins_in}
use Rattle.kcr_log.specs.Pages.{page_size_of, told_header, second_header, HasLost}

-- The byte that a writer puts first among the salts of a frame that is not to be read yet. It is not the log's own.
abbrev pub shut_byte : Header → ℕ
shut_byte header = if header.salt / 0x100_0000 == 0 then 1 else 0

-- frame i is not to be read yet, whatever lies behind it
unfoldable pub is_shut : Header → List ℕ → ℕ → Bool
is_shut header log i = (frame_of header log i).salt / 0x100_0000 == shut_byte header

-- how many frames end a transaction in frame i and those behind it, up to the first of these without the salts
unfoldable pub commits_behind : Header → List ℕ → ℕ → ℕ
commits_behind header log i =
    (if commits header log i then 1 else 0) + commits_from header log (i + 1) (frame_count header log - (i + 1))

-- frame i was to be read, and two transactions end in it and in the frames that follow it with the salts
unfoldable pub is_followed : Header → List ℕ → ℕ → Bool
is_followed header log i = not (is_shut header log i) && nat_lt 1 (commits_behind header log i)

-- a counted transaction begins behind frame i
unfoldable pub is_passed : Header → List ℕ → ℕ → Bool
is_passed header log i = begins_in header log (i + 1) (frame_count header log - (i + 1))

-- The first frame of the transaction of frame i is to be read, and has the number of a page. The engine lets such a
-- frame be read once all of its transaction is safe.
unfoldable pub is_opened : Header → List ℕ → ℕ → Bool
is_opened header log i =
    let first = start_of header log i in
    let page = (frame_of header log first).page in
    not (is_shut header log first) && not (page == 0) && not (page == count_page)

-- Frame i, the first that does not check, was safe: more is there of it, or behind it, than a stop leaves.
unfoldable pub was_safe : Header → List ℕ → ℕ → Bool
was_safe header log i =
    is_followed header log i || is_passed header log i
    || (is_opened header log i && nat_lt 1 (ends_in header log i (frame_count header log - i)))

-- Each frame before this one checks, and this one, counted from 1, does not, though it was safe. In it and after it
-- `behind` frames with the salts end a transaction.
pub record IsWrongFrame (log : List ℕ) (first behind : ℕ) : Type 0 where
  pub signed : is_signed log ≡ true
  pub counted : 1 ≤ first
  pub before : (i : ℕ) → i + 1 < first → checks (header_of log) log i ≡ true
  pub wrong : checks (header_of log) log (first - 1) ≡ false
  pub safe : was_safe (header_of log) log (first - 1) ≡ true
  pub behind_is : behind ≡ ends_in (header_of log) log (first - 1) (frame_count (header_of log) log - (first - 1))

-- the log has transactions that are ended, and the file not one byte
pub record IsWithoutFile (file log : List ℕ) (ended : ℕ) : Type 0 where
  pub empty : length file ≡ 0
  pub signed : is_signed log ≡ true
  pub first : checks (header_of log) log 0 ≡ true
  pub ended_is : ended ≡ commits_from (header_of log) log 0 (frame_count (header_of log) log - 0)
  pub some : 0 < ended

-- The head does not check and is not being written anew, since its first byte is not 0, and yet the second frame goes
-- on from the first. This many transactions end in the frames with the salts of the first.
pub record IsWrongHead (file log : List ℕ) (ended : ℕ) : Type 0 where
  pub wrong : is_signed log ≡ false
  pub not_begun : 0x100_0000 ≤ be32 log 0
  pub agree : (checks (told_header false (page_size_of file log) log) log 1 || checks (told_header true (page_size_of file log) log) log 1) ≡ true
  pub ended_is : let header = told_header false (page_size_of file log) log in
      ended ≡ commits_from header log 0 (frame_count header log - 0)
  pub some : 0 < ended

-- The head does not check, and the transactions in the frames behind the first are not all in the file. This many of
-- them end there.
pub record IsLostHead (file log : List ℕ) (ended : ℕ) : Type 0 where
  pub wrong : is_signed log ≡ false
  pub lost : HasLost (second_header file log) file log ended

-- what the answer says of a damaged log; that it is sound says no such thing
abbrev pub IsDamage : List ℕ → List ℕ → Log → Type 0
IsDamage file log Sound = ⊥
IsDamage file log (WrongHead ended) = IsWrongHead file log ended ⊎ IsLostHead file log ended
IsDamage file log (WrongFrame first behind) = IsWrongFrame log first behind
IsDamage file log (NoFile ended) = IsWithoutFile file log ended

-- the answer is right: it names a damage that is there, or there is none
abbrev pub IsJudged : List ℕ → List ℕ → Log → Type 0
IsJudged file log Sound = (damage : Log) → ¬ IsDamage file log damage
IsJudged file log (WrongHead ended) = IsWrongHead file log ended ⊎ IsLostHead file log ended
IsJudged file log (WrongFrame first behind) = IsWrongFrame log first behind
IsJudged file log (NoFile ended) = IsWithoutFile file log ended

-- A day number and its date name each other.
use Rattle.std.proofs.Common.{◌≡◌, All, ℕ, cond, nat_lt, zero, suc, ◌+◌, ◌-◌, ◌*◌, ◌/◌, ◌%◌, ◌<◌, ◌≤◌, List, [], ◌∷◌, ◌++◌, get_or, length, take}
use Rattle.std.proofs.Common.{drop, refl, sym, ap, arith, ℤ, pos, ◌+ℤ◌}
use Rattle.std.proofs.lemmas.{List.Elements.All-append, List.Elements.All-from_recursion, List.take-append-drop, Bool.Decides.nat_tests}
use Rattle.jiff_core.specs.Calendar.{IsCivilDate, day_count, days_from_civil, days_in_year, days_in_month}
use Rattle.jiff_core.proofs.{SignedLemmas.signed_arith, DateLemmas.civil, DateLemmas.epoch_day_injective}
use Rattle.jiff_core.proofs.MarchLemmas.{day_count-early, day_count-late}
use Rattle.jiff_core.proofs.CalendarLemmas.{days_from_civil-day_count, day_count-next_year, days_in_month_bounds, day_count-lt_year}
use Rattle.jiff_core.proofs.CalendarLemmas.{day_count-next_month, day_count-day, day_count-last_of_year}
use Rattle.jiff_core.specs.{declared.civil.date.Date.Date, Date.epoch_day}
use Rattle.kcr_base.specs.Day.{IsDayOf, IsDay, year_from, month_from, year_of, month_of, day_of_month, day_text, date_text, IsDateParts}
use Rattle.kcr_base.specs.Moment.{clock_text, moment_text, IsMoment}

day_count-2000 : day_count (pos 2000) 1 1 ≡ 4_382_910
day_count-2000 = day_count-early (pos 2000) 11999 1 1 refl (omega arith) (omega arith) (omega arith)

day_count-2100 : day_count (pos 2100) 1 1 ≡ 4_419_435
day_count-2100 = day_count-early (pos 2100) 12099 1 1 refl (omega arith) (omega arith) (omega arith)

-- the first day's count is at most that of each date from then on
from_2000 : (y m d : ℕ) → IsCivilDate (pos y) m d → 2000 ≤ y → 4_382_910 ≤ day_count (pos y) m d
from_2000 y m d h from =
    let year_before = day_count-lt_year (pos 1999) 12 31 (pos y) m d (omega (arith, signed_arith)) h.2.0 (omega (arith, signed_arith)) in
    omega (arith, year_before, day_count-late (pos 1999) 11999 12 31 refl (omega arith) (omega arith) (omega arith))

-- ---- periods, each of which starts where the one before ends, as years and months

module _ (days start : ℕ → ℕ) (first : ℕ) (go : ℕ → ℕ → ℕ → ℕ × ℕ) (next : (y : ℕ) → first ≤ y → start (y + 1) ≡ start y + days y)
    (stop : (y n : ℕ) → go 0 y n ≡ (y, n)) (step : (k y n : ℕ) → go (suc k) y n ≡ cond (nat_lt n (days y)) (y, n) (go k (y + 1) (n - days y))) where
  -- the walk finds the period in which day n after the start of y lies, and how many days of it are gone
  walk-is : (k y n : ℕ) → first ≤ y → n + start y < start (y + k + 1)
      → (y ≤ (go k y n).0) × ((go k y n).0 ≤ y + k) × ((go k y n).1 < days (go k y n).0) × ((go k y n).1 + start (go k y n).0 ≡ n + start y)
  walk-is zero y n low h = grind (arith, stop y n, next y low)
  walk-is (suc k) y n low h = grind (arith, nat_tests, step k y n, next y low, walk-is k (y + 1) (n - days y))

-- ---- the date

-- the date of a day number is a date with that number
pub date_of_number : (n : ℕ) → IsDay n → IsDayOf (year_of n) (month_of n) (day_of_month n) n
unfolding year_of month_of day_of_month year_from month_from
date_of_number n h =
    let year = walk-is (λ y. days_in_year (pos y)) (λ y. day_count (pos y) 1 1) 0 year_from
    (λ y low. day_count-next_year (pos y) (pos (y + 1)) (omega (arith, signed_arith)) (omega (arith, signed_arith))) (λ y n. refl) (λ k y n. refl)
    99 2000 (n - 10957) (omega arith) (omega (arith, h.from, h.until, day_count-2000, day_count-2100)) in
    let y = pos (year_of n) in
    let month = walk-is (days_in_month y) (λ m. day_count y m 1) 1 (λ k m d. month_from k (year_of n) m d) (day_count-next_month y)
    (λ m d. refl) (λ k m d. refl) 11 1 (year_from 99 2000 (n - 10957)).1 (omega arith)
    (omega (arith, year.2, day_count-last_of_year y, day_count-day y 12 31 1 (omega arith) (omega arith), day_count-next_month y 12 (omega arith))) in
    let day = day_count-day y (month_of n) (day_of_month n) 1 (omega arith) (omega arith) in
    omega (arith, signed_arith, days_from_civil-day_count y (month_of n) (day_of_month n), h.from, year, month, day_count-2000, day)

-- the first and the last day of a date's hundred years
pub number_in_range : (y m d n : ℕ) → IsDayOf y m d n → IsDay n
number_in_range y m d n h =
    let high = day_count-lt_year (pos y) m d (pos 2100) 1 1 h.civil (omega arith) (omega (arith, signed_arith, h.until)) in
    omega (arith, signed_arith, days_from_civil-day_count (pos y) m d, h.number, from_2000 y m d h.civil h.from, high, day_count-2100)

-- the date of a day's number
abbrev date_of : (y m d n : ℕ) → IsDayOf y m d n → Date
date_of y m d n h = record { year = pos y; month = m; day = d; year_in = h.civil.0; month_in = h.civil.1; day_in = h.civil.2 }

-- a date of the calendar has the year, month and day that its day number gives
pub date_is : (n : ℕ) (date : Date) → IsDay n → epoch_day date +ℤ pos 4_371_587 ≡ pos (n + 4_371_587)
    → (date.year ≡ pos (year_of n)) × (date.month ≡ month_of n) × (date.day ≡ day_of_month n)
date_is n date h e =
    let d = date_of_number n h in epoch_day_injective date (date_of _ _ _ n d) (omega (arith, signed_arith, e, d.number))

-- ---- the calendar's answer

-- the date that was found has the day's number
pub date_found : (y m d : ℕ) (date : Date) (z : ℤ) → 2000 ≤ y → y ≤ 2099 → date.year ≡ pos y → pos date.month ≡ pos m → pos date.day ≡ pos d
    → z ≡ epoch_day date → (n : ℕ) × (z ≡ pos n) × IsDayOf y m d n
date_found y m d date z from until year month day e =
    let civil' : IsCivilDate (pos y) m d = grind (arith, signed_arith, civil date) in
    let number : days_from_civil (pos y) m d ≡ pos (day_count (pos y) m d - 4_371_953) =
    omega (arith, signed_arith, days_from_civil-day_count (pos y) m d, from_2000 y m d civil' from) in
    (day_count (pos y) m d - 4_371_953, cc, record { civil = civil'; from = from; until = until; number = number })

-- ---- the text

-- the text of a date's day number is the date's text
pub day_text_of_date : (y m d n : ℕ) → IsDayOf y m d n → day_text n ≡ date_text y m d
unfolding day_text
day_text_of_date y m d n h =
    let same = date_is n (date_of y m d n h) (number_in_range y m d n h) (omega (arith, signed_arith, h.number)) in cc

-- a day's text is that of a date
pub parts_of_day : (n : ℕ) → IsDay n
    → IsDateParts (year_of n) (month_of n) (day_of_month n) × (date_text (year_of n) (month_of n) (day_of_month n) ≡ day_text n)
unfolding day_text
parts_of_day n h = (omega (arith, date_of_number n h, days_in_month_bounds (pos (year_of n)) (month_of n)), refl)

-- ---- moments

-- the two parts of a moment's text
pub moment_parts : (t : ℕ) (bytes : List ℕ) → moment_text t ≡ bytes
    → (length bytes ≡ 20) × (day_text (t / 86400) ≡ take 10 bytes) × (84 ∷ clock_text (t % 86400) ++ 90 ∷ [] ≡ drop 10 bytes)
unfolding moment_text day_text
moment_parts t bytes e = (ap length (sym e), ap (λ (xs : List ℕ). take 10 xs) e, ap (λ (xs : List ℕ). drop 10 xs) e)

-- the text of a day and that of a second of the day make the text of the moment
pub moment_whole : (day time : ℕ) (bytes : List ℕ) → time < 86400 → day_text day ≡ take 10 bytes → 84 ∷ clock_text time ++ 90 ∷ [] ≡ drop 10 bytes
    → moment_text (day * 86400 + time) ≡ bytes
unfolding moment_text
moment_whole day time bytes h date clock = grind (arith, take-append-drop 10 bytes)

-- the day of a moment is a day
pub day_of_moment : (t : ℕ) → IsMoment t → IsDay (t / 86400)
day_of_moment t h = record { from = omega (arith, h.from); until = omega (arith, h.until) }

-- ---- the bytes are ASCII

-- a day's text is ASCII
pub day_ascii : (n : ℕ) → IsDay n → All (λ b. b < 128) (day_text n)
unfolding day_text
day_ascii n h = All-from_recursion (λ b. b < 128) (day_text n) (grind (arith, (parts_of_day n h).0))

-- a moment's text is ASCII
pub moment_ascii : (t : ℕ) → IsMoment t → All (λ b. b < 128) (moment_text t)
unfolding moment_text day_text
moment_ascii t h =
    All-append (λ b. b < 128) (day_text (t / 86400)) (84 ∷ clock_text (t % 86400) ++ 90 ∷ []) (day_ascii (t / 86400) (day_of_moment t h))
    (All-from_recursion (λ b. b < 128) (84 ∷ clock_text (t % 86400) ++ 90 ∷ []) (grind arith))

-- the two bytes from this one on
abbrev pub two_at : ℕ → List ℕ → List ℕ
two_at i bytes = get_or bytes i 0 ∷ get_or bytes (i + 1) 0 ∷ []

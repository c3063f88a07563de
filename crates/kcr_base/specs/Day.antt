-- Days: their numbers, dates and texts.
use Rattle.std.specs.Prelude.{◌≡◌, ℕ, zero, suc, ◌+◌, ◌-◌, ◌/◌, ◌%◌, ◌<◌, ◌≤◌, nat_lt, if◌then◌else◌, List, [], ◌∷◌, ◌++◌, pos}
use Rattle.jiff_core.specs.Calendar.{IsCivilDate, days_from_civil, days_in_year, days_in_month}

-- day number n is this date, of the years 2000 to 2099
pub record IsDayOf (y m d n : ℕ) : Type 0 where
  pub civil : IsCivilDate (pos y) m d
  pub from : 2000 ≤ y
  pub until : y ≤ 2099
  pub number : days_from_civil (pos y) m d ≡ pos n

-- a day number from 2000-01-01 to 2099-12-31
pub record IsDay (n : ℕ) : Type 0 where
  pub from : 10957 ≤ n
  pub until : n < 47482

-- the year in which day n after 1 January of year y lies, and the days of it that are gone, within k years
unfoldable pub year_from : ℕ → ℕ → ℕ → ℕ × ℕ
year_from zero y n = (y, n)
year_from (suc k) y n =
    if nat_lt n (days_in_year (pos y)) then (y, n) else year_from k (y + 1) (n - days_in_year (pos y))

-- the month in which day n after the first of month m lies, and the days of it that are gone, within k months
unfoldable pub month_from : ℕ → ℕ → ℕ → ℕ → ℕ × ℕ
month_from zero y m n = (m, n)
month_from (suc k) y m n =
    if nat_lt n (days_in_month (pos y) m) then (m, n) else month_from k y (m + 1) (n - days_in_month (pos y) m)

-- the date of a day number: the year, the month, the day
unfoldable pub year_of : ℕ → ℕ
year_of n = (year_from 99 2000 (n - 10957)).0

unfoldable pub month_of : ℕ → ℕ
month_of n = (month_from 11 (year_of n) 1 (year_from 99 2000 (n - 10957)).1).0

unfoldable pub day_of_month : ℕ → ℕ
day_of_month n = (month_from 11 (year_of n) 1 (year_from 99 2000 (n - 10957)).1).1 + 1

-- a number below 100 in two digits
abbrev pub two_digits : ℕ → List ℕ
two_digits n = (48 + n / 10) ∷ (48 + n % 10) ∷ []

-- `YYYY-MM-DD`
abbrev pub date_text : ℕ → ℕ → ℕ → List ℕ
date_text y m d = two_digits (y / 100) ++ two_digits (y % 100) ++ 45 ∷ two_digits m ++ 45 ∷ two_digits d

-- a day's text, `YYYY-MM-DD`
unfoldable pub day_text : ℕ → List ℕ
day_text n = date_text (year_of n) (month_of n) (day_of_month n)

-- numbers that a date's text can tell
pub record IsDateParts (y m d : ℕ) : Type 0 where
  pub year : y < 10000
  pub month : m < 100
  pub day : d < 100

-- Days and moments as numbers.
use Rattle.std.specs.Prelude.{ℕ, ◌/◌}

-- the day of a moment: a moment's number is its day's number times 86,400, plus the second of the day
abbrev pub day_of : ℕ → ℕ
day_of moment = moment / 86400

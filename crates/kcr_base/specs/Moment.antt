-- Moments: their numbers and texts.
use Rattle.std.specs.Prelude.{ℕ, ◌*◌, ◌/◌, ◌%◌, ◌<◌, ◌≤◌, List, [], ◌∷◌, ◌++◌}
use Rattle.kcr_base.specs.Day.{two_digits, day_text}

-- a moment from 2000-01-01T00:00:00Z to 2099-12-31T23:59:59Z
pub record IsMoment (t : ℕ) : Type 0 where
  pub from : 10957 * 86400 ≤ t
  pub until : t < 47482 * 86400

-- `HH:MM:SS` of a second of the day
abbrev pub clock_text : ℕ → List ℕ
clock_text s = two_digits (s / 3600) ++ 58 ∷ two_digits (s / 60 % 60) ++ 58 ∷ two_digits (s % 60)

-- a moment's text, `YYYY-MM-DDTHH:MM:SSZ`
unfoldable pub moment_text : ℕ → List ℕ
moment_text t = day_text (t / 86400) ++ 84 ∷ clock_text (t % 86400) ++ 90 ∷ []

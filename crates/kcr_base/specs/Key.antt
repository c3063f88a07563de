-- The form of a command's key.
use Rattle.std.specs.Prelude.{◌≡◌, ℕ, ◌≤◌, ◌⊎◌, List, length, All}
use Rattle.kcr_base.specs.{Initials.IsCapital, Serial.IsDigit}

-- a letter, a digit or `-`
abbrev pub IsKeyByte : ℕ → Type 0
IsKeyByte b = IsCapital b ⊎ (((97 ≤ b) × (b ≤ 122)) ⊎ (IsDigit b ⊎ (b ≡ 45)))

-- one to forty of them
pub record IsKey (bytes : List ℕ) : Type 0 where
  pub not_empty : 1 ≤ length bytes
  pub short : length bytes ≤ 40
  pub each : All IsKeyByte bytes

-- Texts that are cut at a byte.
use Rattle.std.specs.Prelude.{ℕ, ◌+◌, ◌==◌, List, take, drop, Option, option_map}
use Rattle.std.specs.List.{position}

-- what stands before the first such byte, and what after it
unfoldable pub split_at_byte : ℕ → List ℕ → Option (List ℕ × List ℕ)
split_at_byte byte text = option_map (λ i. (take i text, drop (i + 1) text)) (position (λ b. b == byte) text)

-- what a text tells, if it tells something
abbrev pub Reader : Type 0 → Type 0
Reader V = List ℕ → Option V

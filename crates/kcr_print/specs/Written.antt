-- A text that was written whole, or a prefix of it.
use Rattle.std.specs.Prelude.{ℕ, List, take, Option, Result, MatchResult}
use Rattle.std.specs.Io.KnownBytes.{Appends}

-- a prefix of the text was written
abbrev pub WritesPrefix : Option (List ℕ) → Option (List ℕ) → List ℕ → Type 0
WritesPrefix old new text = (n : ℕ) × Appends old new (take n text)

-- after Ok the text was written, and after a fault a prefix of it
abbrev pub Writes : {T E : Type 0} → Result T E → Option (List ℕ) → Option (List ℕ) → List ℕ → Type 0
Writes r old new text = MatchResult r (λ _. Appends old new text) (λ _. WritesPrefix old new text)

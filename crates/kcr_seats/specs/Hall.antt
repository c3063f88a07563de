-- The theorem of Hall: of every relation there is a seating, or there are seats that too few people fit, and never
-- both.
use Rattle.std.specs.Prelude.{ℕ, Bool, List, ◌⊎◌}
use Rattle.kcr_seats.specs.Seating.{IsSeating, IsShort}

-- every relation has a seating or a short list of seats
abbrev pub SeatingOrShort : Type 0
SeatingOrShort =
    (fits : ℕ → ℕ → Bool) (seats people : ℕ) → ((w : List ℕ) × IsSeating fits seats people w)
    ⊎ ((s : List ℕ) × IsShort fits seats people s)

-- a relation that has a seating has no short list of seats
abbrev pub NotBoth : Type 0
NotBoth =
    (fits : ℕ → ℕ → Bool) (seats people : ℕ) (w s : List ℕ) → IsSeating fits seats people w
    → IsShort fits seats people s → ⊥

-- How long a connection is waited for.
use Rattle.std.specs.Prelude.{◌≡◌, ◌⊎◌, ◌-◌, ◌<◌, ◌≤◌, ◌∷◌, ℕ, Option, Some, IfSome, min}
use Rattle.kcr_edges.specs.Asked.{Asked}

-- a byte was waited for: for `most` milliseconds at most, and never past `last`, when the connection ends
abbrev pub HasWaited : ℕ → ℕ → Asked → Asked → Type 0
HasWaited last most old new = (new.time < last) × (new.waits ≡ (new.time, min most (last - new.time)) ∷ old.waits)

-- no byte was waited for: the connection has lasted until `last`, or the system failed
abbrev pub HasNotWaited : ℕ → Asked → Asked → Type 0
HasNotWaited last old new = ((last ≤ new.time) ⊎ (old.failures < new.failures)) × (new.waits ≡ old.waits)

-- one of the two
abbrev pub AwaitsByte : ℕ → ℕ → Option Asked → Option Asked → Type 0
AwaitsByte last most old new = IfSome old (λ a. (b : Asked) × (new ≡ Some b) × (HasWaited last most a b ⊎ HasNotWaited last a b))

-- bytes were offered: for the milliseconds at most that are left of 30 seconds, of which `over` milliseconds are over
abbrev pub HasOffered : ℕ → Asked → Asked → Type 0
HasOffered over old new = (over < 30000) × (time : ℕ) × (new.waits ≡ (time, 30000 - over) ∷ old.waits)

-- none were offered: the 30 seconds are over, or the system failed
abbrev pub HasNotOffered : ℕ → Asked → Asked → Type 0
HasNotOffered over old new = ((30000 ≤ over) ⊎ (old.failures < new.failures)) × (new.waits ≡ old.waits)

-- one of the two
abbrev pub OffersBytes : ℕ → Option Asked → Option Asked → Type 0
OffersBytes over old new = IfSome old (λ a. (b : Asked) × (new ≡ Some b) × (HasOffered over a b ⊎ HasNotOffered over a b))

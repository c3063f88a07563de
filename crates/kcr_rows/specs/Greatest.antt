-- The row with the greatest number.
use Rattle.std.specs.Prelude.{◌≡◌, ◌⊎◌, ◌≤◌, ℕ, List, [], ◌∷◌}
use Rattle.std.specs.List.{AllByRecursion}
use Rattle.sqlite_rules.specs.Lists.{Has}

-- none if there is no row, and else one row of them that no other exceeds
abbrev pub IsGreatest : {X : Type 0} → (X → ℕ) → List X → List X → Type 0
IsGreatest {X = X} number all shown =
    ((all ≡ []) × (shown ≡ []))
    ⊎ ((row : X) × (shown ≡ row ∷ []) × Has all row × AllByRecursion (λ x. number x ≤ number row) all)

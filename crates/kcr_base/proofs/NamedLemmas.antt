-- Whether one is among several that are named by their texts.
use Rattle.std.proofs.Common.{◌≡◌, ℕ, Bool, List, [], ◌∷◌, map, refl}
use Rattle.std.specs.List.{list_any}
use Rattle.kcr_base.specs.{Same.same_text, Lists.is_among}
use Rattle.kcr_base.proofs.SameLemmas.{same-turned}

-- what equals one of them has its text
pub among-texts : {X : Type 0} (eq : X → X → Bool) (text : X → List ℕ) → ((one other : X) → eq one other ≡ same_text (text one) (text other))
    → (one : X) (all : List X) → list_any (λ other. eq other one) all ≡ is_among (map text all) (text one)
among-texts eq text same one [] = refl
among-texts eq text same one (other ∷ all) = rw (same other one, same-turned (text other) (text one), among-texts eq text same one all) refl

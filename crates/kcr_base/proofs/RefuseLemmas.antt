-- Refusals that hold, and those of which none does.
use Rattle.std.proofs.Common.{◌≡◌, ◌≢◌, ◌⊎◌, inl, inr, Bool, true, false, not, List, [], ◌∷◌, Option, None, refl, arith}
use Rattle.kcr_base.specs.{declared.refusal.Refusal.Refusal, declared.refusal.Refusal.TheVariants.Memory, Refuse.when, Refuse.first_of}

-- no refusal of the list holds
abbrev pub NoneHolds : List (Option Refusal) → Type 0
NoneHolds [] = Unit {0}
NoneHolds (o ∷ os) = (o ≡ None) × NoneHolds os

-- if there is no first refusal, none holds
pub none_holds : (os : List (Option Refusal)) → first_of os ≡ None → NoneHolds os
none_holds [] h = tt
none_holds (o ∷ os) h = grind (arith, none_holds os)

-- if none holds, there is no first refusal
pub no_first : (os : List (Option Refusal)) → NoneHolds os → first_of os ≡ None
no_first [] h = refl
no_first (o ∷ os) h = grind (arith, no_first os h.1)

-- if a refusal does not hold, neither does its condition
pub unmet : (b : Bool) (r : Refusal) → when b r ≡ None → b ≡ false
unmet b r h = grind arith

-- if the refusal of what is not so does not hold, it is so
pub met : (b : Bool) (r : Refusal) → when (not b) r ≡ None → b ≡ true
met b r h = grind arith

-- a refusal is out of memory, or it is another one
pub is_memory : (r : Refusal) → (r ≡ Memory) ⊎ (r ≢ Memory)
is_memory Memory = inl refl
is_memory r = inr (λ e. cc)

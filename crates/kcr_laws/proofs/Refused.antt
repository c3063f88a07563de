-- Which condition a first refusal is of.
use Rattle.kcr_laws.proofs.Common.{◌≡◌, ◌≢◌, ℕ, Bool, true, false, ◌==◌, List, [], ◌∷◌, ◌++◌, Option, Some, None, option_map, ap, eqb-false, when}
use Rattle.kcr_laws.proofs.Common.{first_of, Refusal, Crowd, Lone}

-- REFUSALS OF OTHER KINDS

-- what a refusal tells: that a room would be too full, that somebody would be alone in it; or something else
abbrev pub kind : Refusal → ℕ
kind Crowd = 1
kind (Lone t) = 2
kind other = 0

-- a condition's refusal is of another kind than this one; each of some conditions' are
abbrev pub IsOther : Refusal → Option Refusal → Type 0
IsOther r None = Unit {0}
IsOther r (Some q) = (kind q == kind r) ≡ false

abbrev pub AreOther : Refusal → List (Option Refusal) → Type 0
AreOther r [] = Unit {0}
AreOther r (o ∷ os) = IsOther r o × AreOther r os

-- a condition with a refusal of another kind gives none of this kind
pub other_when : (r : Refusal) (b : Bool) (q : Refusal) → (kind q == kind r) ≡ false → IsOther r (when b q)
other_when r true q e = e
other_when r false q e = tt

-- a refusal made of an optional value is of another kind if all such refusals are
pub other_of_some : {X : Type 0} (r : Refusal) (refuse : X → Refusal) → ((x : X) → (kind (refuse x) == kind r) ≡ false) → (o : Option X)
    → IsOther r (option_map refuse o)
other_of_some r refuse e None = tt
other_of_some r refuse e (Some x) = e x

apart : (q r : Refusal) → (kind q == kind r) ≡ false → Some q ≢ Some r
apart q r e h = let same : q ≡ r = cc in eqb-false (kind q) (kind r) e (ap kind same)

-- conditions of other kinds do not have the refusal
pub not_of : (r : Refusal) (os : List (Option Refusal)) → AreOther r os → first_of os ≢ Some r
not_of r [] a h = absurd (let e : None ≡ Some r = h in cc)
not_of r (None ∷ os) a h = not_of r os a.1 h
not_of r (Some q ∷ os) a h = apart q r a.0 h

-- a first refusal is that of the one condition of its kind
pub of_the_one : (r : Refusal) (before : List (Option Refusal)) (o : Option Refusal) (after : List (Option Refusal)) → AreOther r before → AreOther r after
    → first_of (before ++ (o ∷ after)) ≡ Some r → o ≡ Some r
of_the_one r [] None after b a h = absurd (not_of r after a h)
of_the_one r [] (Some q) after b a h = h
of_the_one r (None ∷ before) o after b a h = of_the_one r before o after b.1 a h
of_the_one r (Some q ∷ before) o after b a h = absurd (apart q r b.0 h)

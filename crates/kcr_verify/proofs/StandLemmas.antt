-- Where a register stands after a call that did not break it.
use Rattle.kcr_verify.proofs.Common.{◌≡◌, Bool, true, false, refl, subst, Ghosts, left_at, RegisterHistory, RegisterState, StandsAt}

-- where it stood
pub still_stands : {S : Type 0} {g : Ghosts S} {r : RegisterState S} {s : RegisterHistory} → r.is_broken ≡ false
    → StandsAt g (left_at r.is_broken s) r → StandsAt g s r
still_stands {g = g} {r = r} {s = s} unbroken at = subst (λ (b : Bool). StandsAt g (left_at b s) r) unbroken at

-- a fault leaves what was accepted
pub left_accepted : (b : Bool) (s : RegisterHistory) → s.accepted ≡ (left_at b s).accepted
left_accepted true s = refl
left_accepted false s = refl

-- What a result tells that is a refusal, or else a value.
use Rattle.kcr_rules.proofs.Common.{◌≡◌, ◌≢◌, Option, Some, None, refl, Result, Ok, Err, sym, ap, ◌∙◌, MatchResult, IsErrAnd, unless, Refusal, Memory}

-- the refusal is the one that was told
pub refused : {X : Type 0} (f : Option Refusal) (v : X) (result : Result X Refusal) (r : Refusal) → result ≡ unless f v → result ≡ Err r → f ≡ Some r
refused None v result r e g = absurd (let k : Ok v ≡ Err r = sym e ∙ g in cc)
refused (Some s) v result r e g = let k : Err s ≡ Err r = sym e ∙ g in cc

-- there is none, and the value is the one that was told
pub accepted : {X : Type 0} (f : Option Refusal) (v : X) (result : Result X Refusal) (x : X) → result ≡ unless f v → result ≡ Ok x → (f ≡ None) × (x ≡ v)
accepted None v result x e g = (refl, let k : Ok v ≡ Ok x = sym e ∙ g in cc)
accepted (Some s) v result x e g = absurd (let k : Err s ≡ Ok x = sym e ∙ g in cc)

-- a refusal that is handed on is the one that was told
pub refuses : {Y : Type 0} (Q : Y → Type 0) (f : Option Refusal) (e : Refusal) (result : Result Y Refusal) → f ≡ Some e
    → IsErrAnd result (λ s. s ≡ e) → MatchResult result Q (λ s. s ≢ Memory → f ≡ Some s)
refuses Q f e (Ok y) told is = absurd is
refuses Q f e (Err s) told is = λ ne. told ∙ ap Some (sym is)

-- An act without a refusal is not decided over a full register: each kind of act has that among its refusals, early or late.
use Rattle.kcr_rules.proofs.Common.{◌≡◌, Bool, false, None, Result, Ok, Err, arith, OnOk, Refusal, Act, Ceremony, Open, RecordSheet, View, Effect}
use Rattle.kcr_rules.proofs.Common.{early_refusal_by, late_refusal_by, IsEffectResult}

not-full : (view : View) (full : Bool) (act : Act) → early_refusal_by view full act ≡ None → late_refusal_by view full act ≡ None → full ≡ false
not-full view full (Ceremony ceremony at Open) e l = grind (arith, l)
not-full view full (Ceremony ceremony at (RecordSheet way people)) e l = grind (arith, l)
not-full view full (Ceremony ceremony at deed) e l = grind (arith, e)
not-full view full act e l = grind (arith, l)

-- if an act is not refused, the register is not full
pub not-full-result : (view : View) (full : Bool) (act : Act) (result : Result Effect Refusal) → early_refusal_by view full act ≡ None
    → IsEffectResult view full act result → OnOk result (full ≡ false)
not-full-result view full act (Ok acted) e is = not-full view full act e is.fine
not-full-result view full act (Err refusal) e is = tt

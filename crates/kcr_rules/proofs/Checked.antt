-- What the check of an act tells, by its test.
use Rattle.kcr_rules.proofs.Common.{◌≡◌, Bool, false, Some, None, Result, Ok, Err, MatchResult, OnOk, IsTestResult, Refusal, Act, View, IsCheckResult}
use Rattle.kcr_rules.proofs.Common.{early_refusal_by, has_too_many_steps}

-- if the rows have no more steps done than a script has, what the act's test gives is the check's result
pub checked : {X : Type 0} (view : View) (full : Bool) (act : Act) (result : Result X Refusal) → has_too_many_steps view act ≡ false
    → IsTestResult (early_refusal_by view full act) result → IsCheckResult view full act result
checked view full act (Ok x) few told = (told, few)
checked view full act (Err r) few told = λ _. told

-- so of an act on steps, which tells also that there are no more done than a script has
pub checked-steps : {X : Type 0} (view : View) (full : Bool) (act : Act) (result : Result X Refusal)
    → MatchResult result (λ _. early_refusal_by view full act ≡ None) (λ r. has_too_many_steps view act ≡ false → early_refusal_by view full act ≡ Some r)
    → OnOk result (has_too_many_steps view act ≡ false) → IsCheckResult view full act result
checked-steps view full act (Ok x) told few = (told, few)
checked-steps view full act (Err r) told few = told

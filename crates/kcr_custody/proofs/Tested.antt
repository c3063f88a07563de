-- What a test answers is its refusal.
use Rattle.std.proofs.Common.{◌≡◌, Option, Result, arith}
use Rattle.std.specs.Result.{result_err}
use Rattle.kcr_base.specs.{Refuse.IsTestResult, declared.refusal.Refusal.Refusal}

-- the error of a test's answer is its refusal, if it has one
pub tested : {X : Type 0} (refusal : Option Refusal) (result : Result X Refusal) → IsTestResult refusal result → result_err result ≡ refusal
tested refusal result h = grind arith

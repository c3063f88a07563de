-- What the status of an audit says of its line.
use Rattle.kcr_tool.proofs.Common.{◌≡◌, ℕ, Option, None, Result, arith, IfOk, Writing, History, EndsReport, EndsReportBy, Fault}
use Rattle.kcr_history.specs.declared.views.Finding.{Finding}
use Rattle.kcr_tool.specs.Audits.{EndsAudit, WritesAudit}
use Rattle.kcr_arguments.specs.declared.words.Report.TheVariants.{Audit}

-- an audit is a report of any register
pub audit_ends : {W : Type 0} (Finds : Option Finding → Type 0) (w : Writing W) (result : Result ℕ Fault) → EndsAudit Finds w result
    → EndsReport Audit w result
audit_ends Finds w result told = grind (arith, told)

-- and of one with a history, in whose tables it finds nothing
pub audit_ends_by : {W : Type 0} (A : History) (Finds : Option Finding → Type 0) (w : Writing W) (result : Result ℕ Fault) → EndsAudit Finds w result
    → IfOk result (λ status. status ≡ 0) → EndsReportBy Audit A w result
audit_ends_by A Finds w result told zero = grind (arith, told, zero)

-- an audit that found nothing has status 0
pub nothing_told : {W : Type 0} (found : Option Finding) (w : Writing W) (status : ℕ) → WritesAudit found w status → found ≡ None → status ≡ 0
nothing_told found w status told is = grind (arith, told, is)

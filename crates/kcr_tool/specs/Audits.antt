-- What an audit of a register leaves on the output.
use Rattle.std.specs.Prelude.{◌≡◌, ◌⊎◌, ℕ, List, Option, Some, None, Result, MatchResult}
use Rattle.kcr_desk.specs.Streams.{Writing, WritesNothing, WritesPart, WritesText}
use Rattle.kcr_history.specs.declared.views.Finding.{Finding}
use Rattle.kcr_fault.specs.{Lines.clean_line, Lines.finding_line, declared.fault.Fault.Fault}

-- what was found is told in a line: with status 0 if it is nothing, and 1 if it is a finding
abbrev pub WritesAudit : {W : Type 0} → Option Finding → Writing W → ℕ → Type 0
WritesAudit None w status = (status ≡ 0) × WritesText w clean_line
WritesAudit (Some finding) w status = (status ≡ 1) × WritesText w (finding_line finding)

-- a finding is told, whole
abbrev pub WritesFinding : {W : Type 0} → Writing W → Type 0
WritesFinding w = (finding : Finding) × WritesText w (finding_line finding)

-- the line of an audit
abbrev pub IsAuditLine : List ℕ → Type 0
IsAuditLine line = (line ≡ clean_line) ⊎ ((finding : Finding) × (line ≡ finding_line finding))

-- a beginning of such a line was written
abbrev pub WritesAuditPrefix : {W : Type 0} → Writing W → Type 0
WritesAuditPrefix w = (line : List ℕ) × IsAuditLine line × WritesPart w line

-- an audit that found what is like this told it, or told nothing or a beginning of a line
abbrev pub EndsAudit : {W : Type 0} → (Option Finding → Type 0) → Writing W → Result ℕ Fault → Type 0
EndsAudit Finds w result =
    MatchResult result (λ status. (found : Option Finding) × Finds found × WritesAudit found w status)
    (λ _. WritesNothing w ⊎ WritesAuditPrefix w)

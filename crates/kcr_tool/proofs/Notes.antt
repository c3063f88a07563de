-- What stands on standard error beside a report.
use Rattle.kcr_tool.proofs.Common.{◌≡◌, inr, ℕ, List, Bool, Option, Some, Ok, Err, refl, arith, IsTrue, Writing, IsMissing, IsNoted, IsNotedOf}
use Rattle.kcr_tool.proofs.Common.{IsTold, MayNote, Missing, Report, Task, Write}

-- what is missing was told
pub told_of : {W : Type 0} (May : Type 0) (file : Option (List ℕ)) (missing : Missing) (w : Writing W) → May → IsMissing file missing
    → IsTold file missing w → IsNotedOf May file w
told_of May file missing w may is told = grind arith

-- it may be told for another reason too
pub noted_weaker : {W : Type 0} (May Other : Type 0) (file : Option (List ℕ)) (w : Writing W) → (May → Other) → IsNotedOf May file w
    → IsNotedOf Other file w
noted_weaker May Other file w weaker noted = grind (arith, weaker)

-- by a report
pub noted_of : {W : Type 0} (May Other : Type 0) (report : Report) (file : Option (List ℕ)) (w : Writing W) → (May → Other) → IsNotedOf May file w
    → IsNoted Other (Some (Write report)) file w
noted_of May Other report file w weaker noted = inr (report, refl, noted_weaker May Other file w weaker noted)

-- what a report may note is noted by the task that writes it
pub noted_by : {W : Type 0} (May : Type 0) (report : Report) (file : Option (List ℕ)) (w : Writing W) → IsNotedOf May file w
    → IsNoted May (Some (Write report)) file w
noted_by May report file w noted = inr (report, refl, noted)

-- what a task noted for one reason it may note for another that follows
pub task_noted : {W : Type 0} (May Other : Type 0) (task : Option Task) (file : Option (List ℕ)) (w : Writing W) → (May → Other) → IsNoted May task file w
    → IsNoted Other task file w
task_noted May Other task file w weaker noted = grind (arith, weaker)

-- before a fault, and beside a finding, notes are told only if they are asked for
pub asked_of_fault : {E : Type 0} (is_explained : Bool) (why : E) → MayNote is_explained (Err why) → IsTrue is_explained
asked_of_fault is_explained why noted = grind arith

-- beside a finding notes are told only if they are asked for
pub asked_of_finding : {E : Type 0} (is_explained : Bool) (status : ℕ) → status ≡ 1 → MayNote {E = E} is_explained (Ok status) → IsTrue is_explained
asked_of_finding is_explained status one noted = grind arith

-- What the search for one kind of finding answers.
use Rattle.std.specs.Prelude.{◌≡◌, ℕ, Option, Some, None}
use Rattle.kcr_history.specs.{declared.views.Finding.Finding, declared.views.FullView.FullView, Audit.IsTrueOf, Audit.rank}

-- a finding of the kind that is true of the rows; `None` if none of the kind is
abbrev pub IsFindingOfKind : FullView → ℕ → Option Finding → Type 0
IsFindingOfKind view kind None = (finding : Finding) → rank finding ≡ kind → IsTrueOf view finding → ⊥
IsFindingOfKind view kind (Some found) = (rank found ≡ kind) × IsTrueOf view found

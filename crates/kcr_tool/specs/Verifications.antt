-- What a verification of a register, or its rebuilding, leaves on the output.
use Rattle.std.specs.Prelude.{◌≡◌, ◌<◌, ◌⊎◌, ℕ, List, Result, MatchResult}
use Rattle.kcr_desk.specs.Streams.{Writing, WritesNothing, WritesPart, WritesText}
use Rattle.kcr_fault.specs.{Lines.whole_line, Lines.difference_line, declared.fault.Fault.Fault}
use Rattle.kcr_verify.specs.declared.verification.Difference.{Difference}
use Rattle.kcr_verify.specs.declared.verification.Verification.{Verification, TheVariants.Verified, TheVariants.Differs}

-- the line of what it came to
abbrev pub verified_line : List ℕ → Verification → List ℕ
verified_line head (Verified count) = whole_line head count
verified_line head (Differs difference) = difference_line difference

-- what it came to is told in a line: with status 0 if the register is that of its commands, of which it has some,
-- and 1 if it differs
abbrev pub WritesVerification : {W : Type 0} → List ℕ → Verification → Writing W → ℕ → Type 0
WritesVerification head (Verified count) w status = (status ≡ 0) × (0 < count) × WritesText w (whole_line head count)
WritesVerification head (Differs difference) w status = (status ≡ 1) × WritesText w (difference_line difference)

-- the register is told to be that of its commands, of which it has some
abbrev pub WritesVerified : {W : Type 0} → List ℕ → Writing W → Type 0
WritesVerified head w = (count : ℕ) × (0 < count) × WritesText w (whole_line head count)

-- a beginning of that was told
abbrev pub TellsWholeFront : {W : Type 0} → List ℕ → Writing W → Type 0
TellsWholeFront head w = (count : ℕ) × WritesPart w (whole_line head count)

-- a difference is told, whole
abbrev pub WritesDifference : {W : Type 0} → Writing W → Type 0
WritesDifference w = (difference : Difference) × WritesText w (difference_line difference)

-- one of these lines
abbrev pub IsVerifyLine : List ℕ → List ℕ → Type 0
IsVerifyLine head line =
    ((count : ℕ) × (line ≡ whole_line head count)) ⊎ ((difference : Difference) × (line ≡ difference_line difference))

-- a beginning of such a line was written
abbrev pub WritesVerificationPrefix : {W : Type 0} → List ℕ → Writing W → Type 0
WritesVerificationPrefix head w = (line : List ℕ) × IsVerifyLine head line × WritesPart w line

-- what came of a verification is told in a line, and is like this; or nothing was told or a beginning of such a line
abbrev pub EndsVerification : {W : Type 0} → List ℕ → (Verification → Type 0) → Writing W → Result ℕ Fault → Type 0
EndsVerification head Comes w result =
    MatchResult result (λ status. (told : Verification) × Comes told × WritesVerification head told w status)
    (λ _. WritesNothing w ⊎ WritesVerificationPrefix head w)

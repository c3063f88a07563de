-- What the status of a verification says of its line.
use Rattle.kcr_tool.proofs.Common.{◌⊎◌, arith, ℕ, List, Result, OnErr, IfOk, Writing, WritesNothing, WritesPart, Fault, Finishes, Verification}
use Rattle.kcr_tool.specs.Verifications.{EndsVerification, WritesVerification, WritesVerified, TellsWholeFront, verified_line}
use Rattle.kcr_verify.specs.declared.verification.Verification.TheVariants.{Verified}

module _ {W : Type 0} (head : List ℕ) (w : Writing W) where
  -- a verification whose lines, or a prefix of them, were written ends so
  pub verification_ends : (Comes : Verification → Type 0) (told : Verification) (result : Result ℕ Fault) → Comes told
      → IfOk result (WritesVerification head told w) → OnErr result (WritesNothing w ⊎ WritesPart w (verified_line head told))
      → EndsVerification head Comes w result
  verification_ends Comes told result comes whole part = grind (arith, comes, whole, part)

  -- what is so of all that comes is told as well
  pub ends_weaker : (Comes Other : Verification → Type 0) (result : Result ℕ Fault) → ((told : Verification) → Comes told → Other told)
      → EndsVerification head Comes w result → EndsVerification head Other w result
  ends_weaker Comes Other result weaker ends = grind (arith, weaker, ends)

  -- a number of commands is told as that of a register that is whole
  pub packed_ends : (count : ℕ) (result : Result ℕ Fault) → IfOk result (WritesVerification head (Verified count) w)
      → OnErr result (WritesNothing w ⊎ WritesPart w (verified_line head (Verified count)))
      → Finishes (WritesVerified head w) (TellsWholeFront head w) w result
  packed_ends count result t part = grind (arith, t, part)

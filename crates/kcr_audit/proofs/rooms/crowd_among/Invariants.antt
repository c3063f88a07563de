use Rattle.kcr_audit.proofs.Common.{◌≡◌, ℕ, false, take, All, is_crowd}
use Rattle.kcr_audit.proofs.rooms.crowd_among.Given as goal

-- no moment of the ceremonies so far passes
abbrev pub invariant-loop-number : goal.invariant-loop-number
invariant-loop-number l = All (λ c. (t : ℕ) → is_crowd l.rows c t ≡ false) (take l.number-index l.numbers)

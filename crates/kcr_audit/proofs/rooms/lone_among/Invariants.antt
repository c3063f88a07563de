use Rattle.kcr_audit.proofs.Common.{◌≡◌, ℕ, false, take, All, is_lone}
use Rattle.kcr_audit.proofs.rooms.lone_among.Given as goal

-- no moment of the ceremonies so far passes
abbrev pub invariant-loop-number : goal.invariant-loop-number
invariant-loop-number l = All (λ c. (t : ℕ) → is_lone l.rows c t ≡ false) (take l.number-index l.numbers)

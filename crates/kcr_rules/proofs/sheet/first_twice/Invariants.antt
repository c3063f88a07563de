use Rattle.kcr_rules.proofs.Common.{◌≡◌, drop, first_twice}
use Rattle.kcr_rules.proofs.sheet.first_twice.Given as goal

-- the first of those left is the first of all
abbrev pub invariant-loop-index : goal.invariant-loop-index
invariant-loop-index l = first_twice (drop l.index l.people) ≡ first_twice l.people

use Rattle.kcr_rules.proofs.Common.{◌≡◌, drop, first_unknown}
use Rattle.kcr_rules.proofs.sheet.first_unknown.Given as goal

-- the first of those left is the first of all
abbrev pub invariant-loop-who : goal.invariant-loop-who
invariant-loop-who l = first_unknown l.rows (drop l.who-index l.people) ≡ first_unknown l.rows l.people

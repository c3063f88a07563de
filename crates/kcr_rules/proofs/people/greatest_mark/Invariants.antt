use Rattle.kcr_rules.proofs.Common.{◌≡◌, map, drop}
use Rattle.kcr_history.specs.History.{greatest}
use Rattle.kcr_history.proofs.Marks.{greater}
use Rattle.kcr_rules.proofs.people.greatest_mark.Given as goal

-- the greatest so far and of what is left is the greatest
abbrev pub invariant-loop-row : goal.invariant-loop-row
invariant-loop-row l = greater l.found (greatest (map (λ row. row.at) (drop l.row-index l.marks))) ≡ greatest (map (λ row. row.at) l.marks)

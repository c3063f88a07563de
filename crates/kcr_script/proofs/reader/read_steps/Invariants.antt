use Rattle.kcr_script.proofs.Common.{◌≡◌, ℕ, ◌≤◌, List, ◌++◌, length, map, fields_of, AreSteps, BreaksFrom, Step}
use Rattle.kcr_script.proofs.reader.read_steps.Given as goal

-- the steps so far, followed by those of the rest, are those of the rows; and the rest breaks if the rows do
abbrev pub invariant-loop-row : goal.invariant-loop-row
invariant-loop-row l = record {
  on : (tail : List Step) → AreSteps l.number (map fields_of l.rest) tail → AreSteps 1 (map fields_of l.rows) (l.steps.items ++ tail);
  back : (all : List Step) → AreSteps 1 (map fields_of l.rows) all → (tail : List Step) × AreSteps l.number (map fields_of l.rest) tail
      × (all ≡ l.steps.items ++ tail);
  breaks : (r : ℕ) → BreaksFrom l.number (map fields_of l.rest) r → BreaksFrom 1 (map fields_of l.rows) r;
  low : 1 ≤ l.number;
  high : l.number ≤ 401;
}

abbrev pub decreases-loop-row : goal.decreases-loop-row
decreases-loop-row l = length l.rest

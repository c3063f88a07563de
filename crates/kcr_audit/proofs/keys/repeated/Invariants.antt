use Rattle.kcr_audit.proofs.{Common.take, Common.contains, Common.same_text, Seen.Seen}
use Rattle.kcr_audit.proofs.keys.repeated.Given as goal

-- the keys of the rows so far were seen, each once
abbrev pub invariant-loop-row : goal.invariant-loop-row
invariant-loop-row l = Seen (take l.row-index l.rows) (contains same_text l.seen)

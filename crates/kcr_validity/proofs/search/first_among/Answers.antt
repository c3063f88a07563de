use Rattle.std.proofs.Common.{Ok, ap, arith}
use Rattle.kcr_validity.specs.Stored.{cells_of}
use Rattle.kcr_validity.proofs.SearchLemmas.{has_mapped}
use Rattle.kcr_validity.proofs.search.first_among.Goals as goal

pub returns-then-branch-clause-found : goal.returns-then-branch-clause-found
returns-then-branch-clause-found g c = rw (c.in_ok-copy.ensures) (record {
  there = has_mapped cells_of c.args.rows.now c.loop-row.row-index c.row-item.result (omega arith) c.row-item.is;
  invalid = rw c.kinds.ensures.kinds at (c.in_ok-is_invalid.ensures.invalid (ap Ok c.if-branch.true));
})

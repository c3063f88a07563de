use Rattle.kcr_rows.proofs.Common.{◌≡◌, map, take, AllByRecursion}
use Rattle.kcr_rows.proofs.statements.decode_all.Given as goal

abbrev pub invariant-loop-row : goal.invariant-loop-row
invariant-loop-row g l = record {
  rows : map g.T.FromRow.row_of l.all.items ≡ take l.row-index l.rows;
  read : AllByRecursion g.T.FromRow.is_read l.all.items;
}

use Rattle.kcr_verify.proofs.Common.{take, AllByRecursion, state, HasCleanDisk, OfHistory, RegisterHistory, StandsAt, HasRows, IsIntact}
use Rattle.kcr_history.specs.Tables as machine
use Rattle.kcr_verify.proofs.compare.first_differing.Given as goal

abbrev pub invariant-loop-table : goal.invariant-loop-table
invariant-loop-table g l = record {
  intact : IsIntact g.S.Store l.register;
  stands : (s : RegisterHistory) → StandsAt g.S.Store s l.fn.register → StandsAt g.S.Store s l.register;
  clean : HasCleanDisk (state g.S.Store l.register.conn) → HasCleanDisk (state g.S.Store l.fn.register.conn);
  have : OfHistory g.S.Store l.fn.register l.register
      (λ A. AllByRecursion (λ table. HasRows table (machine.tables A) l.rows) (take l.table-index l.tables));
}

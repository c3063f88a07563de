use Rattle.kcr_verify.proofs.Common.{state, HasCleanDisk, History, StandsAt, whole, IsIntact}
use Rattle.kcr_verify.proofs.ReplayLemmas.{GoesOn}
use Rattle.kcr_verify.proofs.replay.replay.Given as goal

abbrev pub invariant-loop-index : goal.invariant-loop-index
invariant-loop-index g l = record {
  intact : IsIntact g.S.Store l.register;
  clean : HasCleanDisk (state g.S.Store l.register.conn) → HasCleanDisk (state g.S.Store l.fn.register.conn);
  led : HasCleanDisk (state g.S.Store l.register.conn)
      → (B : History) × StandsAt g.S.Store (whole B) l.register × GoesOn l.rows l.index B;
}

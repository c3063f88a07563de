use Rattle.kcr_verify.proofs.Common.{rules, [], inl, refl, state}
use Rattle.kcr_verify.proofs.FreshLemmas.{makes_new}
use Rattle.kcr_verify.proofs.new_register.init.Goals as goal

pub returns-in-Ok-adopt-clause-crash : goal.returns-in-Ok-adopt-clause-crash
returns-in-Ok-adopt-clause-crash g c =
    makes_new (state g.S.Store c.args.connection) (state g.S.Store c.in-Ok-adopt.register.conn) (search rules) c.in-Ok-adopt.ensures.crash

-- an empty database is that of no command
pub returns-in-Ok-adopt-clause-new : goal.returns-in-Ok-adopt-clause-new
returns-in-Ok-adopt-clause-new g c = record {
  stands = c.in-Ok-adopt.ensures.adopted [] (λ clean live. inl (search rules, refl));
  kept = c.in-Ok-adopt.ensures.kept;
}

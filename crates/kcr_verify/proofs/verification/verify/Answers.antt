use Rattle.kcr_verify.proofs.{Common.IfOk-weaker, StepLemmas.never_in_doubt}
use Rattle.kcr_verify.proofs.verification.verify.Goals as goal

pub returns-clause-told : goal.returns-clause-told
returns-clause-told c =
    let end = c.rebuild.ensures.led (never_in_doubt c.rebuild.new.fresh.conn) in
    IfOk-weaker c.rebuild.result _ _ (λ told is. (end.0.accepted, is)) end.2.told

pub returns-clause-own : goal.returns-clause-own
returns-clause-own c A h values listed =
    let end = c.rebuild.ensures.led (never_in_doubt c.rebuild.new.fresh.conn) in
    IfOk-weaker c.rebuild.result _ _ (λ told is. is.0) (end.2.own A h values listed)

pub returns-clause-register : goal.returns-clause-register
returns-clause-register c A h values listed = (c.rebuild.ensures.led (never_in_doubt c.rebuild.new.fresh.conn)).2.register A h values listed

use Rattle.kcr_tool.proofs.Common.{inl, refl, writing, rebuilt_head, IsVerification}
use Rattle.kcr_tool.proofs.Verifications.{verification_ends}
use Rattle.kcr_tool.proofs.verify.rebuild_in.Goals as goal

pub returns-in-Ok-clause-ends : goal.returns-in-Ok-clause-ends
returns-in-Ok-clause-ends g c =
    let w = writing g.W.Write.contents c.args.output.now c.write_verification.new.output in
    verification_ends rebuilt_head w (λ _. Unit {0}) _ _ tt c.write_verification.ensures.told c.write_verification.ensures.part

pub returns-in-Ok-clause-found : goal.returns-in-Ok-clause-found
returns-in-Ok-clause-found g c clean =
    let w = writing g.W.Write.contents c.args.output.now c.write_verification.new.output in
    let end = c.in-Ok.ensures.led clean in (
      end.0,
      end.1,
      verification_ends rebuilt_head w (IsVerification c.args.rows end.0.accepted) c.in-Ok.verified c.write_verification.result
          end.2.told c.write_verification.ensures.told c.write_verification.ensures.part,
    )

pub returns-in-Err-clause-found : goal.returns-in-Err-clause-found
returns-in-Err-clause-found g c clean =
    let end = c.in-Err.ensures.led clean in (end.0, end.1, inl refl)

pub returns-in-Ok-clause-own : goal.returns-in-Ok-clause-own
returns-in-Ok-clause-own g c clean A is values listed =
    rw ((c.in-Ok.ensures.led clean).2.own A is values listed).0 at c.write_verification.ensures.told

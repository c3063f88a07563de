use Rattle.kcr_tool.proofs.Common.{writing, History, verified_head, IsVerification, Verification}
use Rattle.kcr_tool.proofs.Verifications.{verification_ends}
use Rattle.kcr_tool.proofs.verify.verify.Goals as goal

pub returns-in-Ok-clause-ends : goal.returns-in-Ok-clause-ends
returns-in-Ok-clause-ends g c =
    let w = writing g.W.Write.contents c.args.output.now c.write_verification.new.output in
    verification_ends verified_head w (λ (told : Verification). (A : History) × IsVerification c.args.rows A told) _ _ c.in-Ok.ensures.told
    c.write_verification.ensures.told c.write_verification.ensures.part

pub returns-in-Ok-clause-own : goal.returns-in-Ok-clause-own
returns-in-Ok-clause-own g c A is values listed =
    rw (c.in-Ok.ensures.own A is values listed) at c.write_verification.ensures.told

pub returns-in-Ok-clause-own_in_part : goal.returns-in-Ok-clause-own_in_part
returns-in-Ok-clause-own_in_part g c A is values listed =
    rw (c.in-Ok.ensures.own A is values listed) at c.write_verification.ensures.part

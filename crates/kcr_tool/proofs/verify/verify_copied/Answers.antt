use Rattle.kcr_tool.proofs.Common.{writing, verified_head, History, IsVerification, Verification}
use Rattle.kcr_history.specs.declared.views.FullView.{FullView}
use Rattle.kcr_tool.proofs.Verifications.{ends_weaker}
use Rattle.kcr_tool.proofs.verify.verify_copied.Goals as goal

pub returns-clause-ends : goal.returns-clause-ends
returns-clause-ends g c =
    let w = writing g.W.Write.contents c.args.output.now c.verify.new.output in
    ends_weaker verified_head w (λ (told : Verification). (A : History) × IsVerification c.in_ok-rows.rows A told)
    (λ (told : Verification). (rows : FullView) × (A : History) × IsVerification rows A told) c.verify.result
    (λ told comes. (c.in_ok-rows.rows, comes.0, comes.1)) c.verify.ensures.ends

pub returns-clause-own : goal.returns-clause-own
returns-clause-own g c A held is values = c.verify.ensures.own A is values (c.in_ok-rows.ensures.own A held)

pub returns-clause-own_in_part : goal.returns-clause-own_in_part
returns-clause-own_in_part g c A held is values = c.verify.ensures.own_in_part A is values (c.in_ok-rows.ensures.own A held)

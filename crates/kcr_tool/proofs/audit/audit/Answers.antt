use Rattle.kcr_tool.proofs.{Common.MatchResult-from_both, Common.IfOk-weaker, Common.writing, Audits.nothing_told}
use Rattle.kcr_tool.proofs.audit.audit.Goals as goal

pub returns-in-Ok-clause-ends : goal.returns-in-Ok-clause-ends
returns-in-Ok-clause-ends g c =
    MatchResult-from_both c.write_audit.result _ _
    (IfOk-weaker c.write_audit.result _ _ (λ status told. (c.in-Ok.found, tt, told)) c.write_audit.ensures.told) c.write_audit.ensures.part

pub returns-in-Ok-clause-found : goal.returns-in-Ok-clause-found
returns-in-Ok-clause-found g c whole clean m held =
    MatchResult-from_both c.write_audit.result _ _ (IfOk-weaker c.write_audit.result _ _
    (λ status told. (c.in-Ok.found, c.in-Ok.ensures.found whole clean m held, told)) c.write_audit.ensures.told) c.write_audit.ensures.part

pub returns-in-Ok-clause-nothing : goal.returns-in-Ok-clause-nothing
returns-in-Ok-clause-nothing g c clean A at =
    let w = writing g.W.Write.contents c.args.output.now c.write_audit.new.output in
    let none = c.in-Ok.ensures.nothing clean A at in
    IfOk-weaker c.write_audit.result _ _ (λ status told. nothing_told c.in-Ok.found w status told none) c.write_audit.ensures.told

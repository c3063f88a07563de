use Rattle.kcr_desk.proofs.{Common.refl, Common.refusal_of, Common.report_response, AnswerLemmas.refused_or_memory}
use Rattle.kcr_desk.proofs.answer.report_response.Goals as goal

pub returns-in-Err : goal.returns-in-Err
returns-in-Err c =
    let refused = rw c.refusal_of.ensures at c.refusal_response.ensures in
    rw c.in-Err.is (refused_or_memory (report_response c.args.kind) _ (refusal_of c.in-Err.fault) refl refused)

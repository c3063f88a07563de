use Rattle.kcr_desk.proofs.Common.{refl, no_command, report_response, Text}
use Rattle.kcr_desk.proofs.{AnswerLemmas.refused_or_memory, ReportLemmas.unknown_answered}
use Rattle.kcr_desk.proofs.answer.answer_unknown.Goals as goal

pub returns : goal.returns
returns g c =
    let told = rw c.get.ensures.value at c.refusal_response.ensures in
    unknown_answered g.S.Store _ _ Text c.args.after c.is_broken.ensures.kept c.requires.unbroken c.requires.few
    (refused_or_memory (report_response Text) _ (no_command c.args.after) refl told)

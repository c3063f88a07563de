use Rattle.kcr_desk.proofs.{Common.response_value, AnswerLemmas.memory_answered}
use Rattle.kcr_desk.proofs.answer.RegisterResponder.respond.Goals as goal

pub returns-in_default : goal.returns-in_default
returns-in_default g c = memory_answered g.S.Store c.args.self.now (response_value c.memory_response.result) _ _ _ c.memory_response.ensures

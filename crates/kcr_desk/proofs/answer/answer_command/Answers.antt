use Rattle.kcr_desk.proofs.Common.{◌≡◌, ◌↔◌, arith, false, inl, refl, is_some, IsTrue, Result, Ok, Err, None, Ghosts, state, HasCleanDisk, Refusal}
use Rattle.kcr_desk.proofs.Common.{IsAct, Command, Reply, Leads, RowsLead, MayBeReplied, TakesStep, RegisterHistory, RegisterRows, RegisterState}
use Rattle.kcr_desk.proofs.Common.{refusal_response, reply_response, AppliesAsMachine, RespondsOrMemory, ResponseValue, Memory, Disk}
use Rattle.kcr_base.specs.declared.refusal.Refusal.TheVariants.{Broken}
use Rattle.std.specs.Prelude.{IsErr}
use Rattle.kcr_store.specs.ByRows.{DecidesRows, TakesStepByRows}
use Rattle.kcr_desk.specs.Answers.{AnswersCommand}
use Rattle.kcr_desk.proofs.AnswerLemmas.{Makes, result_answered, refused_or_memory, text_is_not_memory}
use Rattle.kcr_desk.proofs.answer.answer_command.Goals as goal

-- a step of the store is one of the machine, of a command whose parts are values
led : {S : Type 0} (after : RegisterState S) (told : ResponseValue) (x : Command) (result : Result Reply Refusal) (s end : RegisterHistory)
    → IsAct x.act → (told ≡ refusal_response None Memory → IsErr result) → after.is_broken ≡ is_some end.in_doubt → TakesStep s x result end
    → Makes after told (is_some s.in_doubt) (AppliesAsMachine s.accepted x result end) s end
led after told x result s end values no_memory at step = grind (arith, step.broken, step.step, step.breaks, step.tried)

-- a refusal leaves the rows and the number
decided : {S : Type 0} (after : RegisterState S) (told : ResponseValue) (x : Command) (result : Result Reply Refusal) (t end : RegisterRows)
    → (told ≡ refusal_response None Memory → IsErr result) → after.is_broken ≡ end.is_broken → TakesStepByRows t x result end
    → Makes after told t.is_broken (DecidesRows t x result end) t end
decided after told x result t end no_memory at step = grind (arith, step.broken, step.decides)

command_answered : {S : Type 0} (g : Ghosts S) (before after : RegisterState S) (told : ResponseValue) (x : Command) (result : Result Reply Refusal)
    → IsAct x.act → (before.is_broken ≡ false → MayBeReplied x result) → (IsTrue before.is_broken → (result ≡ Err Broken) × (after ≡ before))
    → (before.is_broken ≡ false → IsTrue after.is_broken ↔ (result ≡ Err Disk)) → Leads g before after (λ s end. TakesStep s x result end)
    → RowsLead g before after (λ t end. TakesStepByRows t x result end) → (HasCleanDisk (state g after.conn) → HasCleanDisk (state g before.conn))
    → (told ≡ refusal_response None Memory → IsErr result) → RespondsOrMemory reply_response result told → AnswersCommand g before told after x
command_answered g before after told x result values kind broken breaks step rows clean no_memory tells =
    result_answered g before after told reply_response (λ r. refl) result broken breaks (λ old new r. AppliesAsMachine old.accepted x r new)
    (λ old r new. DecidesRows old x r new) (MayBeReplied x) kind
    (λ now s at. let end = step now s at in (end.0, end.1, led after told x result s end.0 values no_memory end.1.broken end.2))
    (λ now t at. let end = rows now t at in (end.0, end.1, decided after told x result t end.0 no_memory end.1.broken end.2)) clean tells

pub returns-in-Ok : goal.returns-in-Ok
returns-in-Ok g c =
    let e = c.in-Ok.ensures in
    let is = c.json_response.ensures in
    command_answered g.S.Store _ _ _ c.args.command.now (Ok c.in-Ok.reply) c.requires e.kind e.broken e.breaks e.step e.rows e.clean
    (λ memory. absurd (text_is_not_memory _ _ is memory)) (inl is)

pub returns-in-Err : goal.returns-in-Err
returns-in-Err g c =
    let e = c.in-Err.ensures in
    command_answered g.S.Store _ _ _ c.args.command.now (Err c.in-Err.refusal) c.requires e.kind e.broken e.breaks e.step e.rows e.clean
    (λ _. refl) (refused_or_memory reply_response _ c.in-Err.refusal refl c.refusal_response.ensures)

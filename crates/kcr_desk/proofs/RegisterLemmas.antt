-- Runs lead from registers to registers, and from histories that the machine leads to, or that are of values, to such ones.
use Rattle.kcr_desk.proofs.Common.{AppliesAsMachine, arith, Request, request_of, Exchange, Run, ResponseValue}
use Rattle.kcr_desk.proofs.Common.{List, [], ◌∷◌, inl, inr, subst, unwrap_or, Refusal, ReplyData, Command}
use Rattle.kcr_desk.proofs.Common.{Reply, History, Outcome, Accepts, with_command, machine, IsOfMachine, IsRegister, follows, step_leads, IsAct}
use Rattle.kcr_desk.proofs.Common.{AppliesCommand, IsSameOrNext, RegisterHistory, AreRegisters, AreOfMachine}
use Rattle.kcr_desk.proofs.Common.{AreOfValues, TakesReading, TakesCommand, TakesInquiry, IsAnswer}
use Rattle.std.proofs.Common.{Result, Ok, Err}
use Rattle.kcr_forms.specs.Values.{AreValues}
use Rattle.kcr_wire.specs.declared.question.Inquiry.{Inquiry}
use Rattle.kcr_wire.specs.declared.question.Inquiry.TheVariants as inquiry

-- WHAT STEPS OF THE MACHINE KEEP

-- what holds of a history, and of each to which the machine goes from such a one by accepting a command of values
module _ (P : History → Type 0) (grown : (A : History) (x : Command) (answer : ReplyData) → IsAct x.act → P A
    → machine A x (Accepts answer) (with_command A x answer) → P (with_command A x answer)) where
  step_keeps : (A : History) (x : Command) (outcome : Outcome) (A' : History) → IsAct x.act → P A → machine A x outcome A' → P A'
  step_keeps A x outcome A' is r = step_leads P A x r (λ answer. grown A x answer is r) outcome A'

  -- ONE MESSAGE

  taken_keeps : (A : History) (x : Command) (result : Result Reply Refusal) (A' : History) → IsAct x.act → P A → AppliesCommand A x result A' → P A'
  taken_keeps A x (Ok reply) A' is r h = step_keeps A x (Accepts h.0) A' is r h.1
  taken_keeps A x (Err refusal) A' is r h = rw h.0 r

  tried_keeps : (A : History) (x : Command) (A' : History) → IsAct x.act → P A → IsSameOrNext A x A' → P A'
  tried_keeps A x A' is r (inl e) = rw e r
  tried_keeps A x A' is r (inr w) = step_keeps A x (Accepts w.0) A' is r w.1

  -- it holds of a register's history, and of the one that a crash may have left in its place
  abbrev HoldsOf : RegisterHistory → Type 0
  HoldsOf s = P s.accepted × P (unwrap_or s.in_doubt s.accepted)

  module _ (before after : RegisterHistory) (asked : Request) (told : ResponseValue) (are : HoldsOf before) where
    applied_keeps : (x : Command) (result : Result Reply Refusal) → AppliesAsMachine before.accepted x result after → HoldsOf after
    applied_keeps x result does = (
      taken_keeps before.accepted x result after.accepted does.values are.0 does.step,
      tried_keeps before.accepted x (unwrap_or after.in_doubt after.accepted) does.values are.0 does.tried,
    )

    command_keeps : (x : Command) → TakesCommand before told after x → HoldsOf after
    command_keeps x h = grind (arith, applied_keeps)

    reading_keeps : {Value : Type 0} (told_by : Result Value Refusal → ResponseValue) (Says : History → Result Value Refusal → Type 0)
        → TakesReading told_by Says before told after → HoldsOf after
    reading_keeps told_by Says h = grind arith

    inquiry_keeps : (inquiry : Inquiry) → TakesInquiry before told after inquiry → HoldsOf after
    inquiry_keeps (inquiry.Question question) h = reading_keeps _ _ h
    inquiry_keeps inquiry h = reading_keeps _ _ h

    answer_keeps : IsAnswer before asked told after → HoldsOf after
    answer_keeps h = grind (arith, command_keeps, inquiry_keeps)

  -- A STREAM

  run_holds : (before : RegisterHistory) (xs : List Exchange) (after : RegisterHistory) → HoldsOf before → Run IsAnswer before xs after → HoldsOf after
  run_holds before [] after are run = subst HoldsOf run are
  run_holds before (x ∷ xs) after are run = run_holds run.0 xs after (answer_keeps before run.0 (request_of x.message) x.reply are run.1) run.2

-- a run leads from registers to registers
pub run_keeps : (before : RegisterHistory) (xs : List Exchange) (after : RegisterHistory) → AreRegisters before → Run IsAnswer before xs after → AreRegisters after
run_keeps = run_holds IsRegister (λ A x answer is r step. (follows A x answer step, r))

-- so does what the machine leads to
pub run_leads : (before : RegisterHistory) (xs : List Exchange) (after : RegisterHistory) → AreOfMachine before → Run IsAnswer before xs after → AreOfMachine after
run_leads = run_holds IsOfMachine (λ A x answer is m step. (step, m))

-- and what is of values
pub run_values : (before : RegisterHistory) (xs : List Exchange) (after : RegisterHistory) → AreOfValues before → Run IsAnswer before xs after → AreOfValues after
run_values = run_holds AreValues (λ A x answer is v step. (is, v))

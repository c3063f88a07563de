use Rattle.kcr_machine.proofs.Common.{rules, None, Ok, Err, Key, Verdict, IsRowRepeat}
use Rattle.kcr_machine.proofs.Decided.{repetition}
use Rattle.kcr_machine.proofs.decision.decide_repeat.Goals as goal

pub returns-then-ne-clause-step : goal.returns-then-ne-clause-step
returns-then-ne-clause-step c =
    let told : IsRowRepeat c.args.row.now c.args.command.now (Err Key) = search rules in
    λ A there. repetition A c.args.command.now c.args.row.now (Err Key) there told

pub returns-clause-step : goal.returns-clause-step
returns-clause-step c =
    let verdict : Verdict = record { changes = c.new.result; reply = record { text = c.in_ok-clone.field-0 }; new_reply = None } in
    let told : IsRowRepeat c.args.row.now c.args.command.now (Ok verdict) = search rules in
    λ A there. repetition A c.args.command.now c.args.row.now (Ok verdict) there told

use Rattle.kcr_machine.proofs.Common.{rules, ◌+◌, Some, Ok, ReplyData, Verdict, IsRowDecision}
use Rattle.kcr_machine.proofs.Decided.{decision, decision-kind}
use Rattle.kcr_machine.proofs.decision.decide_new.Goals as goal

pub returns-in_err-acted-clause-step : goal.returns-in_err-acted-clause-step
returns-in_err-acted-clause-step c =
    let told : IsRowDecision c.args.view.now c.args.accepted c.args.command.now c.from_residual.result = search rules in
    λ A h new v e. decision A c.args.command.now c.args.view.now c.args.accepted c.from_residual.result h new v e c.requires.cleared told

pub returns : goal.returns
returns c =
    let acted = c.in_ok-acted.acted in
    let reply : ReplyData = record { accepted = c.args.accepted + 1; exception = acted.exception; seating = acted.seating; step = acted.step } in
    let verdict : Verdict = record { changes = c.push.new.self; reply = record { text = c.in_ok-reply.reply }; new_reply = Some reply } in
    let told : IsRowDecision c.args.view.now c.args.accepted c.args.command.now (Ok verdict) = search rules in
    record {
      step = λ A h new v e. decision A c.args.command.now c.args.view.now c.args.accepted (Ok verdict) h new v e c.requires.cleared told;
      by_rows = told;
      kind = decision-kind c.args.command.now c.args.view.now c.args.accepted (Ok verdict) told tt;
    }

use Rattle.kcr_machine.proofs.Decided.{refused-early}
use Rattle.kcr_machine.proofs.decision.check_early.Goals as goal

pub returns-clause-step : goal.returns-clause-step
returns-clause-step c = λ A h new v e. refused-early A c.args.command.now c.args.view.now c.args.accepted c.check.result h new v e c.check.ensures.told

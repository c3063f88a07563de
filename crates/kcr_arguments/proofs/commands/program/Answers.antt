use Rattle.std.proofs.Common.{arith}
use Rattle.kcr_arguments.specs.Commands.{root_app, with_sub}
use Rattle.kcr_arguments.proofs.Folds.{fold_next}
use Rattle.kcr_arguments.proofs.commands.program.Goals as goal

pub loop-subcommand-preserved : goal.loop-subcommand-preserved
loop-subcommand-preserved c =
    fold_next with_sub root_app c.args.subcommands.now c.loop-subcommand.subcommand-index _ _ _ (omega arith) c.loop-subcommand.invariant c.in_ok-command.ensures

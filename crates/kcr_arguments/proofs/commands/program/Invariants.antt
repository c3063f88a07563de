use Rattle.std.proofs.Common.{◌≡◌, take}
use Rattle.std.specs.Prelude.{fold}
use Rattle.clap.specs.Words.{app_of}
use Rattle.kcr_arguments.specs.Commands.{root_app, with_sub}
use Rattle.kcr_arguments.proofs.commands.program.Given as goal

abbrev pub invariant-loop-subcommand : goal.invariant-loop-subcommand
invariant-loop-subcommand l = app_of l.command ≡ fold with_sub root_app (take l.subcommand-index l.subcommands)

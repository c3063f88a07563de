use Rattle.std.proofs.Common.{◌≡◌, false, take}
use Rattle.std.specs.Prelude.{fold}
use Rattle.clap.specs.{Words.app_of, Words.new_app, Words.with_rule, declared.builder.command.Command.TheViews.out-Command}
use Rattle.kcr_arguments.specs.Commands.{file_rule, with_option}
use Rattle.kcr_arguments.proofs.commands.command_of.Given as goal

abbrev pub invariant-loop-option : goal.invariant-loop-option
invariant-loop-option l =
    (app_of l.command ≡ fold with_option (with_rule (new_app l.subcommand.name.now) file_rule) (take l.option-index l.subcommand.options.now))
    × ((out-Command l.command).has_globals ≡ false)

use Rattle.kcr_arguments.specs.Commands.{tool_app, with_option, with_sub}
use Rattle.kcr_arguments.proofs.commands.tool.Goals as goal

pub returns : goal.returns
unfolding tool_app with_option with_sub
returns c = c.program.ensures

use Rattle.kcr_tool.proofs.verify.lines_of_number.Goals as goal

pub returns : goal.returns
returns c = rw (c.format-place.ensures.text, c.format.ensures.text) at c.lines_of_command.ensures

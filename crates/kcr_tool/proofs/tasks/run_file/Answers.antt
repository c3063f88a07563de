use Rattle.kcr_tool.proofs.Common.{whole}
use Rattle.kcr_tool.proofs.tasks.run_file.Goals as goal

pub returns-clause-led : goal.returns-clause-led
returns-clause-led g c clean A held = c.run-ended.ensures.led clean (whole A) (c.in_ok-register.ensures.stands A held)

use Rattle.kcr_tool.proofs.{Common.whole, Served.served_to}
use Rattle.kcr_tool.proofs.listen.serve_file.Goals as goal

pub returns-clause-led : goal.returns-clause-led
returns-clause-led g c clean A held =
    served_to _ _ _ _ _ c.listen-served.ensures.connects clean (whole A) (c.in_ok-register.ensures.stands A held)

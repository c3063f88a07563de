use Rattle.kcr_wire.proofs.Common.{sym, ap, ◌∙◌, IfOk-weaker}
use Rattle.kcr_wire.specs.ActTexts.{act_of}
use Rattle.kcr_wire.proofs.Again.{act-again, found-is}
use Rattle.kcr_wire.proofs.endpoint.RouteTable.read_act.Goals as goal

pub returns-clause-found : goal.returns-clause-found
returns-clause-found c = IfOk-weaker c.act_of_text.result _ _ (λ found h. found-is c.args.text.now found h) c.act_of_text.ensures

pub returns-clause-only : goal.returns-clause-only
returns-clause-only c = IfOk-weaker c.act_of_text.result _ _ (λ found h act is e. h ∙ ap act_of (sym e) ∙ act-again act is) c.act_of_text.ensures

use Rattle.kcr_room.proofs.{Common.arith, Common.common_steps, Agreement.same-present}
use Rattle.kcr_room.proofs.sheet.present.Goals as goal

pub returns : goal.returns
returns c = grind (arith, common_steps, same-present c.args.rows.now c.args.ceremony c.args.at)

use Rattle.kcr_room.proofs.{Common.arith, Common.common_steps, Orders.present-more}
use Rattle.kcr_room.proofs.presence.present_in.Goals as goal

pub loop-stay-preserved : goal.loop-stay-preserved
loop-stay-preserved c =
    let more = present-more c.args.stays.now c.loop-stay.stay-index c.args.ceremony c.args.at c.stay-item.result c.loop-stay-test.true in
    grind (arith, common_steps, more, c.stay-item.is)

use Rattle.kcr_room.proofs.Common.{[], ap, arith, length, ◌∙◌, common_steps}
use Rattle.kcr_room.proofs.Ends.{ends-many, with-ends}
use Rattle.kcr_room.proofs.stays.stays_of.Goals as goal

pub stays_with-requires : goal.stays_with-requires
stays_with-requires c = ap length (c.deref.ensures.value ∙ c.in_ok-ends.ensures) ∙ ends-many [] c.args.rows.now

pub returns : goal.returns
returns c = grind (arith, common_steps, with-ends [] c.args.rows.now)

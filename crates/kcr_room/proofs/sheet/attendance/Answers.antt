use Rattle.kcr_room.proofs.{Common.arith, Common.common_steps, Listed.onto-none, Listed.onto-last}
use Rattle.std.proofs.lemmas.Bool.Decides.{nat_tests}
use Rattle.kcr_room.proofs.sheet.attendance.Goals as goal

pub loop-stay-init : goal.loop-stay-init
loop-stay-init c = grind (arith, common_steps, onto-none)

pub loop-stay-preserved-in-Continue-branch-2 : goal.loop-stay-preserved-in-Continue-branch-2
loop-stay-preserved-in-Continue-branch-2 c = grind (arith, common_steps, nat_tests, onto-last)

pub loop-stay-preserved : goal.loop-stay-preserved
loop-stay-preserved c = grind (arith, common_steps, nat_tests, onto-last)

use Rattle.kcr_wire.proofs.{Common.rules, Tables.all-can}
use Rattle.kcr_wire.specs.Routes.{table}
use Rattle.kcr_wire.proofs.route.router.Goals as goal

pub router_of-requires : goal.router_of-requires
router_of-requires c = all-can

pub returns : goal.returns
unfolding table
returns c = search rules

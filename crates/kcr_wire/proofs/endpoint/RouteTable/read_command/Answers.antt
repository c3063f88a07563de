use Rattle.kcr_wire.proofs.{Common.IfOk, Common.sym, Common.subst, Targets.IsEndpoint, Targets.target-is}
use Rattle.kcr_wire.proofs.ReadCommands.{OfValues, posted-is}
use Rattle.kcr_wire.proofs.endpoint.RouteTable.read_command.Goals as goal

pub returns-in-Ok-posted-clause-values : goal.returns-in-Ok-posted-clause-values
returns-in-Ok-posted-clause-values c =
    let path = subst (λ r. IfOk r IsEndpoint) (sym c.in-Ok.ensures) (target-is c.args.target.now) in
    subst (λ r. IfOk r OfValues) c.in-Ok-posted.ensures (posted-is c.in-Ok.endpoint path c.args.body.now)

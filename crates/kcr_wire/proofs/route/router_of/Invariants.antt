use Rattle.kcr_wire.proofs.Common.{◌≡◌, [], true, drop, rows_of}
use Rattle.kcr_wire.specs.Routes.{add_all, can_add_all}
use Rattle.kcr_wire.proofs.route.router_of.Given as goal

abbrev pub invariant-loop-pattern : goal.invariant-loop-pattern
invariant-loop-pattern l =
    (add_all l.router (rows_of (drop l.pattern-index l.routes)) ≡ add_all [] (rows_of l.routes))
    × (can_add_all l.router (rows_of (drop l.pattern-index l.routes)) ≡ true)

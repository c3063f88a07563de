use Rattle.kcr_wire.proofs.Common.{sym, ◌∙◌, ◌+◌, arith, subst, true, ◌≡◌, drop, RouterState, rows_of}
use Rattle.kcr_wire.specs.Routes.{can_add_all}
use Rattle.kcr_wire.proofs.Tables.{add_all-turn, add_all-end, can_add_all-turn}
use Rattle.kcr_wire.proofs.route.router_of.Goals as goal

pub add-requires : goal.add-requires
add-requires c = (can_add_all-turn c.loop-pattern.router c.args.routes.now c.loop-pattern.pattern-index _ (omega arith) c.loop-pattern.invariant.1).0

pub loop-pattern-preserved : goal.loop-pattern-preserved
loop-pattern-preserved c =
    let routes = c.args.routes.now in
    let i = c.loop-pattern.pattern-index in
    let can = can_add_all-turn c.loop-pattern.router routes i _ (omega arith) c.loop-pattern.invariant.1 in
    let is = c.in_ok-add.ensures in (
      add_all-turn routes i _ c.loop-pattern.router c.add.new.router (omega arith) is ∙ c.loop-pattern.invariant.0,
      subst (λ (held : RouterState). can_add_all held (rows_of (drop (i + 1) routes)) ≡ true) (sym is) can.1,
    )

pub returns : goal.returns
returns c = sym (add_all-end c.loop-pattern.router c.args.routes.now c.loop-pattern.pattern-index c.loop-pattern-test.false) ∙ c.loop-pattern.invariant.0

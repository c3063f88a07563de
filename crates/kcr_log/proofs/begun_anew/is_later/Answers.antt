use Rattle.std.proofs.Common.{◌≡◌, ◌-◌, arith}
use Rattle.std.proofs.lemmas.Bool.Decides.{nat_tests}
use Rattle.kcr_log.specs.BegunAnew.{is_later}
use Rattle.kcr_log.proofs.BegunAnew.{step}
use Rattle.kcr_log.proofs.begun_anew.is_later.Goals as goal

pub returns-then-same : goal.returns-then-same
returns-then-same c =
    let next = step c.args.most c.loop.counter c.loop.count c.args.second c.next-count.result c.loop-test.true c.next-count.ensures in
    grind (arith, nat_tests, next)

pub loop-preserved : goal.loop-preserved
loop-preserved c =
    let next = step c.args.most c.loop.counter c.loop.count c.args.second c.next-count.result c.loop-test.true c.next-count.ensures in
    grind (arith, nat_tests, next)

pub returns : goal.returns
unfolding is_later
returns c = let none : c.args.most - c.loop.counter ≡ 0 = omega (arith, c.loop-test.false) in rw none at c.loop.invariant

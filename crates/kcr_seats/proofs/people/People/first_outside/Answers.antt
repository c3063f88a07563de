use Rattle.std.proofs.Common.{arith, eq-eqb, ap, ◌==◌}
use Rattle.std.proofs.lemmas.Bool.{eqb-true}
use Rattle.kcr_seats.specs.People.{contains}
use Rattle.kcr_seats.proofs.PeopleBits.{in_neither, lowest}
use Rattle.kcr_seats.proofs.people.People.first_outside.Goals as goal

pub returns-then-left-eq0-clause-none : goal.returns-then-left-eq0-clause-none
unfolding contains
returns-then-left-eq0-clause-none c = λ person h.
    eq-eqb _ 1 (in_neither c.args.self.mask c.args.others.mask person (omega arith) (omega arith) c.if-left-eq0.true (eqb-true _ 1 h))

pub returns-clause-inside : goal.returns-clause-inside
unfolding contains
returns-clause-inside c = eq-eqb _ 1 (lowest c.args.self.mask c.args.others.mask (omega arith) (omega arith) c.if-left-eq0.false).0

pub returns-clause-outside : goal.returns-clause-outside
unfolding contains
returns-clause-outside c = ap (λ n. n == 1) (lowest c.args.self.mask c.args.others.mask (omega arith) (omega arith) c.if-left-eq0.false).1

use Rattle.std.proofs.Common.{eq-eqb, ap, ◌==◌}
use Rattle.std.specs.Int.{w128}
use Rattle.std.proofs.lemmas.Nat.Bits.{bit_at_set_same, bit_at_set_other}
use Rattle.kcr_seats.specs.People.{contains}
use Rattle.kcr_seats.proofs.people.People.with.Goals as goal

pub returns-clause-here : goal.returns-clause-here
unfolding contains
returns-clause-here c = eq-eqb _ 1 (bit_at_set_same w128 c.args.self.mask c.args.person c.requires)

pub returns-clause-others : goal.returns-clause-others
unfolding contains
returns-clause-others c = λ other ne. ap (λ n. n == 1) (bit_at_set_other w128 c.args.self.mask c.args.person c.requires other ne)

use Rattle.std.proofs.Common.{arith, tests}
use Rattle.std.proofs.lemmas.Nat.{one_shl, pow_pos, Bits.and_pow, Bits.bit_at-lt}
use Rattle.kcr_seats.specs.People.{contains}
use Rattle.kcr_seats.proofs.people.People.contains.Goals as goal

pub returns : goal.returns
unfolding contains
returns c =
    let bit = bit_at-lt c.args.self.mask c.args.person in
    grind (arith, tests, one_shl c.args.person 128 c.requires, and_pow c.args.self.mask c.args.person, pow_pos c.args.person, bit)

use Rattle.std.proofs.{Common.refl, lemmas.Nat.Bits.bit_at-zero}
use Rattle.kcr_seats.specs.People.{contains}
use Rattle.kcr_seats.proofs.people.People.none.Goals as goal

pub returns : goal.returns
unfolding contains
returns c = λ person. rw (bit_at-zero person) refl

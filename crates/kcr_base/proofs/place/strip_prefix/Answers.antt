use Rattle.std.proofs.lemmas.{Bool.Decides.Decides-eqb, Slice.Eq.strip_prefix_is}
use Rattle.kcr_base.proofs.place.strip_prefix.Goals as goal

pub returns : goal.returns
returns c = strip_prefix_is Decides-eqb c.args.bytes.now c.args.front.now _ c.strip_prefix.ensures.cases

use Rattle.std.proofs.lemmas.{Bool.Decides.Decides-eqb, Slice.Eq.strip_suffix_is}
use Rattle.kcr_custody.proofs.spots.strip_suffix.Goals as goal

pub returns : goal.returns
returns c = strip_suffix_is Decides-eqb c.args.bytes.now c.args.back.now _ c.strip_suffix.ensures.cases

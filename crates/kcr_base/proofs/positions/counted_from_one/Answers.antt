use Rattle.std.proofs.Common.{◌∙◌, arith}
use Rattle.std.proofs.lemmas.List.{length-set}
use Rattle.kcr_base.proofs.PositionsLemmas.{length_below, filled_more}
use Rattle.kcr_base.proofs.positions.counted_from_one.Goals as goal

pub loop-place-preserved : goal.loop-place-preserved
loop-place-preserved c =
    let short = length_below c.args.indices.now 16 c.requires.rising c.requires.below in
    (length-set _ _ _ ∙ c.loop-place.invariant.0, filled_more _ _ _ c.loop-place-test.true (omega arith) c.loop-place.invariant.1)

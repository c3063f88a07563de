use Rattle.std.proofs.Common.{◌∙◌}
use Rattle.std.specs.Cmp.Lexicographic.{same_text as equal_texts}
use Rattle.kcr_custody.proofs.DestinationLemmas.{only-safe}
use Rattle.kcr_custody.proofs.destinations.read_destination.Goals as goal

pub returns-then-eq-clause-only : goal.returns-then-eq-clause-only
returns-then-eq-clause-only c v is e =
    only-safe v is (e ∙ equal_texts c.args.bytes.now c.as_slice.result.now c.if-eq.ensures ∙ c.as_slice.ensures)

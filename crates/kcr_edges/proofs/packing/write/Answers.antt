use Rattle.std.proofs.Common.{◌∙◌, ap₂}
use Rattle.std.proofs.lemmas.Bool.{and_parts, and_from}
use Rattle.kcr_edges.specs.Image.{image}
use Rattle.kcr_edges.proofs.Filling.{filled}
use Rattle.kcr_edges.proofs.packing.write.Goals as goal

pub returns-clause-was : goal.returns-clause-was
returns-clause-was g c clean =
    let each = and_parts _ _ clean in
    c.requires.empty (and_from _ _ (c.in_ok-sync.ensures.clean each.0) (c.in_ok-write_at.ensures.clean (c.in_ok-sync-2.ensures.clean each.1)))

pub returns-clause-safe : goal.returns-clause-safe
returns-clause-safe g c clean left leaves =
    let none = returns-clause-was g c clean in
    ap₂ image (c.in_ok-sync.ensures.durable left.log leaves.0 ∙ none.0)
    (c.in_ok-sync-2.ensures.durable left.db leaves.1 ∙ filled _ _ _ none.1 c.in_ok-write_at.ensures.written c.in_ok-write_at.ensures.others)

use Rattle.std.proofs.Common.{◌∙◌, arith}
use Rattle.std.proofs.lemmas.{Bool.and_parts, Bool.Decides.nat_tests, List.nil_from_length}
use Rattle.kcr_edges.proofs.packing.are_empty.Goals as goal

pub returns-in_ok-len-2-clause-empty : goal.returns-in_ok-len-2-clause-empty
returns-in_ok-len-2-clause-empty g c is_zero clean =
    let each = and_parts _ _ clean in
    let log = c.in_ok-len-2.ensures.len each.0 in
    let file = c.in_ok-len.ensures.len each.1 in (
      c.len-then-branch-eq0.ensures.seen ∙ nil_from_length _ (grind (arith, nat_tests, log)),
      c.len.ensures.seen ∙ nil_from_length _ (grind (arith, nat_tests, file)),
    )

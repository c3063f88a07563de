use Rattle.kcr_script.proofs.Common.{◌≤◌, length, map, arith, length-map, fields_of}
use Rattle.std.proofs.lemmas.Grind.{common_steps}
use Rattle.kcr_script.proofs.StepLemmas.{has_steps}
use Rattle.kcr_script.proofs.reader.read_rows.Goals as goal

pub of-requires : goal.of-requires
of-requires c =
    let some : 1 ≤ length c.in-Some.rest.now = grind (arith, common_steps) in
    has_steps (map fields_of c.in-Some.rest.now) _ c.in-Ok.ensures.found (simp length-map some)

use Rattle.kcr_rules.proofs.Common.{rules, tests, PutSheet}
use Rattle.std.proofs.lemmas.Iterator.{YieldsList-from_map, YieldsList-from_slice, items_from_collect}
use Rattle.kcr_room.specs.Requests.{new_row}
use Rattle.kcr_room.proofs.Lists.{map-map}
use Rattle.kcr_rules.proofs.sheet.row_changes.Goals as goal

pub returns : goal.returns
returns c =
    let asked = c.args.request.now in
    simp map-map (
    items_from_collect _ c.collect.ensures.ran (YieldsList-from_map _ (λ who. PutSheet (new_row asked.ceremony asked.way asked.at who))
    (YieldsList-from_slice asked.people.now (cc)) c.map.ensures.closure (λ x r q k. search (rules, tests))))

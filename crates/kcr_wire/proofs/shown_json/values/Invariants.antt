use Rattle.kcr_wire.proofs.Common.{◌≡◌, map, take, view}
use Rattle.kcr_wire.proofs.shown_json.values.Given as goal

abbrev pub invariant-loop-thing : goal.invariant-loop-thing
invariant-loop-thing g l = map view l.values.items ≡ map g.T.ToJson.json (take l.thing-index l.things)

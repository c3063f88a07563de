use Rattle.kcr_wire.proofs.Common.{◌≡◌, map, take, string, view}
use Rattle.kcr_wire.proofs.body_members.code_values.Given as goal

abbrev pub invariant-loop-code : goal.invariant-loop-code
invariant-loop-code g l = map view l.values.items ≡ map (λ code. string (g.T.Written.text code)) (take l.code-index l.codes)

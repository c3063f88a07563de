use Rattle.kcr_wire.proofs.Common.{refl, false≢true}
use Rattle.kcr_wire.proofs.Json.{json-some, json-none}
use Rattle.kcr_wire.proofs.body.read_body.Goals as goal

pub returns-in-Ok-clause-ok : goal.returns-in-Ok-clause-ok
returns-in-Ok-clause-ok c = json-some _ _ c.in-Ok.ensures.ok

pub returns-else-is_memory-clause-err : goal.returns-else-is_memory-clause-err
returns-else-is_memory-clause-err c = λ _. (refl, json-none _ (c.in-Err.ensures.err (λ m. false≢true (c.if-is_memory.ensures.1 m))))

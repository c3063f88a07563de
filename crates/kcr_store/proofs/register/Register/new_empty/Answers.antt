use Rattle.kcr_store.proofs.Common.{[], inl, refl}
use Rattle.kcr_store.proofs.register.Register.new_empty.Goals as goal

-- an empty database is that of no command
pub returns-in-Ok-clause-new : goal.returns-in-Ok-clause-new
returns-in-Ok-clause-new g c = (c.in-Ok.ensures.adopted [] (λ clean live. inl (c.requires.empty, refl)), c.in-Ok.ensures.kept)

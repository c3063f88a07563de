use Rattle.kcr_store.proofs.Common.{refl}
use Rattle.sqlite_trees.specs.View.{doubt}
use Rattle.kcr_store.proofs.register.Register+MemStore.in_memory.Goals as goal

-- the disk of a store in memory is never in doubt
pub new_empty-requires-clause-certain : goal.new_empty-requires-clause-certain
unfolding doubt
new_empty-requires-clause-certain c conn = refl
